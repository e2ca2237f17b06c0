-- The frame at the front of some bytes, and where the next one begins.
use Rattle.std.proofs.Common.{◌≡◌, ◌⊎◌, ℕ, ◌+◌, ◌-◌, ◌%◌, ◌≤◌, ◌<◌, List, [], length, take, drop, Ok, Err, refl, sym, ap, ◌∙◌, arith, inl, inr}
use Rattle.std.proofs.lemmas.Bool.{cases_lt}
use Rattle.std.proofs.lemmas.List.{length-drop, length-take-le, drop-drop, drop_all}
use Rattle.nla_frames.specs.Fault.{Outcome, read_as}
use Rattle.nla_frames.specs.Frame.{Frame, padding, frame_length}
use Rattle.nla_frames.specs.Grammar.{length_at}
use Rattle.nla_frames.specs.Buffer.{first_of}
use Rattle.nla_frames.specs.Cutting.{next_frame}
use Rattle.nla_frames.proofs.NextFrame.{next_frame-is}

-- the frame at the front takes n bytes: with its padding, or all bytes that are left
pub record Takes (rest : List ℕ) (f : Frame) (n : ℕ) : Type 0 where
  pub next : next_frame rest ≡ Ok (f, drop n rest)
  pub all : (n ≡ frame_length f) ⊎ (drop n rest ≡ [])
  pub within : n ≤ length rest
  pub some : 4 + length f.value ≤ n

-- dropping at most as many bytes as there are
skips : (rest : List ℕ) (n m : ℕ) → m ≡ Prim.Native.Nat.min n (length rest) → drop m rest ≡ drop n rest
skips rest n m is = go (cases_lt (length rest) n)
  where
    go : (length rest < n) ⊎ (n ≤ length rest) → drop m rest ≡ drop n rest
    go (inl l) = drop_all m rest (omega (arith, is)) ∙ sym (drop_all n rest (omega arith))
    go (inr l) = let e : m ≡ n = omega (arith, is) in ap (λ (k : ℕ). drop k rest) e

pub takes : (rest : List ℕ) (f : Frame) (long n : ℕ) → read_as f ≡ first_of (next_frame rest) → long ≡ 4 + length f.value
    → n ≡ Prim.Native.Nat.min (long + (4 - long % 4) % 4) (length rest) → Takes rest f n
takes rest f long n first long_is n_is = go (next_frame rest) refl first
  where
    go : (o : Outcome (Frame × List ℕ)) → next_frame rest ≡ o → read_as f ≡ first_of o → Takes rest f n
    go (Err e) found same = absurd cc
    go (Ok next) found same =
        let at_front = next_frame-is rest next found in
        let l = length_at rest in
        let front : f ≡ next.0 = cc in
        let value : drop 4 (take l rest) ≡ f.value = ap (λ (x : Frame). x.value) (at_front.frame ∙ sym front) in
        let measured : length (drop 4 (take l rest)) ≡ length f.value = ap length value in
        let counted : length (drop 4 (take l rest)) ≡ l - 4 =
        length-drop 4 (take l rest) ∙ ap (λ (x : ℕ). x - 4) (length-take-le l rest at_front.whole) in
        let same_long : l ≡ long = omega (arith, at_front.long, measured, counted, long_is) in
        let after : drop n rest ≡ next.1 =
        skips rest (long + padding long) n n_is ∙ sym (drop-drop (padding long) long rest) ∙ rw (← same_long) at_front.rest in
        record {
          next = found ∙ rw (← after, front) refl;
          all = either (cases_lt (length rest) (long + padding long));
          within = omega (arith, n_is);
          some = omega (arith, n_is, at_front.whole, same_long, long_is);
        }
      where
        either : (length rest < long + padding long) ⊎ (long + padding long ≤ length rest) → (n ≡ frame_length f) ⊎ (drop n rest ≡ [])
        either (inl l) = inr (drop_all n rest (omega (arith, n_is)))
        either (inr l) = let pads : padding (4 + length f.value) ≡ padding (length f.value) = omega arith in inl (omega (arith, n_is, long_is, pads))

-- the frame at the front is within the bytes
pub first-fits : (rest : List ℕ) (f : Frame) → read_as f ≡ first_of (next_frame rest) → 4 + length f.value ≤ length rest
first-fits rest f first =
    let t = takes rest f (4 + length f.value) (Prim.Native.Nat.min (4 + length f.value + (4 - (4 + length f.value) % 4) % 4) (length rest)) first refl refl in
    omega (arith, t.some, t.within)
