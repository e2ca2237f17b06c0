-- A frame at an offset, and the offset of the next one.
use Rattle.std.proofs.Common.{◌≡◌, ℕ, ◌+◌, ◌-◌, ◌%◌, ◌<◌, List, length, take, drop, refl, sym, ap, ◌∙◌, arith}
use Rattle.std.proofs.lemmas.List.{length-drop, length-take-le, drop-take, drop-drop}
use Rattle.nla_frames.specs.Fault.{read_as}
use Rattle.nla_frames.specs.Frame.{Frame}
use Rattle.nla_frames.specs.Grammar.{length_at}
use Rattle.nla_frames.specs.Buffer.{first_of}
use Rattle.nla_frames.specs.Cutting.{next_frame}
use Rattle.nla_frames.proofs.NextFrame.{next_frame-is}
use Rattle.tc_index.proofs.Frames.{takes}
use Rattle.tc_ffi_index.specs.Next.{NextsIs}

pub step : (bytes rest : List ℕ) (at : ℕ) (f : Frame) (long n : ℕ) → at < length bytes → rest ≡ drop at bytes → read_as f ≡ first_of (next_frame rest)
    → long ≡ 4 + length f.value → n ≡ Prim.Native.Nat.min (long + (4 - long % 4) % 4) (length rest)
    → NextsIs bytes at (at + n) (record { offset = at + 4; len = long - 4; word = f.word }) 0 (next_frame (drop at bytes))
step bytes rest at f long n inside is first long_is n_is =
    let t = takes rest f long n first long_is n_is in
    let front = next_frame-is rest (f, drop n rest) t.next in
    let l = length_at rest in
    let value : drop 4 (take l rest) ≡ f.value = ap (λ (x : Frame). x.value) front.frame in
    let measured : length (drop 4 (take l rest)) ≡ length f.value = ap length value in
    let counted : length (drop 4 (take l rest)) ≡ l - 4 = length-drop 4 (take l rest) ∙ ap (λ (x : ℕ). x - 4) (length-take-le l rest front.whole) in
    let four : l ≡ 4 + (long - 4) = omega (arith, front.long, measured, counted, long_is) in
    let taken : take (long - 4) (drop 4 rest) ≡ f.value = sym (drop-take 4 (long - 4) rest) ∙ ap (λ (k : ℕ). drop 4 (take k rest)) (sym four) ∙ value in
    let at_value : drop (at + 4) bytes ≡ drop 4 rest = sym (drop-drop 4 at bytes) ∙ ap (λ (xs : List ℕ). drop 4 xs) (sym is) in
    let left : length rest ≡ length bytes - at = ap length is ∙ length-drop at bytes in
    let after : drop (at + n) bytes ≡ drop n rest = sym (drop-drop n at bytes) ∙ ap (λ (xs : List ℕ). drop n xs) (sym is) in
    rw (← is, t.next) (
      refl,
      record {
        shown = record { same_word = refl; same_len = omega (arith, long_is); value = rw at_value taken };
        offset = refl;
        rest = after;
        further = omega (arith, t.some);
        inside = omega (arith, t.within, left);
      },
    )
