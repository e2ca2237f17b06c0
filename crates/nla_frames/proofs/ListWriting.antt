-- Lists as they are written, one item after the other.
use Rattle.std.proofs.Common.{◌≡◌, ℕ, ◌+◌, ◌-◌, ◌<◌, ◌≤◌, List, [], ◌∷◌, ◌++◌, length, map, take, drop, get_or, refl, sym, ◌∙◌, ap, subst, arith, length-append}
use Rattle.std.proofs.Common.{length-drop, take-add}
use Rattle.std.specs.List.{AllByRecursion}
use Rattle.std.proofs.lemmas.List.{length-take, length-take-le, take_all, take_at, drop_at, drop-drop}
use Rattle.nla_frames.specs.Frame.{Frame, frame_bytes, frame_length}
use Rattle.nla_frames.specs.Emission.{Writes, HasRoom, list_bytes}
use Rattle.nla_frames.proofs.FrameBytes.{length_frame_bytes}
use Rattle.nla_frames.proofs.Writing.{front_and_back}
use borrow.Rule.Slice.PartMut.{put_mid}

-- the item stands at this index
pub record IsAt {Y : Type 0} (items : List Y) (i : ℕ) (item : Y) : Type 0 where
  pub within : i < length items
  pub is : item ≡ get_or items i item

-- no item has no bytes, and is of any kind
pub of_no_item : {Y X : Type 0} (see : Y → X) (items : List Y) → length items < 1 → (frame : X → Frame) (P : X → Type 0)
    → AllByRecursion P (map see items) × (length (list_bytes frame (map see items)) ≡ 0)
unfolding list_bytes
of_no_item see [] none frame P = (tt, refl)
of_no_item see (y ∷ ys) none frame P = absurd (omega arith)

-- items that are cut after the first
module _ {Y X : Type 0} (see : Y → X) (items : List Y) (first : Y) (some : 1 ≤ length items) (is : first ≡ get_or items 0 first) where
  -- the others
  abbrev pub others : List Y
  others = take (length items - 1) (drop 1 items)

  pub first_and_others : items ≡ first ∷ others
  first_and_others = go items some is
    where
      go : (ys : List Y) → 1 ≤ length ys → first ≡ get_or ys 0 first → ys ≡ first ∷ take (length ys - 1) (drop 1 ys)
      go [] some is = absurd (omega arith)
      go (y ∷ ys) some is =
          let rest : take (length (y ∷ ys) - 1) ys ≡ ys = take_all (length (y ∷ ys) - 1) ys (omega arith) in
          rw (rest, is) refl

  -- the bytes of all are those of the first, and of the others
  pub length_first_and_others : (frame : X → Frame) → length (list_bytes frame (map see items))
      ≡ frame_length (frame (see first)) + length (list_bytes frame (map see others))
  unfolding list_bytes
  length_first_and_others frame =
      let cut = ap (λ (ys : List Y). length (list_bytes frame (map see ys))) first_and_others in
      omega (arith, cut, length-append (frame_bytes (frame (see first))) (list_bytes frame (map see others)), length_frame_bytes (frame (see first)))

  -- what all are, the first is and the others are
  pub all_first_and_others : (P : X → Type 0) → AllByRecursion P (map see items) → P (see first) × AllByRecursion P (map see others)
  all_first_and_others P all = subst (λ (ys : List Y). AllByRecursion P (map see ys)) first_and_others all

  -- what the first is and the others are, all are
  pub first_and_others_all : (P : X → Type 0) → P (see first) → AllByRecursion P (map see others) → AllByRecursion P (map see items)
  first_and_others_all P one rest = subst (λ (ys : List Y). AllByRecursion P (map see ys)) (sym first_and_others) (one, rest)

  -- the bytes of all are those of the first and then those of the others
  pub bytes_first_and_others : (frame : X → Frame)
      → list_bytes frame (map see items) ≡ frame_bytes (frame (see first)) ++ list_bytes frame (map see others)
  unfolding list_bytes
  bytes_first_and_others frame = ap (λ (ys : List Y). list_bytes frame (map see ys)) first_and_others

-- where the bytes that are left of a whole have a front, they go on after it
module _ (whole left front back : List ℕ) (at n : ℕ) (within : at ≤ length whole) (is : left ≡ drop at whole) (parts : left ≡ front ++ back)
    (long : n ≡ length front) where
  pub ends_within : at + n ≤ length whole
  ends_within = omega (arith, length-drop at whole, ap length (sym is ∙ parts), length-append front back)

  pub left_after : back ≡ drop (at + n) whole
  left_after = sym (drop_at front back n (sym long)) ∙ ap (drop n) (sym parts ∙ is) ∙ drop-drop n at whole

  pub front_of_whole : take (at + n) whole ≡ take at whole ++ front
  front_of_whole = take-add at n whole ∙ ap (λ (x : List ℕ). take at whole ++ x) (ap (take n) (sym is ∙ parts) ∙ take_at front back n (sym long))

  -- the front has room after what is written
  pub front_room : (old now : List ℕ) → HasRoom whole old → length now ≡ length old → HasRoom front (take (length now - at) (drop at now))
  front_room old now room same_length = omega (arith, ends_within, length-take (length now - at) (drop at now), length-drop at now)

  -- and is written there
  pub front_written : (old now after : List ℕ) → HasRoom whole old → Writes (take at whole) old now
      → Writes front (take (length now - at) (drop at now)) after → Writes (take (at + n) whole) old (put_mid at (length now - at) now after)
  front_written old now after room before next =
      let so_far : at ≡ length (take at whole) = sym (length-take-le at whole within) in
      subst (λ bytes. Writes bytes old (put_mid at (length now - at) now after)) (sym front_of_whole)
      (front_and_back (take at whole) front old now after at so_far (omega (arith, so_far, ends_within)) before next)
