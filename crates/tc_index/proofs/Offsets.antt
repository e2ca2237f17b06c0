-- The value of each attribute is at its offset in the message.
use Rattle.std.proofs.Common.{◌≡◌, ◌⊎◌, ℕ, zero, suc, ◌+◌, ◌-◌, ◌<◌, ◌≤◌, List, [], ◌∷◌, ◌++◌, length, take, drop, Option, Some, None, Ok, Err, refl, sym, ap, ◌∙◌, arith, inl, inr}
use Rattle.std.specs.List.{AllByRecursion}
use Rattle.std.proofs.lemmas.Bool.{cases_lt}
use Rattle.std.proofs.lemmas.List.{length-drop, length-take-le, drop-drop, drop-take, take-take, drop_all, take_all}
use Rattle.nla_frames.specs.declared.error.DecodeError.{DecodeError}
use Rattle.nla_frames.specs.Frame.{Frame, type_of, padding, frame_length}
use Rattle.nla_frames.specs.Grammar.{length_at}
use Rattle.nla_frames.specs.Place.{Sets, kind_then}
use Rattle.nla_frames.specs.Reading.{keep}
use Rattle.nla_frames.specs.Cutting.{next_frame, cut, items_of}
use Rattle.nla_frames.proofs.NextFrame.{next_frame-is}
use Rattle.nla_frames.proofs.CutSteps.{by_frames, cut_refused}
use Rattle.nla_frames.proofs.Items.{items-nil, items-next_frame}
use Rattle.tc_canon.specs.Descriptor.{Table}
use Rattle.tc_index.specs.Nesting.{class_in, list_in}
use Rattle.tc_index.specs.Attributes.{Item, Yields, each, Walk, within, with_inner, attributes_in, to_fault, message_items}
use Rattle.tc_index.specs.Offsets.{IsAt, ValueIsAt}

-- ---- all items of a list

all-append : (P : Item → Type 0) (xs ys : List Item) → AllByRecursion P xs → AllByRecursion P ys → AllByRecursion P (xs ++ ys)
all-append P [] ys all rest = rest
all-append P (x ∷ xs) ys all rest = (all.0, all-append P xs ys all.1 rest)

all-to_fault : (P : Item → Type 0) (xs : List Item) → AllByRecursion P xs → AllByRecursion P (to_fault xs)
all-to_fault P [] all = tt
all-to_fault P (Ok p ∷ xs) all = (all.0, all-to_fault P xs all.1)
all-to_fault P (Err broken ∷ xs) all = (all.0, tt)

-- ---- bytes at an offset

-- a part of them
part : (whole bytes : List ℕ) (at from n : ℕ) → IsAt whole at bytes → from + n ≤ length bytes
    → IsAt whole (at + from) (drop from (take (from + n) bytes))
part whole bytes at from n there inside =
    let b = drop at whole in
    let same : take (from + n) bytes ≡ take (from + n) b = ap (take (from + n)) (sym there) ∙ take-take (from + n) (length bytes) b inside in
    let counted : length (drop from (take (from + n) bytes)) ≡ n =
    omega (arith, length-drop from (take (from + n) bytes), length-take-le (from + n) bytes inside) in
    rw counted (ap (take n) (sym (drop-drop from at whole)) ∙ sym (drop-take from n b) ∙ ap (drop from) (sym same))

module _ (bytes : List ℕ) (f : Frame) (after : List ℕ) (found : next_frame bytes ≡ Ok (f, after)) where
  -- the length at the front, which counts the header
  long : length_at bytes ≡ 4 + length f.value
  long =
      let next = next_frame-is bytes (f, after) found in
      let value : length (drop 4 (take (length_at bytes) bytes)) ≡ length f.value = ap (λ (x : Frame). length x.value) next.frame in
      omega (arith, next.whole, next.long, value, length-drop 4 (take (length_at bytes) bytes), length-take-le (length_at bytes) bytes next.whole)

  -- the value of the first frame
  value-at : (whole : List ℕ) (at : ℕ) → IsAt whole at bytes → IsAt whole (at + 4) f.value
  value-at whole at there =
      let next = next_frame-is bytes (f, after) found in
      let value : drop 4 (take (4 + length f.value) bytes) ≡ f.value =
      ap (λ (n : ℕ). drop 4 (take n bytes)) (sym long) ∙ ap (λ (x : Frame). x.value) next.frame in
      rw value at (part whole bytes at 4 (length f.value) there (omega (arith, long, next.whole)))

  -- the bytes after it
  after-at : (whole : List ℕ) (at : ℕ) → IsAt whole at bytes → IsAt whole (at + frame_length f) after
  after-at whole at there = go (cases_lt (length bytes) (frame_length f))
    where
      rest : after ≡ drop (frame_length f) bytes
      rest =
          let next = next_frame-is bytes (f, after) found in
          let pads : padding (4 + length f.value) ≡ padding (length f.value) = omega arith in
          let whole_frame : length_at bytes + padding (length_at bytes) ≡ frame_length f =
          ap (λ (n : ℕ). n + padding n) long ∙ ap (λ (n : ℕ). 4 + length f.value + n) pads in
          sym next.rest ∙ drop-drop (padding (length_at bytes)) (length_at bytes) bytes ∙ ap (λ (n : ℕ). drop n bytes) whole_frame

      go : (length bytes < frame_length f) ⊎ (frame_length f ≤ length bytes) → IsAt whole (at + frame_length f) after
      go (inl short) = let none : after ≡ [] = rest ∙ drop_all (frame_length f) bytes (omega arith) in rw none refl
      go (inr inside) =
          let all : frame_length f + (length bytes - frame_length f) ≡ length bytes = omega arith in
          let parts = part whole bytes at (frame_length f) (length bytes - frame_length f) there (omega arith) in
          let same : drop (frame_length f) (take (frame_length f + (length bytes - frame_length f)) bytes) ≡ after =
          ap (drop (frame_length f)) (take_all (frame_length f + (length bytes - frame_length f)) bytes (omega arith)) ∙ sym rest in
          rw same at parts

-- ---- the attributes of a list

abbrev ValuesAreAt : List ℕ → Yields → Sets Frame → List ℕ → Type 0
ValuesAreAt whole yields sets bytes =
    (k : List ℕ) (at : ℕ) → IsAt whole at bytes → AllByRecursion (ValueIsAt whole) (each yields sets k at (items_of (cut bytes)))

module _ (whole : List ℕ) where
  module _ (yields : Yields) (sets : Sets Frame)
      (one_at : (k : List ℕ) (at : ℕ) (f : Frame) → IsAt whole at f.value → AllByRecursion (ValueIsAt whole) (yields k at f)) where
    each-at : (bytes : List ℕ) → ValuesAreAt whole yields sets bytes
    each-at = by_frames (ValuesAreAt whole yields sets) none broken more
      where
        none : ValuesAreAt whole yields sets []
        none k at there = rw items-nil tt

        broken : (bytes : List ℕ) (e : DecodeError) → 0 < length bytes → next_frame bytes ≡ Err e → ValuesAreAt whole yields sets bytes
        broken bytes e some is k at there = rw (cut_refused bytes e some is) (tt, tt)

        more : (bytes : List ℕ) (f : Frame) (after : List ℕ) → next_frame bytes ≡ Ok (f, after)
            → ValuesAreAt whole yields sets after → ValuesAreAt whole yields sets bytes
        more bytes f after is later k at there =
            rw (items-next_frame bytes (f, after) is)
            (all-append (ValueIsAt whole) (yields k (at + 4) f) (each yields sets (kind_then sets k f) (at + frame_length f) (items_of (cut after)))
            (one_at k (at + 4) f (value-at bytes f after is whole at there))
            (later (kind_then sets k f) (at + frame_length f) (after-at bytes f after is whole at there)))

  inner-at : (walk : Walk)
      → ((t : Table) (k : List ℕ) (depth at : ℕ) (bytes : List ℕ) → IsAt whole at bytes → AllByRecursion (ValueIsAt whole) (walk t k depth at bytes))
      → (t : Table) (depth : ℕ) (k : List ℕ) (at : ℕ) (f : Frame) → IsAt whole at f.value → AllByRecursion (ValueIsAt whole) (with_inner walk t depth k at f)
  inner-at walk all t depth k at f there = (there, go (list_in (class_in t (type_of f.word) k) k f.value))
    where
      go : (list : Option (Table × List ℕ)) → AllByRecursion (ValueIsAt whole) (within walk list (suc depth) at f.value)
      go None = tt
      go (Some list) = all list.0 list.1 (suc depth) at f.value there

  list-at : (n : ℕ) (t : Table) (k : List ℕ) (depth at : ℕ) (bytes : List ℕ) → IsAt whole at bytes
      → AllByRecursion (ValueIsAt whole) (attributes_in n t k depth at bytes)
  unfolding attributes_in
  list-at zero t k depth at bytes there = tt
  list-at (suc n) t k depth at bytes there =
      each-at (with_inner (attributes_in n) t depth) keep (λ k at f. inner-at (attributes_in n) (list-at n) t depth k at f) bytes k at there

-- a message
pub message-at : (header : ℕ) (t : Table) (sets : Sets Frame) (bytes : List ℕ) → AllByRecursion (ValueIsAt bytes) (message_items 4 header t sets bytes)
message-at header t sets bytes =
    let body : IsAt bytes header (drop header bytes) = take_all (length (drop header bytes)) (drop header bytes) (omega arith) in
    all-to_fault (ValueIsAt bytes) _
    (each-at bytes (with_inner (attributes_in 4) t 0) sets (λ k at f. inner-at bytes (attributes_in 4) (list-at bytes 4) t 0 k at f)
    (drop header bytes) [] header body)
