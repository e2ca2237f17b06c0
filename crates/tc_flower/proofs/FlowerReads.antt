-- The reading of a frame by flower's table, for each kind of value.
use Rattle.std.proofs.Common.{◌≡◌, ℕ, List, true, false, Ok, Err, refl, sym, ap, subst, ◌∙◌, arith}
use Rattle.std.specs.Prelude.{[], ◌&&◌, not, IsTrue}
use Rattle.std.proofs.lemmas.Bool.{and_parts}
use Rattle.std.proofs.lemmas.Bool.Decides.{nat_tests}
use Rattle.nla_frames.specs.Fault.{Outcome, seen}
use Rattle.nla_frames.specs.Frame.{Frame, type_of}
use Rattle.nla_frames.specs.Value.{exactly, le_number, be_number, text}
use Rattle.tc_canon.specs.Descriptor.{Class, le, be, array}
use Rattle.tc_canon.specs.Tables.Flower.{flower_options}
use Rattle.tc_meaning.specs.Tree.{Attribute, Content, known, other, number, is_bytes}
use Rattle.tc_meaning.specs.Meaning.{class_codec, rows_codec}
use Rattle.tc_flower.specs.Held.{are_labels}
use Rattle.tc_flower.specs.Spans.{holds, spans, is_in}
use Rattle.tc_flower.specs.Reading.{flower_read}
use Rattle.tc_flower.proofs.Spans.{class_read, spans_read}
use Rattle.tc_values.proofs.Unread.{rows_kept}

seen_twice : {X : Type 0} (after : Content → Attribute) (into : X → Content) (r : Outcome X)
    → seen after (seen into r) ≡ seen (λ x. after (into x)) r
seen_twice after into (Ok x) = refl
seen_twice after into (Err e) = refl

-- ---- types with one kind of value: their rows have one class

module _ (class : Class) {X : Type 0} (into : X → Content) (read : List ℕ → Outcome X)
    (reads : (v : List ℕ) → (class_codec class).read [] v ≡ seen into (read v)) where
  by_class : (f : Frame) → IsTrue (holds class flower_options (type_of f.word))
      → flower_read f ≡ seen (λ x. known (type_of f.word) (into x)) (read f.value)
  unfolding flower_read
  by_class f here =
      let n = type_of f.word in
      class_read class flower_options 0 n refl here [] f ∙ ap (seen (known n)) (reads f.value) ∙ seen_twice (known n) into (read f.value)

pub mac_read : (f : Frame) → IsTrue (holds (array 6) flower_options (type_of f.word))
    → flower_read f ≡ seen (λ x. known (type_of f.word) (is_bytes x)) (exactly 6 f.value)
mac_read = by_class (array 6) is_bytes (exactly 6) (λ v. refl)

pub ipv4_read : (f : Frame) → IsTrue (holds (array 4) flower_options (type_of f.word))
    → flower_read f ≡ seen (λ x. known (type_of f.word) (is_bytes x)) (exactly 4 f.value)
ipv4_read = by_class (array 4) is_bytes (exactly 4) (λ v. refl)

pub u8_read : (f : Frame) → IsTrue (holds (le 1) flower_options (type_of f.word))
    → flower_read f ≡ seen (λ x. known (type_of f.word) (number x)) (le_number 1 f.value)
u8_read = by_class (le 1) number (le_number 1) (λ v. refl)

pub u16_read : (f : Frame) → IsTrue (holds (le 2) flower_options (type_of f.word))
    → flower_read f ≡ seen (λ x. known (type_of f.word) (number x)) (le_number 2 f.value)
u16_read = by_class (le 2) number (le_number 2) (λ v. refl)

pub u16_be_read : (f : Frame) → IsTrue (holds (be 2) flower_options (type_of f.word))
    → flower_read f ≡ seen (λ x. known (type_of f.word) (number x)) (be_number 2 f.value)
u16_be_read = by_class (be 2) number (be_number 2) (λ v. refl)

pub u32_read : (f : Frame) → IsTrue (holds (le 4) flower_options (type_of f.word))
    → flower_read f ≡ seen (λ x. known (type_of f.word) (number x)) (le_number 4 f.value)
u32_read = by_class (le 4) number (le_number 4) (λ v. refl)

pub u32_be_read : (f : Frame) → IsTrue (holds (be 4) flower_options (type_of f.word))
    → flower_read f ≡ seen (λ x. known (type_of f.word) (number x)) (be_number 4 f.value)
u32_be_read = by_class (be 4) number (be_number 4) (λ v. refl)

pub ipv6_read : (f : Frame) → IsTrue (holds (array 16) flower_options (type_of f.word) && not (are_labels (type_of f.word)))
    → flower_read f ≡ seen (λ x. known (type_of f.word) (is_bytes x)) (exactly 16 f.value)
ipv6_read f here = by_class (array 16) is_bytes (exactly 16) (λ v. refl) f (and_parts _ _ here).0

labels_held : (n : ℕ) → are_labels n ≡ true → holds (array 16) flower_options n ≡ true
labels_held n here = grind (arith, nat_tests)

pub labels_read : (f : Frame) → IsTrue (are_labels (type_of f.word)) → flower_read f ≡ seen (λ x. known (type_of f.word) (is_bytes x)) (exactly 16 f.value)
labels_read f here = by_class (array 16) is_bytes (exactly 16) (λ v. refl) f (labels_held (type_of f.word) here)

-- ---- single types

module _ (n : ℕ) {X : Type 0} (into : X → Content) (read : List ℕ → Outcome X)
    (reads : (f : Frame) → (rows_codec flower_options n).read [] f ≡ seen (known n) (seen into (read f.value))) where
  read_alone : (f : Frame) → type_of f.word ≡ n → flower_read f ≡ seen (λ x. known n (into x)) (read f.value)
  unfolding flower_read
  read_alone f here =
      subst (λ m. (rows_codec flower_options m).read [] f ≡ seen (λ x. known n (into x)) (read f.value)) (sym here)
      (reads f ∙ seen_twice (known n) into (read f.value))

pub in_dev_read : (f : Frame) → type_of f.word ≡ 2 → flower_read f ≡ seen (λ x. known 2 (is_bytes x)) (text f.value)
in_dev_read = read_alone 2 is_bytes text (λ f. refl)

pub bos_read : (f : Frame) → type_of f.word ≡ 68 → flower_read f ≡ seen (λ x. known 68 (number x)) (le_number 1 f.value)
bos_read = read_alone 68 number (le_number 1) (λ f. refl)

pub tc_read : (f : Frame) → type_of f.word ≡ 69 → flower_read f ≡ seen (λ x. known 69 (number x)) (le_number 1 f.value)
tc_read = read_alone 69 number (le_number 1) (λ f. refl)

pub label_read : (f : Frame) → type_of f.word ≡ 70 → flower_read f ≡ seen (λ x. known 70 (number x)) (le_number 4 f.value)
label_read = read_alone 70 number (le_number 4) (λ f. refl)

pub other_read : (f : Frame) → is_in (spans flower_options) (type_of f.word) ≡ false → flower_read f ≡ Ok (other f.word f.value)
unfolding flower_read
other_read f none = rows_kept [] f flower_options (type_of f.word) (sym (spans_read flower_options 0 (type_of f.word) refl) ∙ none)
