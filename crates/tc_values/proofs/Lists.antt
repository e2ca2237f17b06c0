-- A list as the value of an attribute: how it is read, measured, written and settled.
use Rattle.std.proofs.Common.{◌≡◌, ◌↔◌, ℕ, List, Bool, IsTrue, Ok, map, refl, sym, ap, ◌∙◌}
use Rattle.std.specs.List.{AllByRecursion}
use Rattle.nla_frames.specs.declared.error.DecodeError.{DecodeError}
use Rattle.nla_frames.specs.Fault.{Returns, seen, read_as, refused}
use Rattle.nla_frames.specs.Frame.{Frame}
use Rattle.nla_frames.specs.Reading.{read_list, keep}
use Rattle.nla_frames.specs.Emission.{list_bytes, NestedFits}
use Rattle.nla_frames.specs.Codec.{SettledEach}
use Rattle.nla_frames.proofs.Outcomes.{Returns-err}
use Rattle.tc_canon.specs.Descriptor.{Table, Rows, table, list_of}
use Rattle.tc_meaning.specs.Tree.{Attribute, known, items, attributes_of, list_of_attributes}
use Rattle.tc_meaning.specs.Meaning.{a_list, class_codec, table_codec, IsShort}
use Rattle.tc_meaning.proofs.Trees.{attributes_again}

-- lists with equal contents are equal
pub attributes_once : {xs ys : List Attribute} → attributes_of xs ≡ attributes_of ys → xs ≡ ys
attributes_once {xs = xs} {ys = ys} e = sym (attributes_again xs) ∙ ap list_of_attributes e ∙ attributes_again ys

-- an attribute of a type whose class is a list of this table
module _ (rows : Rows) (n : ℕ) (t : Table) (kind : List ℕ) (f : Frame)
    (row : (table_codec (table rows)).read kind f ≡ seen (known n) (seen a_list.into (read_list (table_codec t).read keep kind f.value))) where
  pub list_read : (xs : List Attribute) → read_list (table_codec t).read keep kind f.value ≡ Ok xs
      → (table_codec (table rows)).read kind f ≡ read_as (known n (items (attributes_of xs)))
  list_read xs is = rw (row, is) refl

  pub list_refused : (e : DecodeError) → Returns (refused e) (read_list (table_codec t).read keep kind f.value)
      → Returns (refused e) ((table_codec (table rows)).read kind f)
  list_refused e given = Returns-err e _ _ given (λ is. rw (row, is) refl)

-- from a list in memory to its content
module _ {T : Type 0} (see : T → Attribute) (t : Table) (slice list : List T) (same : slice ≡ list) where
  pub list_bytes_are : list_bytes (table_codec t).write (map see slice) ≡ (class_codec (list_of t)).write (items (attributes_of (map see list)))
  list_bytes_are = rw (same, attributes_again) refl

  pub list_fits_as : NestedFits (table_codec t).Fits (table_codec t).write (map see slice)
      ↔ ((class_codec (list_of t)).Fits (items (attributes_of (map see list)))
      × IsShort ((class_codec (list_of t)).write (items (attributes_of (map see list)))))
  list_fits_as = rw (same, attributes_again) (λ fits. fits, λ fits. fits)

  pub list_is_typed : AllByRecursion (table_codec t).Typed (map see slice) → (class_codec (list_of t)).Typed (items (attributes_of (map see list)))
  list_is_typed = rw (same, attributes_again) (λ typed. (refl, typed))

  pub list_settles : (kind : List ℕ) (is_settled : Bool) → IsTrue is_settled ↔ SettledEach (table_codec t).Settled keep kind (map see slice)
      → IsTrue is_settled ↔ (class_codec (list_of t)).Settled kind (items (attributes_of (map see list)))
  list_settles kind is_settled is =
      let each = rw same at is in
      rw attributes_again (λ yes. each.0 yes, λ settled. each.1 settled)
