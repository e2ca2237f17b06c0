-- Tables whose reading doesn't depend on the kind read the same under every kind.
use Rattle.std.proofs.Common.{◌≡◌, ℕ, Bool, true, false, ◌&&◌, List, [], ◌∷◌, Ok, Err, refl, ap, ◌==◌}
use Rattle.std.proofs.lemmas.Bool.{and_parts}
use Rattle.nla_frames.specs.Fault.{Outcome, seen}
use Rattle.nla_frames.specs.Frame.{Frame, type_of}
use Rattle.nla_frames.specs.Cutting.{cut, items_of}
use Rattle.nla_frames.specs.Reading.{Reads, keep, read_each, read_list}
use Rattle.nla_frames.specs.Codec.{Codec}
use Rattle.tc_canon.specs.Descriptor.{Class, le, be, masked, array, raw, text, warning, presence, truth, fields, selector, pair, xstats, list_of, own_list}
use Rattle.tc_canon.specs.Descriptor.{Table, table, every, by_kind, Rows, others, types, unread, options, is_within}
use Rattle.tc_meaning.specs.Tree.{Attribute, known}
use Rattle.tc_meaning.specs.Meaning.{a_list, choose, class_codec, table_codec, rows_codec}

-- nothing in it depends on the kind, except lists that set their own
abbrev mutual
  pub is_kindless_class : Class → Bool
  is_kindless_class xstats = false
  is_kindless_class (list_of t) = is_kindless t
  is_kindless_class c = true

  pub is_kindless : Table → Bool
  is_kindless (table rows) = are_kindless rows
  is_kindless (every class) = is_kindless_class class
  is_kindless (by_kind kinds) = false

  pub are_kindless : Rows → Bool
  are_kindless others = true
  are_kindless (types first last flags class rows) = is_kindless_class class && are_kindless rows
  are_kindless (unread m class rows) = are_kindless rows
  are_kindless (options m kinds rows) = false

module _ {X : Type 0} (reads : Reads X) (k j : List ℕ) (same : (f : Frame) → reads k f ≡ reads j f) where
  each_same : (items : List (Outcome Frame)) → read_each reads keep k items ≡ read_each reads keep j items
  unfolding read_each
  each_same [] = refl
  each_same (Err e ∷ items) = refl
  each_same (Ok f ∷ items) = rw (same f, each_same items) refl

  list_same : (bytes : List ℕ) → read_list reads keep k bytes ≡ read_list reads keep j bytes
  unfolding read_list
  list_same bytes = each_same (items_of (cut bytes))

chosen_same : (b : Bool) (chosen rest : Codec Frame Attribute) (k j : List ℕ) (f : Frame)
    → chosen.read k f ≡ chosen.read j f → rest.read k f ≡ rest.read j f → (choose b chosen rest).read k f ≡ (choose b chosen rest).read j f
chosen_same true chosen rest k j f this that = this
chosen_same false chosen rest k j f this that = that

mutual
  class_same : (c : Class) → is_kindless_class c ≡ true → (k j v : List ℕ) → (class_codec c).read k v ≡ (class_codec c).read j v
  class_same (le n) is k j v = refl
  class_same (be n) is k j v = refl
  class_same (masked n bits) is k j v = refl
  class_same (array n) is k j v = refl
  class_same raw is k j v = refl
  class_same text is k j v = refl
  class_same warning is k j v = refl
  class_same presence is k j v = refl
  class_same truth is k j v = refl
  class_same (fields layout) is k j v = refl
  class_same selector is k j v = refl
  class_same pair is k j v = refl
  class_same xstats is k j v = absurd (cc is)
  class_same (list_of t) is k j v = ap (seen a_list.into) (list_same (table_codec t).read k j (table_same t is k j) v)
  class_same (own_list rows) is k j v = refl

  table_same : (t : Table) → is_kindless t ≡ true → (k j : List ℕ) (f : Frame) → (table_codec t).read k f ≡ (table_codec t).read j f
  table_same (table rows) is k j f = rows_same rows is (type_of f.word) k j f
  table_same (every class) is k j f = ap (seen (known (type_of f.word))) (class_same class is k j f.value)
  table_same (by_kind kinds) is k j f = absurd (cc is)

  pub rows_same : (rows : Rows) → are_kindless rows ≡ true → (n : ℕ) (k j : List ℕ) (f : Frame) → (rows_codec rows n).read k f ≡ (rows_codec rows n).read j f
  rows_same others is n k j f = refl
  rows_same (types first last flags class rows) is n k j f =
      let parts = and_parts (is_kindless_class class) (are_kindless rows) is in
      chosen_same (is_within first last n) _ _ k j f (ap (seen (known n)) (class_same class parts.0 k j f.value)) (rows_same rows parts.1 n k j f)
  rows_same (unread m class rows) is n k j f = chosen_same (n == m) _ _ k j f refl (rows_same rows is n k j f)
  rows_same (options m kinds rows) is n k j f = absurd (cc is)
