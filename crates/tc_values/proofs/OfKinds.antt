-- An option under a known kind is read with the kind's rows; under any other kind it is kept raw.
use Rattle.std.proofs.Common.{◌≡◌, ℕ, Bool, true, false, List, [], cond, refl, ap, ◌∙◌}
use Rattle.std.specs.Str.{bytes_eq}
use Rattle.std.proofs.lemmas.Slice.Eq.{bytes_eq-Decides}
use Rattle.nla_frames.specs.declared.error.DecodeError.{DecodeError}
use Rattle.nla_frames.specs.Fault.{Returns, seen, read_as, refused}
use Rattle.nla_frames.specs.Frame.{Frame, type_of}
use Rattle.nla_frames.specs.Reading.{Reads}
use Rattle.nla_frames.proofs.Outcomes.{Returns-err}
use Rattle.tc_canon.specs.Descriptor.{Rows, table, Kinds, unknown, kind, by_kind, is_known}
use Rattle.tc_meaning.specs.Tree.{Attribute, other, of_kind}
use Rattle.tc_meaning.specs.Meaning.{table_codec, kinds_codec}
use Rattle.tc_values.proofs.AnyKind.{are_kindless, rows_same}

abbrev read_option : Kinds → Reads Attribute
read_option kinds = (table_codec (by_kind kinds)).read

-- a kind with these rows
module _ (kinds : Kinds) (name : List ℕ) (rows : Rows)
    (named : (f : Frame) → read_option kinds name f ≡ seen (of_kind name) ((table_codec (table rows)).read name f))
    (free : are_kindless rows ≡ true) (k : List ℕ) (f : Frame) (is : bytes_eq k name ≡ true) where
  by_rows : read_option kinds k f ≡ seen (of_kind name) ((table_codec (table rows)).read [] f)
  by_rows =
      ap (λ j. read_option kinds j f) ((bytes_eq-Decides k name).0 is)
      ∙ (named f ∙ ap (seen (of_kind name)) (rows_same rows free (type_of f.word) name [] f))

  pub option_read : (x : Attribute) → (table_codec (table rows)).read [] f ≡ read_as x → read_option kinds k f ≡ read_as (of_kind name x)
  option_read x reads = by_rows ∙ ap (seen (of_kind name)) reads

  pub option_refused : (e : DecodeError) → Returns (refused e) ((table_codec (table rows)).read [] f) → Returns (refused e) (read_option kinds k f)
  option_refused e given = Returns-err e _ _ given (λ refuses. by_rows ∙ ap (seen (of_kind name)) refuses)

-- an unknown kind
kinds_kept : (kinds : Kinds) (k : List ℕ) (f : Frame) → is_known kinds k ≡ false → (kinds_codec kinds).read k f ≡ read_as (other f.word f.value)
kinds_kept unknown k f is = refl
kinds_kept (kind name rows kinds) k f is = go (bytes_eq k name) is (kinds_kept kinds k f)
  where
    go : (b : Bool) → cond b true (is_known kinds k) ≡ false → (is_known kinds k ≡ false → (kinds_codec kinds).read k f ≡ read_as (other f.word f.value))
        → cond b (seen (of_kind name) ((table_codec (table rows)).read k f)) ((kinds_codec kinds).read k f) ≡ read_as (other f.word f.value)
    go true e rest = absurd (cc e)
    go false e rest = rest e

-- an option under an unknown kind is kept raw
pub option_kept : (kinds : Kinds) (k : List ℕ) (f kept : Frame) → is_known kinds k ≡ false → read_as f ≡ read_as kept
    → read_option kinds k f ≡ read_as (other kept.word kept.value)
option_kept kinds k f kept told same = kinds_kept kinds k f told ∙ ap (seen (λ (g : Frame). other g.word g.value)) same
