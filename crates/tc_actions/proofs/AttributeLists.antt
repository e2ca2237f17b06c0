-- A list as the value of an attribute of an action.
use Rattle.std.proofs.Common.{◌≡◌, ℕ, List, Ok, refl}
use Rattle.nla_frames.specs.declared.error.DecodeError.{DecodeError}
use Rattle.nla_frames.specs.Fault.{Returns, read_as, refused}
use Rattle.nla_frames.specs.Frame.{Frame, type_of}
use Rattle.nla_frames.specs.Reading.{read_list, keep}
use Rattle.tc_canon.specs.Descriptor.{table, by_kind}
use Rattle.tc_canon.specs.Tables.Statistics.{stats2}
use Rattle.tc_canon.specs.Tables.Actions.{action_attributes, action_option_kinds}
use Rattle.tc_meaning.specs.Tree.{Attribute, known, items, attributes_of}
use Rattle.tc_meaning.specs.Meaning.{table_codec}
use Rattle.tc_values.proofs.Lists.{list_read, list_refused}

module _ (kind : List ℕ) (f : Frame) where
  -- options
  pub options_read : type_of f.word ≡ 2 → (xs : List Attribute) → read_list (table_codec (by_kind action_option_kinds)).read keep kind f.value ≡ Ok xs
      → (table_codec (table action_attributes)).read kind f ≡ read_as (known 2 (items (attributes_of xs)))
  options_read two = list_read action_attributes 2 (by_kind action_option_kinds) kind f (rw two refl)

  pub options_refused : type_of f.word ≡ 2 → (e : DecodeError)
      → Returns (refused e) (read_list (table_codec (by_kind action_option_kinds)).read keep kind f.value)
      → Returns (refused e) ((table_codec (table action_attributes)).read kind f)
  options_refused two = list_refused action_attributes 2 (by_kind action_option_kinds) kind f (rw two refl)

  -- statistics
  pub stats_read : type_of f.word ≡ 4 → (xs : List Attribute) → read_list (table_codec (table stats2)).read keep kind f.value ≡ Ok xs
      → (table_codec (table action_attributes)).read kind f ≡ read_as (known 4 (items (attributes_of xs)))
  stats_read four = list_read action_attributes 4 (table stats2) kind f (rw four refl)

  pub stats_refused : type_of f.word ≡ 4 → (e : DecodeError) → Returns (refused e) (read_list (table_codec (table stats2)).read keep kind f.value)
      → Returns (refused e) ((table_codec (table action_attributes)).read kind f)
  stats_refused four = list_refused action_attributes 4 (table stats2) kind f (rw four refl)
