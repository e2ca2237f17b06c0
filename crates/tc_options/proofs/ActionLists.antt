-- A list of actions as the value of an option.
use Rattle.std.proofs.Common.{◌≡◌, ℕ, List, [], Ok, refl}
use Rattle.nla_frames.specs.declared.error.DecodeError.{DecodeError}
use Rattle.nla_frames.specs.Fault.{Returns, read_as, refused}
use Rattle.nla_frames.specs.Frame.{Frame, type_of}
use Rattle.nla_frames.specs.Reading.{read_list, keep}
use Rattle.tc_canon.specs.Descriptor.{Rows, table, list_of}
use Rattle.tc_meaning.specs.Tree.{Attribute, known, items, attributes_of}
use Rattle.tc_meaning.specs.Meaning.{class_codec, table_codec, rows_codec, row_frames}
use Rattle.tc_values.proofs.Lists.{list_read, list_refused}
use Rattle.tc_actions.specs.Action.{an_action}

-- of the type that holds actions in these rows
module _ (rows : Rows) (n : ℕ) (row : rows_codec rows n ≡ row_frames n n (class_codec (list_of an_action))) (f : Frame) (here : type_of f.word ≡ n) where
  pub actions_read : (xs : List Attribute) → read_list (table_codec an_action).read keep [] f.value ≡ Ok xs
      → (table_codec (table rows)).read [] f ≡ read_as (known n (items (attributes_of xs)))
  actions_read = list_read rows n an_action [] f (rw (here, row) refl)

  pub actions_refused : (e : DecodeError) → Returns (refused e) (read_list (table_codec an_action).read keep [] f.value)
      → Returns (refused e) ((table_codec (table rows)).read [] f)
  actions_refused = list_refused rows n an_action [] f (rw (here, row) refl)
