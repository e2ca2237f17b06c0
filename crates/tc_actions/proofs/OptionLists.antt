-- Options under a kind that equals a name.
use Rattle.std.proofs.Common.{◌≡◌, ℕ, List, true, sym, subst}
use Rattle.std.specs.Str.{bytes_eq}
use Rattle.std.proofs.lemmas.Slice.Eq.{bytes_eq-Decides}
use Rattle.nla_frames.specs.Fault.{Outcome, Returns}
use Rattle.nla_frames.specs.Frame.{Frame}
use Rattle.nla_frames.specs.Reading.{keep, read_list}
use Rattle.tc_canon.specs.Descriptor.{by_kind}
use Rattle.tc_canon.specs.Tables.Actions.{action_option_kinds}
use Rattle.tc_meaning.specs.Tree.{Attribute}
use Rattle.tc_meaning.specs.Meaning.{table_codec}

module _ (name k : List ℕ) (is : bytes_eq k name ≡ true) where
  same : name ≡ k
  same = sym ((bytes_eq-Decides k name).0 is)

  -- one option
  pub option_by_name : (f : Frame) (r : Outcome Attribute) → Returns r ((table_codec (by_kind action_option_kinds)).read name f)
      → Returns r ((table_codec (by_kind action_option_kinds)).read k f)
  option_by_name f r = subst (λ j. Returns r ((table_codec (by_kind action_option_kinds)).read j f)) same

  -- all of them
  pub options_by_name : (bytes : List ℕ) (r : Outcome (List Attribute)) → Returns r (read_list (table_codec (by_kind action_option_kinds)).read keep name bytes)
      → Returns r (read_list (table_codec (by_kind action_option_kinds)).read keep k bytes)
  options_by_name bytes r = subst (λ j. Returns r (read_list (table_codec (by_kind action_option_kinds)).read keep j bytes)) same
