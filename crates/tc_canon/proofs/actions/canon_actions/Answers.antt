use Rattle.tc_canon.specs.Descriptor.{every, own_list}
use Rattle.tc_canon.specs.Tables.Actions.{action_attributes}
use Rattle.tc_canon.specs.Canonical.{CanonTable}
use Rattle.tc_canon.proofs.Choices.{under-any}
use Rattle.tc_canon.proofs.actions.canon_actions.Goals as goal

pub returns : goal.returns
returns c kind = under-any (CanonTable (every (own_list action_attributes))) (λ k l f. (λ x. x, λ x. x)) kind _ _ _ c.is_canonical_list.ensures
