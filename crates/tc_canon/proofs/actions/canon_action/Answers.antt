use Rattle.tc_canon.specs.Descriptor.{table}
use Rattle.tc_canon.specs.Tables.Actions.{action_attributes}
use Rattle.tc_canon.specs.Canonical.{CanonTable}
use Rattle.tc_canon.proofs.OwnKind.{own-decides, own-none}
use Rattle.tc_canon.proofs.actions.canon_action.Goals as goal

pub returns-in-Some : goal.returns-in-Some
returns-in-Some c = own-decides (CanonTable (table action_attributes)) _ _ c.in-Some.ensures _ c.is_canonical_list.ensures

pub returns-in-None : goal.returns-in-None
returns-in-None c = own-none (CanonTable (table action_attributes)) _ c.in-None.ensures
