use Rattle.tc_canon.specs.Descriptor.{table}
use Rattle.tc_canon.specs.Tables.Flower.{mpls_options}
use Rattle.tc_canon.specs.Canonical.{CanonTable}
use Rattle.tc_canon.proofs.Choices.{under-any, mpls-same}
use Rattle.tc_canon.proofs.flower.canon_mpls.Goals as goal

pub returns : goal.returns
returns c kind = under-any (CanonTable (table mpls_options)) mpls-same kind _ _ _ c.is_canonical_list.ensures
