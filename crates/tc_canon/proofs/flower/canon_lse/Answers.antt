use Rattle.tc_canon.specs.Descriptor.{table}
use Rattle.tc_canon.specs.Tables.Flower.{lse_options}
use Rattle.tc_canon.specs.Canonical.{CanonTable}
use Rattle.tc_canon.proofs.Choices.{under-any, lse-same}
use Rattle.tc_canon.proofs.flower.canon_lse.Goals as goal

pub returns : goal.returns
returns c kind = under-any (CanonTable (table lse_options)) lse-same kind _ _ _ c.is_canonical_list.ensures
