use Rattle.std.proofs.Common.{arith}
use Rattle.nla_frames.specs.Codec.{IsWireBytes}
use Rattle.tc_canon.specs.Layouts.{tc_header}
use Rattle.tc_canon.specs.Tables.Messages.{attributes}
use Rattle.tc_canon.specs.Canonical.{CanonTc}
use Rattle.tc_meaning.specs.Own.{kind_of_frame, kind_of_attribute}
use Rattle.tc_meaning.proofs.MessageTheorems.{wire_slice, tc_laws}
use Rattle.tc_laws.proofs.RewritingLaws.{tc_next}
use Rattle.tc_laws.proofs.Settling.{same-norm}
use Rattle.tc_laws.proofs.rewriting.tc_same_norm.Goals as goal

first : (c : goal.Start) → IsWireBytes c.args.first.now
first c = wire_slice c.args.first.now c.type_inv.first (omega arith)

second : (c : goal.Start) → IsWireBytes c.args.second.now
second c = wire_slice c.args.second.now c.type_inv.second (omega arith)

pub returns : goal.returns
returns c = same-norm kind_of_frame kind_of_attribute tc_header attributes CanonTc tc_laws tc_next c.args.first.now c.args.second.now (first c) (second c)
