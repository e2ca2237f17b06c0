use Rattle.nla_frames.specs.Value.{IsBytes}
use Rattle.nla_frames.proofs.Bytes.{IsBytes-slice}
use Rattle.tc_laws.proofs.FirstVersionLaws.{tc1-reading, tc1-typed, tc1-upgraded, tc1-all_upgraded, tc1-nothing_left, tc1-same_faults}
use Rattle.tc_laws.proofs.versions.both_readings.Goals as goal

are_bytes : (c : goal.Start) → IsBytes c.args.bytes.now
are_bytes c = IsBytes-slice c.args.bytes.now c.type_inv.bytes

pub returns-clause-reading : goal.returns-clause-reading
returns-clause-reading c = (tc1-reading c.args.bytes.now (are_bytes c)).reading

pub returns-clause-fault : goal.returns-clause-fault
returns-clause-fault c = (tc1-reading c.args.bytes.now (are_bytes c)).fault

pub returns-clause-typed : goal.returns-clause-typed
returns-clause-typed c = tc1-typed c.args.bytes.now (are_bytes c)

pub returns-clause-upgraded : goal.returns-clause-upgraded
returns-clause-upgraded c = tc1-upgraded c.args.bytes.now (are_bytes c)

pub returns-clause-all_upgraded : goal.returns-clause-all_upgraded
returns-clause-all_upgraded c = tc1-all_upgraded c.args.bytes.now (are_bytes c)

pub returns-clause-nothing_left : goal.returns-clause-nothing_left
returns-clause-nothing_left c = tc1-nothing_left c.args.bytes.now (are_bytes c)

pub returns-clause-same_faults : goal.returns-clause-same_faults
returns-clause-same_faults c = tc1-same_faults c.args.bytes.now (are_bytes c)
