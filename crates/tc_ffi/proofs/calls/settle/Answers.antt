use Rattle.std.proofs.Common.{inr}
use Rattle.tc_ffi.proofs.Memory.{no-memory}
use Rattle.tc_ffi.proofs.calls.settle.Goals as goal

pub returns-in-Err-OutOfMemory-clause-settles : goal.returns-in-Err-OutOfMemory-clause-settles
returns-in-Err-OutOfMemory-clause-settles g c = inr (no-memory g.M.WholeMessage.words c.args.bytes.now)
