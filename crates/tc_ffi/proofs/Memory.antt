-- Memory ran out.
use Rattle.std.proofs.Common.{ℕ, List, refl}
use Rattle.tc_wire.specs.Facade.{OutOfMemory, Message, Words}
use Rattle.tc_ffi.specs.Calls.{Refuses}

pub no-memory : (words : Words Message) (bytes : List ℕ) → Refuses words bytes 11
no-memory words bytes = record { fault = OutOfMemory; first = λ other. absurd (other refl); number = refl }
