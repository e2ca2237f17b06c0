-- Retries of reads and writes that were interrupted.
use Rattle.std.specs.Prelude.{ℕ}
use Rattle.tcrewrite_lib.specs.declared.retries.Retries.{Retries}

-- the number of retries that are left
abbrev pub retries_left : Retries → ℕ
retries_left r = r.left
