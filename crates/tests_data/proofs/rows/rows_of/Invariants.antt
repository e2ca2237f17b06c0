use Rattle.std.proofs.Common.{◌≡◌, vec_len}
use Rattle.tests_data.proofs.rows.rows_of.Given as goal

-- a row for each text so far
abbrev pub invariant-loop-row : goal.invariant-loop-row
invariant-loop-row l = vec_len l.rows ≡ l.row-index
