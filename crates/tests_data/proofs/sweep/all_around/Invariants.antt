use Rattle.std.proofs.Common.{◌≡◌, vec_len}
use Rattle.tests_data.proofs.sweep.all_around.Given as goal

-- one for each place so far
abbrev pub invariant-loop-place : goal.invariant-loop-place
invariant-loop-place l = vec_len l.inputs ≡ l.place
