use Rattle.std.proofs.Common.{◌≡◌, drop, map}
use Rattle.tc_capture.specs.Errno.{name_in, row_of}
use Rattle.tc_capture.proofs.errno.name_in.Given as goal

abbrev pub invariant-loop-row : goal.invariant-loop-row
invariant-loop-row l = name_in (map row_of (drop l.row-index l.rows)) l.number ≡ name_in (map row_of l.rows) l.number
