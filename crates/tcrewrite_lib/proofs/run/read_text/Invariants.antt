use Rattle.std.proofs.Common.{◌+◌, ◌-◌, ◌≤◌, length}
use Rattle.std.specs.Io.KnownBytes.{Consumes}
use Rattle.tcrewrite_lib.specs.Retries.{retries_left}
use Rattle.tcrewrite_lib.proofs.run.read_text.Given as goal

-- what was read so far is the text, which isn't over the limit by more than one byte
abbrev pub invariant-parts : goal.invariant-parts
invariant-parts g l = record {
  taken : Consumes (g.R.Read.remaining l.fn.reader) (g.R.Read.remaining l.reader) l.text.items;
  bound : length l.text.items ≤ 1048577;
}

-- room for text, and retries
abbrev pub decreases-parts : goal.decreases-parts
decreases-parts g l = 1048577 + retries_left l.retries - length l.text.items
