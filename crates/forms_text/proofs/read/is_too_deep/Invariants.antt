use Rattle.std.specs.Prelude.{◌≡◌, length}
use Rattle.forms_text.specs.Read.{is_too_deep, opens_too_many}
use Rattle.forms_text.proofs.read.is_too_deep.Given as goal

abbrev pub invariant-tokens : goal.invariant-tokens
invariant-tokens l = opens_too_many l.open l.reader ≡ is_too_deep l.text

abbrev pub decreases-tokens : goal.decreases-tokens
decreases-tokens l = length l.reader
