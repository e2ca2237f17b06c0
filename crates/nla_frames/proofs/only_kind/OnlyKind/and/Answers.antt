-- Without this the proof is found too; with it a wrong body of the function is refused by one search.
use Rattle.std.proofs.Common.{arith, rules}
use Rattle.std.proofs.lemmas.Grind.{common_steps}
use Rattle.nla_frames.proofs.only_kind.OnlyKind.and.Goals as goal

pub returns-in_default-None : goal.returns-in_default-None
returns-in_default-None c = search rules

pub returns-in-Missing-Some : goal.returns-in-Missing-Some
returns-in-Missing-Some c = search rules

pub returns-in_default-Some : goal.returns-in_default-Some
returns-in_default-Some c = grind (arith, common_steps)
