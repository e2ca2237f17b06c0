-- Without this the proof is found too; with it a must-fail edit of the function is refused by one search.
use Rattle.std.proofs.Common.{rules}
use Rattle.nla_frames.proofs.default_nla.DefaultNlaParseable.parse.Goals as goal

pub returns-in_err-value : goal.returns-in_err-value
returns-in_err-value g c = search rules

pub returns : goal.returns
returns g c = search rules
