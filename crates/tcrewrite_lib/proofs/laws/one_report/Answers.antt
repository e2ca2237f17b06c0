use Rattle.tcrewrite_lib.proofs.Reports.{some_report, one_report}
use Rattle.tcrewrite_lib.proofs.laws.one_report.Goals as goal

pub returns-clause-some : goal.returns-clause-some
returns-clause-some c = some_report c.args.mode c.args.text.now

pub returns-clause-only : goal.returns-clause-only
returns-clause-only c = one_report c.args.mode c.args.text.now
