use Rattle.tc_faults.proofs.Checks.{check-is}
use Rattle.tc_faults.proofs.check.check_of.Goals as goal

pub returns-in_default : goal.returns-in_default
returns-in_default c =
    check-is c.args.table c.args.number c.checks.result.now c.check_at.result c.in_default.not-Actions c.checks.ensures c.check_at.ensures
