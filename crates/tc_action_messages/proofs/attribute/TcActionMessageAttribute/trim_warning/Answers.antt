use Rattle.std.proofs.Common.{sym, ap, arith}
use Rattle.tc_action_messages.specs.ActionMessageAttribute.{most_nuls}
use Rattle.tc_action_messages.proofs.Trimming.{others_stay}
use Rattle.tc_action_messages.proofs.attribute.TcActionMessageAttribute.trim_warning.Goals as goal

pub returns-in_default : goal.returns-in_default
returns-in_default g c =
    let s = others_stay c.args.self.now c.in_default.not-RootExtWarnMsg in
    record { trimmed = sym s.same; most = sym (ap most_nuls s.none); bound = omega arith }
