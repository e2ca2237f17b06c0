use Rattle.std.proofs.Common.{rules}
use Rattle.std.specs.Prelude.{IfSome}
use Rattle.tc_texts.specs.Reading.{IsOctets}
use Rattle.forms_values.proofs.Leaves.{ipv6_so}
use Rattle.forms_values.proofs.values_made.ipv6_of.Goals as goal

pub returns : goal.returns
returns c =
    let typed : IfSome c.read_ipv6.result (IsOctets 16) = search rules in
    ipv6_so c.args.text.now c.read_ipv6.result typed c.read_ipv6.ensures
