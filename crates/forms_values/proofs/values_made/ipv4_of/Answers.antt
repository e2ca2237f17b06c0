use Rattle.std.proofs.Common.{rules}
use Rattle.std.specs.Prelude.{IfSome}
use Rattle.tc_texts.specs.Reading.{IsOctets}
use Rattle.forms_values.proofs.Leaves.{ipv4_so}
use Rattle.forms_values.proofs.values_made.ipv4_of.Goals as goal

pub returns : goal.returns
returns c =
    let typed : IfSome c.read_ipv4.result (IsOctets 4) = search rules in
    ipv4_so c.args.text.now c.read_ipv4.result typed c.read_ipv4.ensures
