use Rattle.std.proofs.Common.{rules}
use Rattle.std.specs.Prelude.{IfSome}
use Rattle.tc_texts.specs.Reading.{IsOctets}
use Rattle.forms_values.proofs.Leaves.{mac_so}
use Rattle.forms_values.proofs.values_made.mac_of.Goals as goal

pub returns : goal.returns
returns c =
    let typed : IfSome c.read_mac.result (IsOctets 6) = search rules in
    mac_so c.args.text.now c.read_mac.result typed c.read_mac.ensures
