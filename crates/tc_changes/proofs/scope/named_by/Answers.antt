use Rattle.std.proofs.Common.{[], map, ap}
use Rattle.std.specs.List.{list_any}
use Rattle.tc_changes.specs.Objects.{IsSetOf}
use Rattle.tc_changes.specs.Scope.{scope_of}
use Rattle.tc_changes.proofs.scope.named_by.Goals as goal

pub returns : goal.returns
returns g c =
    let none : IsSetOf c.new.result [] = λ k. ap (list_any _) c.new.ensures.empty in
    c.in_ok-all.ensures (map scope_of c.args.keys.now) (c.in_ok-named.ensures [] none)
