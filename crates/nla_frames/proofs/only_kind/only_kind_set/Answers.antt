use Rattle.std.proofs.Common.{◌≤◌, length, arith, subst}
use Rattle.std.proofs.lemmas.List.{take_all}
use Rattle.nla_frames.specs.Place.{kinds_set}
use Rattle.nla_frames.specs.OnlyKind.{Summarizes}
use Rattle.nla_frames.proofs.ListWriting.{IsAt}
use Rattle.nla_frames.proofs.OwnKinds.{tells_next}
use Rattle.nla_frames.proofs.only_kind.only_kind_set.Goals as goal

pub loop-item-preserved : goal.loop-item-preserved
loop-item-preserved g c =
    let here : IsAt c.args.items.now c.loop-item.item-index c.item-item.result = record { within = omega arith; is = c.item-item.is } in
    tells_next g.T.SetsKind.sets c.args.items.now _ _ c.loop-item.item-index c.item-item.result here c.loop-item.invariant
    (rw c.kind_set.ensures at c.and-only.ensures)

pub returns : goal.returns
returns g c =
    let past : length c.args.items.now ≤ c.loop-item.item-index = omega arith in
    subst (λ items. Summarizes c.loop-item.only (kinds_set g.T.SetsKind.sets items)) (take_all c.loop-item.item-index c.args.items.now past) c.loop-item.invariant
