use Rattle.std.proofs.lemmas.List.{map-set}
use Rattle.tc_index.proofs.index.put.Goals as goal

pub returns-then-index-slots-clause-seen : goal.returns-then-index-slots-clause-seen
returns-then-index-slots-clause-seen g c = map-set g.S.Slot.seen c.args.slots.now c.args.index c.args.slot
