use Rattle.std.proofs.Common.{◌∙◌, arith, sym, refl}
use Rattle.std.proofs.lemmas.Bool.{eqb-true}
use Rattle.std.proofs.lemmas.List.{nil_from_length}
use Rattle.nla_frames.proofs.Items.{items-nil}
use Rattle.tc_index.specs.Views.{placed_of}
use Rattle.tc_index.proofs.Walks.{too-deep}
use Rattle.tc_index.proofs.Putting.{puts-leaf, puts-list, room, stops, ends}
use Rattle.tc_index.proofs.index.+put_list.Goals as goal

pub put_list-requires : goal.put_list-requires
put_list-requires g t c κs within = (
  omega (arith, c.decreases, c.if-depth-lt4.true),
  (
    search,
    room g.S.Slot.seen _ _ _ _ _ _ _ _ _ _ _ c.loop-level.invariant c.in-Ok.ensures.yields (c.in-Some.ensures c.args.depth c.if-depth-lt4.true)
        c.requires,
  ),
)

pub returns-then-not-put_list : goal.returns-then-not-put_list
returns-then-not-put_list g t c =
    stops g.S.Slot.seen _ _ _ _ _ _ _ _ _ _ _ _ (placed_of c.in-Ok.attribute) _ c.loop-level.invariant c.in-Ok.ensures.yields c.of.ensures c.put.ensures.put
    (c.in-Some.ensures c.args.depth c.if-depth-lt4.true)
    (record {
      count = c.put_list.ensures.count;
      slots = c.put_list.ensures.slots;
      after = c.put_list.ensures.after;
      all = sym c.if-not-put_list.true ∙ c.put_list.ensures.all;
    })

pub loop-level-preserved-else-not-put_list : goal.loop-level-preserved-else-not-put_list
loop-level-preserved-else-not-put_list g t c =
    puts-list g.S.Slot.seen _ _ _ _ _ _ _ _ _ _ _ _ (placed_of c.in-Ok.attribute) _ c.loop-level.invariant c.in-Ok.ensures.yields c.of.ensures c.put.ensures.put
    (c.in-Some.ensures c.args.depth c.if-depth-lt4.true)
    (record {
      count = c.put_list.ensures.count;
      slots = c.put_list.ensures.slots;
      after = c.put_list.ensures.after;
      all = sym c.if-not-put_list.false ∙ c.put_list.ensures.all;
    })

pub loop-level-preserved : goal.loop-level-preserved
loop-level-preserved g t c =
    puts-leaf g.S.Slot.seen _ _ _ _ _ _ _ _ _ (placed_of c.in-Ok.attribute) _ c.loop-level.invariant c.in-Ok.ensures.yields c.of.ensures c.put.ensures.put
    (too-deep c.args.depth _ _ _ c.if-depth-lt4.false)

pub returns : goal.returns
returns g t c =
    let none = nil_from_length _ (eqb-true _ _ (sym c.is_empty.ensures ∙ c.loop-level-test.false)) in
    ends g.S.Slot.seen _ _ _ _ _ _ c.loop-level.invariant (rw (none, items-nil) refl)
