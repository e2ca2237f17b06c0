use Rattle.std.proofs.Common.{ap, refl, ◌∙◌, map, []}
use Rattle.std.proofs.lemmas.Result.{err_from_is_err_and}
use Rattle.std.proofs.lemmas.List.{map_push}
use Rattle.nla_frames.specs.Iterator.{items_left}
use Rattle.nla_frames.proofs.ReadingSteps.{starts, goes_on, breaks, refuses, is_done}
use Rattle.tc_canon.specs.Descriptor.{table}
use Rattle.tc_canon.specs.Tables.Messages.{attributes}
use Rattle.tc_meaning.specs.Meaning.{table_codec}
use Rattle.tc_meaning.specs.Message.{kind_of_frame}
use Rattle.tc_messages.specs.Attribute.{tc_attribute}
use Rattle.tc_messages.proofs.KindTexts.{not_read, kind_set_then}
use Rattle.tc_messages.proofs.attribute.read_attributes.Goals as goal

pub loop-frame-init : goal.loop-frame-init
loop-frame-init g c = (
  ([], (refl, refl)),
  starts (table_codec (table attributes)).read kind_of_frame [] c.args.bytes.now _ _ (ap (map tc_attribute) c.in_ok-list.ensures.items)
      (ap items_left c.into_iter-frame-iterator.ensures.into_iter_gives ∙ c.new-frame-items.ensures),
)

pub returns-in_err-frame : goal.returns-in_err-frame
returns-in_err-frame g c =
    let p = err_from_is_err_and c.from_residual-in_err-frame.result c.from_residual-in_err-frame.ensures.1 in
    rw (p.1, p.2) (breaks (table_codec (table attributes)).read kind_of_frame _ _ _ _ c.loop-frame.invariant.1 _ _
    (rw c.in_err-frame.was at c.in-Some.ensures.steps))

pub returns-in_err-item : goal.returns-in_err-item
returns-in_err-item g c =
    let p = err_from_is_err_and c.from_residual-in_err-item.result c.from_residual-in_err-item.ensures.1 in
    rw (p.1, p.2) (refuses (table_codec (table attributes)).read kind_of_frame _ _ _ _ c.loop-frame.invariant.1 _ _ _
    (rw c.in_ok-frame.was at c.in-Some.ensures.steps) c.in_err-item.ensures)

pub returns-in_err-set : goal.returns-in_err-set
returns-in_err-set g c =
    let p = err_from_is_err_and c.from_residual-in_err-set.result c.from_residual-in_err-set.ensures.1 in
    rw (p.1, p.2) (refuses (table_codec (table attributes)).read kind_of_frame _ _ _ _ c.loop-frame.invariant.1 _ _ _
    (rw c.in_ok-frame.was at c.in-Some.ensures.steps)
    (not_read _ _ _ c.in_err-set.ensures))

pub loop-frame-preserved : goal.loop-frame-preserved
loop-frame-preserved g c =
    let kind = c.kind_then-kind.ensures ∙ kind_set_then _ _ _ c.in_ok-set.ensures in (
      c.kind_then-kind.utf8,
      rw (c.push_reserved.ensures.items, c.in_ok-reserve.ensures.items, map_push, kind)
          (goes_on (table_codec (table attributes)).read kind_of_frame _ _ _ _ c.loop-frame.invariant.1 _ _ _
          (rw c.in_ok-frame.was at c.in-Some.ensures.steps) c.in_ok-item.ensures),
    )

pub returns : goal.returns
returns g c = is_done (table_codec (table attributes)).read kind_of_frame _ _ _ _ c.loop-frame.invariant.1 c.in-None.ensures.steps.0
