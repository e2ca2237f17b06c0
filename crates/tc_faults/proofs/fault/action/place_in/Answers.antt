use Rattle.std.proofs.Common.{arith, ◌≡◌, ◌∙◌, sym, ap, ◌∷◌, ◌-◌, ◌^◌, List, Ok, Err}
use Rattle.std.specs.Prelude.{min}
use Rattle.nla_frames.specs.Buffer.{frame_of}
use Rattle.nla_frames.specs.Cutting.{cut, items_of}
use Rattle.nla_frames.specs.Fault.{Outcome, seen}
use Rattle.nla_frames.specs.Frame.{Frame}
use Rattle.nla_frames.specs.Iterator.{items_left}
use Rattle.tc_faults.specs.Located.{offset_in_frames}
use Rattle.tc_faults.proofs.Offsets.{next_capped}
use Rattle.tc_faults.proofs.fault.action.place_in.Goals as goal

pub returns-in-Err : goal.returns-in-Err
returns-in-Err c =
    let action = c.args.action.now.offset in
    let left : items_left c.loop-frame.frame-iterator ≡ Err c.in-Err.field-0 ∷ items_left c.next.new.self =
    c.in-Some.ensures.steps ∙ ap (λ (x : Outcome Frame). x ∷ items_left c.next.new.self) (ap (seen frame_of) c.in-Err.is) in
    let here : min c.loop-frame.at (2 ^ 64 - 1) ≡ min (offset_in_frames action action (items_of (cut c.args.action.now.value.now))) (2 ^ 64 - 1) =
    sym (ap (λ (l : List (Outcome Frame)). min (offset_in_frames action c.loop-frame.at l) (2 ^ 64 - 1)) left) ∙ c.loop-frame.invariant.same in
    omega (arith, here, c.loop-frame.invariant.fits)

pub loop-frame-preserved : goal.loop-frame-preserved
loop-frame-preserved c =
    let action = c.args.action.now.offset in
    let f = frame_of c.in-Ok.frame in
    let rest = items_left c.next.new.self in
    let left : items_left c.loop-frame.frame-iterator ≡ Ok f ∷ rest =
    c.in-Some.ensures.steps ∙ ap (λ (x : Outcome Frame). x ∷ rest) (ap (seen frame_of) c.in-Ok.is) in
    let same = next_capped action (2 ^ 64 - 1) c.loop-frame.at c.saturating_add-at.result f rest c.is_wrong_kind.result c.is_wrong_kind.ensures
    c.if-is_wrong_kind.false (omega (arith, c.frame_length.ensures, c.saturating_add-at.ensures))
    ∙ sym (ap (λ (l : List (Outcome Frame)). min (offset_in_frames action c.loop-frame.at l) (2 ^ 64 - 1)) left) ∙ c.loop-frame.invariant.same in
    record { fits = omega (arith, c.saturating_add-at.ensures); same = same }
