use Rattle.std.proofs.Common.{◌≡◌, ◌≤◌, length, map, arith, ap, subst, refl, length-drop}
use Rattle.std.proofs.lemmas.List.{take_all}
use Rattle.nla_frames.specs.Frame.{frame_bytes}
use Rattle.nla_frames.specs.Emission.{list_bytes, Writes}
use Rattle.nla_frames.proofs.FrameBytes.{length_frame_bytes}
use Rattle.nla_frames.proofs.ListWriting.{of_no_item, bytes_first_and_others, all_first_and_others, first_and_others_all}
use Rattle.nla_frames.proofs.ListWriting.{ends_within, left_after, front_room, front_written}
use Rattle.nla_frames.proofs.lists.write.put_list.Goals as goal

pub put_frame-at-requires-clause-fits : goal.put_frame-at-requires-clause-fits
put_frame-at-requires-clause-fits g c =
    (all_first_and_others g.T.FrameMeaning.see _ _ c.in-len1-up.len_at_least c.item-item.is _ c.loop-left.invariant.3).0

pub put_frame-at-requires-clause-room : goal.put_frame-at-requires-clause-room
put_frame-at-requires-clause-room g c =
    let parts = bytes_first_and_others g.T.FrameMeaning.see _ _ c.in-len1-up.len_at_least c.item-item.is g.T.FrameMeaning.codec.write in
    front_room _ _ _ _ _ _ c.loop-left.invariant.0 c.loop-left.invariant.1 parts refl _ _ c.requires.room c.loop-left.auto.buffer

pub loop-left-preserved : goal.loop-left-preserved
loop-left-preserved g c =
    let parts = bytes_first_and_others g.T.FrameMeaning.see _ _ c.in-len1-up.len_at_least c.item-item.is g.T.FrameMeaning.codec.write in
    let bytes = frame_bytes (g.T.FrameMeaning.codec.write (g.T.FrameMeaning.see c.item-item.result)) in
    let long : c.put_frame-at.result ≡ length bytes = omega (
      arith,
      c.put_frame-at.ensures.length,
      length_frame_bytes (g.T.FrameMeaning.codec.write (g.T.FrameMeaning.see c.item-item.result)),
    ) in (
      ends_within _ _ _ _ _ _ c.loop-left.invariant.0 c.loop-left.invariant.1 parts long,
      left_after _ _ _ _ _ _ c.loop-left.invariant.0 c.loop-left.invariant.1 parts long,
      front_written _ _ _ _ _ _ c.loop-left.invariant.0 c.loop-left.invariant.1 parts long _ _ _ c.requires.room c.loop-left.invariant.2
          c.put_frame-at.ensures.written,
      (all_first_and_others g.T.FrameMeaning.see _ _ c.in-len1-up.len_at_least c.item-item.is _ c.loop-left.invariant.3).1,
      λ rest. c.loop-left.invariant.4
          (first_and_others_all g.T.FrameMeaning.see _ _ c.in-len1-up.len_at_least c.item-item.is _ c.put_frame-at.ensures.typed rest),
    )

pub returns-clause-written : goal.returns-clause-written
returns-clause-written g c =
    let whole = list_bytes g.T.FrameMeaning.codec.write (map g.T.FrameMeaning.see c.args.items.now) in
    let none = of_no_item g.T.FrameMeaning.see _ c.in_default.len_below g.T.FrameMeaning.codec.write g.T.FrameMeaning.codec.Fits in
    let past : length whole ≤ c.loop-left.at = omega (arith, none.1, ap length c.loop-left.invariant.1, length-drop c.loop-left.at whole) in
    subst (λ bytes. Writes bytes c.args.buffer.now c.loop-left.buffer) (take_all c.loop-left.at whole past) c.loop-left.invariant.2

pub returns-clause-length : goal.returns-clause-length
returns-clause-length g c =
    let whole = list_bytes g.T.FrameMeaning.codec.write (map g.T.FrameMeaning.see c.args.items.now) in
    let none = of_no_item g.T.FrameMeaning.see _ c.in_default.len_below g.T.FrameMeaning.codec.write g.T.FrameMeaning.codec.Fits in
    omega (arith, none.1, ap length c.loop-left.invariant.1, length-drop c.loop-left.at whole, c.loop-left.invariant.0)
