use Rattle.std.proofs.Common.{◌≡◌, length, map, arith}
use Rattle.nla_frames.specs.Emission.{list_bytes}
use Rattle.nla_frames.proofs.ListWriting.{of_no_item, length_first_and_others, all_first_and_others, first_and_others_all}
use Rattle.nla_frames.proofs.lists.write.list_checked_len.Goals as goal

pub returns-in-None-checked_add : goal.returns-in-None-checked_add
returns-in-None-checked_add g c =
    let part = length_first_and_others g.T.FrameMeaning.see _ _ c.in-len1-up.len_at_least c.item-item.is g.T.FrameMeaning.codec.write in
    λ fits. absurd (c.in-None-checked_add.ensures (omega (arith, part, fits.whole, c.in-Some.ensures.1, c.loop-left.invariant.1)))

pub loop-left-preserved : goal.loop-left-preserved
loop-left-preserved g c =
    let part = length_first_and_others g.T.FrameMeaning.see _ _ c.in-len1-up.len_at_least c.item-item.is g.T.FrameMeaning.codec.write in (
      (
        λ all. (all_first_and_others g.T.FrameMeaning.see _ _ c.in-len1-up.len_at_least c.item-item.is _ (c.loop-left.invariant.0.0 all)).1,
        λ rest. c.loop-left.invariant.0.1
            (first_and_others_all g.T.FrameMeaning.see _ _ c.in-len1-up.len_at_least c.item-item.is _ c.in-Some.ensures.0 rest),
      ),
      omega (arith, part, c.in-Some.ensures.1, c.loop-left.invariant.1),
      omega (arith, c.in-Some-checked_add.ensures),
    )

pub returns : goal.returns
returns g c =
    let none = of_no_item g.T.FrameMeaning.see _ c.in_default.len_below g.T.FrameMeaning.codec.write g.T.FrameMeaning.codec.Fits in
    let all : c.loop-left.total ≡ length (list_bytes g.T.FrameMeaning.codec.write (map g.T.FrameMeaning.see c.args.items.now)) =
    omega (arith, none.1, c.loop-left.invariant.1) in
    (record { each = c.loop-left.invariant.0.1 none.0; whole = omega (arith, all, c.loop-left.invariant.2) }, all)
