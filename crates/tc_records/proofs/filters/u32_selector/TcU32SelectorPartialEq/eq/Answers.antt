use Rattle.std.proofs.Common.{◌&&◌, sym, ◌∙◌}
use Rattle.std.specs.Cmp.Derive.Mapped.{pointwise-map}
use Rattle.tc_meaning.specs.Equal.{same_scalars}
use Rattle.tc_records.specs.Selector.{key_scalars}
use Rattle.tc_records.proofs.filters.u32_selector.TcU32SelectorPartialEq.eq.Goals as goal

pub returns : goal.returns
returns g c = c.both.ensures ∙
    (λ i. c.same_head.ensures i && (c.eq.ensures ∙ sym (pointwise-map key_scalars same_scalars c.args.self.now.keys.items c.args.other.now.keys.items)) i)
