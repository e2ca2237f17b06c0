use Rattle.std.proofs.Common.{arith}
use Rattle.std.proofs.lemmas.List.{length-map}
use Rattle.tc_records.specs.Selector.{key_scalars}
use Rattle.tc_records.proofs.Keys.{length-keys}
use Rattle.tc_records.proofs.filters.u32_selector.TcU32SelectorEmitable.checked_len.Goals as goal

pub returns-then-self-len : goal.returns-then-self-len
returns-then-self-len g c =
    let items = c.args.self.now.keys.items in
    (omega (arith, length-map items key_scalars), omega (arith, length-keys items))
