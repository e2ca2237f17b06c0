use Rattle.std.proofs.Common.{◌-◌, List, length, take, drop, map, arith, refl, subst}
use Rattle.nla_frames.specs.Emission.{Writes}
use Rattle.nla_frames.proofs.Writing.{back_and_front}
use Rattle.tc_canon.specs.Layouts.{selector_head}
use Rattle.tc_meaning.specs.Layout.{fields_bytes}
use Rattle.tc_records.specs.declared.filters.u32_selector.TcU32Key.{TcU32Key}
use Rattle.tc_records.specs.Selector.{key_scalars, keys_bytes, head_scalars}
use Rattle.tc_records.proofs.filters.u32_selector.TcU32SelectorEmitable.emit.Goals as goal
use borrow.Rule.Slice.PartMut.{put_mid}

pub returns-clause-written : goal.returns-clause-written
returns-clause-written g c =
    let old = c.args.buffer.now in
    let after = c.put_keys.new.buffer in
    let new = c.put_bytes.new.buffer in
    let keys = λ (items : List TcU32Key). keys_bytes (map key_scalars items) in
    let behind = subst (λ items. Writes (keys items) (take (length old - 16) (drop 16 old)) after) c.deref.ensures.value c.put_keys.ensures.written in
    let before = subst (λ bytes. Writes bytes (put_mid 16 (length old - 16) old after) new) c.head_bytes.ensures c.put_bytes.ensures.written in
    let head = fields_bytes selector_head (head_scalars c.args.self.now) in
    back_and_front head (keys c.args.self.now.keys.items) old after new 16 refl (omega (arith, c.requires.room)) behind before

pub returns-clause-typed : goal.returns-clause-typed
returns-clause-typed g c = (c.selector_head_in_range.ensures, rw c.deref.ensures.value at c.put_keys.ensures.typed)
