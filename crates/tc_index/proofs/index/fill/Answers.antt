use Rattle.std.proofs.Common.{List, length, ap, sym, arith}
use Rattle.tc_index.specs.Tables.{table_of}
use Rattle.tc_index.specs.Attributes.{Item}
use Rattle.tc_index.specs.Views.{left_in, sets_if}
use Rattle.tc_index.specs.Nodes.{nodes_of}
use Rattle.tc_index.proofs.Counting.{message-count, nodes-to_fault, no-items}
use Rattle.tc_index.proofs.Filling.{fills-none}
use Rattle.tc_index.proofs.Putting.{put-count, put-slots, put-after}
use Rattle.tc_index.proofs.index.fill.Goals as goal

pub put_list-requires : goal.put_list-requires
put_list-requires g c =
    let same = ap (λ (items : List Item). length (nodes_of items)) c.of_message-level.ensures in
    omega (
      arith,
      same,
      ap length (nodes-to_fault (left_in 0 c.of_message-level.result)),
      message-count c.args.header (table_of c.args.table) (sets_if c.args.sets_kind) c.args.bytes.now,
      c.type_inv.bytes,
    )

pub returns-then-header-bytes-clause-count : goal.returns-then-header-bytes-clause-count
returns-then-header-bytes-clause-count g c = put-count g.S.Slot.seen _ _ _ _ _ _ c.put_list.ensures (ap nodes_of c.of_message-level.ensures)

pub returns-then-header-bytes-clause-slots : goal.returns-then-header-bytes-clause-slots
returns-then-header-bytes-clause-slots g c = put-slots g.S.Slot.seen _ _ _ _ _ _ c.put_list.ensures (ap nodes_of c.of_message-level.ensures)

pub returns-then-header-bytes-clause-after : goal.returns-then-header-bytes-clause-after
returns-then-header-bytes-clause-after g c = put-after g.S.Slot.seen _ _ _ _ _ _ c.put_list.ensures (ap nodes_of c.of_message-level.ensures)

pub returns-else-header-bytes-clause-count : goal.returns-else-header-bytes-clause-count
returns-else-header-bytes-clause-count g c =
    sym (ap (λ (items : List Item). length (nodes_of items)) (no-items c.args.header (table_of c.args.table) (sets_if c.args.sets_kind) c.args.bytes.now
    (omega (arith, c.if-header-bytes.false))))

pub returns-else-header-bytes-clause-slots : goal.returns-else-header-bytes-clause-slots
returns-else-header-bytes-clause-slots g c =
    fills-none g.S.Slot.seen _ c.args.slots.now (ap nodes_of (no-items c.args.header (table_of c.args.table) (sets_if c.args.sets_kind) c.args.bytes.now
    (omega (arith, c.if-header-bytes.false))))
