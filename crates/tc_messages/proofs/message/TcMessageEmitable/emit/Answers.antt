use Rattle.std.proofs.Common.{◌≤◌, length, rules}
use Rattle.tc_canon.specs.Layouts.{tc_header}
use Rattle.tc_canon.specs.Tables.Messages.{attributes}
use Rattle.tc_messages.specs.Message.{tc_message}
use Rattle.tc_laws.proofs.MessageBytes.{room_for_header, room_for_body, header_before_part, message_written}
use Rattle.tc_messages.proofs.message.TcMessageEmitable.emit.Goals as goal

pub slice_bounds-put_list-count : goal.slice_bounds-put_list-count
slice_bounds-put_list-count g c =
    room_for_header tc_header attributes (tc_message c.args.self.now) c.header_in_range.ensures c.args.buffer.now c.requires.room

pub slice_bounds-put_list-start : goal.slice_bounds-put_list-start
slice_bounds-put_list-start g c =
    let room : 20 ≤ length c.args.buffer.now =
    room_for_header tc_header attributes (tc_message c.args.self.now) c.header_in_range.ensures c.args.buffer.now c.requires.room in
    search rules

pub put_list-requires-clause-fits : goal.put_list-requires-clause-fits
put_list-requires-clause-fits g c = rw c.deref.ensures.value c.requires.fits.body

pub put_list-requires-clause-room : goal.put_list-requires-clause-room
put_list-requires-clause-room g c =
    rw c.deref.ensures.value (room_for_body tc_header attributes (tc_message c.args.self.now) c.header_in_range.ensures c.args.buffer.now c.requires.room)

pub emit-requires-clause-room : goal.emit-requires-clause-room
emit-requires-clause-room g c =
    let typed = c.header_in_range.ensures in
    let room = room_for_header tc_header attributes (tc_message c.args.self.now) typed c.args.buffer.now c.requires.room in
    header_before_part tc_header attributes (tc_message c.args.self.now) typed c.args.buffer.now c.put_list.new.buffer room c.put_list.auto.buffer

pub returns-clause-written : goal.returns-clause-written
returns-clause-written g c =
    let written = rw c.deref.ensures.value at c.put_list.ensures.written in
    message_written tc_header attributes
    (tc_message c.args.self.now) c.header_in_range.ensures c.args.buffer.now _ _ c.requires.room written c.emit.ensures.written

pub returns-clause-typed : goal.returns-clause-typed
returns-clause-typed g c = record { header = c.emit.ensures.typed; body = rw c.deref.ensures.value at c.put_list.ensures.typed }

pub returns-clause-back : goal.returns-clause-back
returns-clause-back g c =
    let body = rw c.deref.ensures.value at c.put_list.ensures.typed in
    c.tc_message.ensures.back (tc_message c.args.self.now) (record { header = c.emit.ensures.typed; body = body }) c.requires.fits
