use Rattle.std.proofs.Common.{◌≡◌, ◌∙◌, sym, ap, arith, ◌<◌, ◌^◌, length, Some}
use Rattle.tc_faults.specs.Located.{items_of_message, message_offset}
use Rattle.tc_faults.specs.Places.{offset_of}
use Rattle.tc_faults.proofs.Offsets.{kept-offset}
use Rattle.tc_faults.proofs.reader.locate.Goals as goal

pub returns-in_ok-refused-in-Ok-clause-offset : goal.returns-in_ok-refused-in-Ok-clause-offset
returns-in_ok-refused-in-Ok-clause-offset c =
    let bytes = c.args.bytes.now in
    let refused = c.in_ok-refused-in-Ok.refused in
    let found : message_offset (items_of_message c.args.what bytes) ≡ Some (offset_of refused.at) =
    ap message_offset (sym c.in-Ok.ensures) ∙ sym c.in_ok-refused-in-Ok.ensures.offset in
    let low : length bytes < 2 ^ 64 = omega arith in
    ap Some (kept-offset c.args.what bytes (offset_of refused.at) c.fault_of.result.offset c.within.result.offset found low c.fault_of.ensures.offset
    c.within.ensures.offset) ∙ sym found
