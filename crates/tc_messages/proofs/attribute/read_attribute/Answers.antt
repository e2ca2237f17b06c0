use Rattle.std.proofs.Common.{Ok}
use Rattle.nla_frames.specs.Buffer.{frame_of}
use Rattle.tc_messages.proofs.KindTexts.{text_read}
use Rattle.tc_messages.proofs.attribute.read_attribute.Goals as goal

pub returns-in_ok-from_str-in-Some : goal.returns-in_ok-from_str-in-Some
returns-in_ok-from_str-in-Some g c =
    let set = rw c.in-Some.is at c.requires in
    rw c.in_ok-from_str-in-Some.ensures.ok (text_read c.args.kind.now (frame_of c.args.frame.now) (Ok _) set)
