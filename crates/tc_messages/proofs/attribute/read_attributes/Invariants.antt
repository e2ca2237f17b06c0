use Rattle.std.proofs.Common.{◌≡◌, [], map}
use denote.Text.{Utf8}
use denote.Shadow.{shadow}
use Rattle.nla_frames.specs.Iterator.{items_left}
use Rattle.nla_frames.specs.Reading.{before, read_each, read_list}
use Rattle.tc_canon.specs.Descriptor.{table}
use Rattle.tc_canon.specs.Tables.Messages.{attributes}
use Rattle.tc_meaning.specs.Meaning.{table_codec}
use Rattle.tc_meaning.specs.Message.{kind_of_frame}
use Rattle.tc_messages.specs.Attribute.{tc_attribute}
use Rattle.tc_messages.proofs.attribute.read_attributes.Given as goal

abbrev pub invariant-loop-frame : goal.invariant-loop-frame
invariant-loop-frame g l =
    shadow (Utf8 l.kind)
    × (before (map tc_attribute l.list.items) (read_each (table_codec (table attributes)).read kind_of_frame l.kind (items_left l.frame-iterator))
    ≡ read_list (table_codec (table attributes)).read kind_of_frame [] l.bytes)
