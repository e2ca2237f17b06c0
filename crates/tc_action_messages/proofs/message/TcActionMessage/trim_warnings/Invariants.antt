use Rattle.std.proofs.Common.{◌<◌, ◌^◌}
use Rattle.tc_canon.specs.Descriptor.{table}
use Rattle.tc_canon.specs.Tables.Messages.{action_message_attributes}
use Rattle.tc_laws.specs.Loose.{without_nuls, table_parts}
use Rattle.tc_laws.specs.Norm.{trimmed_table}
use Rattle.tc_action_messages.specs.ActionMessageAttribute.{action_message_attribute}
use Rattle.tc_action_messages.proofs.TrimmedLists.{TrimmedTo}
use Rattle.tc_action_messages.proofs.message.TcActionMessage.trim_warnings.Given as goal

abbrev pub invariant-loop-attribute : goal.invariant-loop-attribute
invariant-loop-attribute g l =
    (l.most < 2 ^ 63)
    × TrimmedTo action_message_attribute (trimmed_table without_nuls (table action_message_attributes)) (table_parts (table action_message_attributes))
    l.attribute-index l.fn.self.attributes.items l.attribute-items l.most
