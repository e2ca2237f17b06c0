use Rattle.std.proofs.Common.{[], drop, arith}
use Rattle.nla_frames.specs.Reading.{keep}
use Rattle.nla_frames.proofs.ListGrammarLaws.{read_list-ListReads}
use Rattle.tc_canon.specs.Descriptor.{table}
use Rattle.tc_canon.specs.Tables.Messages.{action_message_attributes}
use Rattle.tc_meaning.specs.Meaning.{table_codec}
use Rattle.tc_index.specs.Attributes.{action_items}
use Rattle.tc_index.proofs.Trees.{message-at}
use Rattle.tc_index.proofs.tree.action_tree.Goals as goal

pub returns : goal.returns
unfolding action_items
returns c m reads =
    message-at 4 action_message_attributes keep c.args.bytes.now m.body (omega arith)
    (read_list-ListReads (table_codec (table action_message_attributes)).read keep [] (drop 4 c.args.bytes.now) m.body reads.body)
