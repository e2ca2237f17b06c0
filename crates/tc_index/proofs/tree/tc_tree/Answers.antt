use Rattle.std.proofs.Common.{[], drop, arith}
use Rattle.nla_frames.proofs.ListGrammarLaws.{read_list-ListReads}
use Rattle.tc_canon.specs.Descriptor.{table}
use Rattle.tc_canon.specs.Kind.{kind_of_frame}
use Rattle.tc_canon.specs.Tables.Messages.{attributes}
use Rattle.tc_meaning.specs.Meaning.{table_codec}
use Rattle.tc_index.specs.Attributes.{tc_items}
use Rattle.tc_index.proofs.Trees.{message-at}
use Rattle.tc_index.proofs.tree.tc_tree.Goals as goal

pub returns : goal.returns
unfolding tc_items
returns c m reads =
    message-at 20 attributes kind_of_frame c.args.bytes.now m.body (omega arith)
    (read_list-ListReads (table_codec (table attributes)).read kind_of_frame [] (drop 20 c.args.bytes.now) m.body reads.body)
