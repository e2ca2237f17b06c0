use Rattle.std.proofs.Common.{map, []}
use Rattle.nla_frames.specs.Reading.{read_list}
use Rattle.nla_frames.proofs.Outcomes.{IfOk-Returns, IfRefused-Returns}
use Rattle.tc_canon.specs.Descriptor.{table}
use Rattle.tc_canon.specs.Tables.Messages.{attributes}
use Rattle.tc_meaning.specs.Meaning.{table_codec}
use Rattle.tc_meaning.specs.Message.{kind_of_frame}
use Rattle.tc_messages.specs.Attribute.{tc_attribute, ReadsAttributes, AttributesFault}
use Rattle.tc_messages.proofs.attribute.VecTcAttributeParseableBytes.parse.Goals as goal

pub returns-clause-found : goal.returns-clause-found
returns-clause-found g c =
    let reads = (table_codec (table attributes)).read in
    IfOk-Returns (λ list. map tc_attribute list.0.items) c.read_attributes.result (read_list reads kind_of_frame [] c.args.bytes.now) c.read_attributes.ensures
    (ReadsAttributes c.args.bytes.now) (λ xs. ((c.list_grammar.ensures kind_of_frame).reading xs).0)

pub returns-clause-refused : goal.returns-clause-refused
returns-clause-refused g c =
    let reads = (table_codec (table attributes)).read in
    IfRefused-Returns (λ list. map tc_attribute list.0.items) c.read_attributes.result
    (read_list reads kind_of_frame [] c.args.bytes.now) c.read_attributes.ensures
    (AttributesFault c.args.bytes.now) (λ e. ((c.list_grammar.ensures kind_of_frame).fault e).0)
