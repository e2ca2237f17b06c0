use Rattle.std.proofs.Common.{[], subst, sym}
use Rattle.nla_frames.proofs.SettledSteps.{settled_seen}
use Rattle.tc_canon.specs.Descriptor.{table}
use Rattle.tc_meaning.specs.Meaning.{table_codec}
use Rattle.tc_meaning.specs.Message.{kind_of_attribute}
use Rattle.tc_canon.specs.Tables.Messages.{attributes}
use Rattle.tc_messages.specs.Attribute.{tc_attribute}
use Rattle.tc_messages.proofs.message.TcMessage.has_settled_parts.Goals as goal

pub returns-then-is_settled-clause-settled : goal.returns-then-is_settled-clause-settled
returns-then-is_settled-clause-settled g c =
    let list = rw c.deref.ensures.value at c.list_settled_carrying.ensures.settled in
    let same = settled_seen tc_attribute (table_codec (table attributes)).Settled kind_of_attribute [] c.args.self.now.attributes.items in (
      λ yes. record { header = c.is_settled.ensures.0 c.if-is_settled.true; body = subst (λ t. t) (sym same) (list.0 yes) },
      λ settled. list.1 (subst (λ t. t) same settled.body),
    )

pub returns-then-is_settled-clause-typed : goal.returns-then-is_settled-clause-typed
returns-then-is_settled-clause-typed g c =
    λ yes. record { header = c.header_in_range.ensures; body = rw c.deref.ensures.value at (c.list_settled_carrying.ensures.typed yes) }
