use Rattle.std.proofs.Common.{◌≡◌, ◌+◌, ◌<◌, ◌^◌, List, length, map, sym, ap, subst, ◌∙◌, arith}
use Rattle.std.proofs.lemmas.List.{with_items_is}
use Rattle.tc_canon.specs.Descriptor.{table}
use Rattle.tc_canon.specs.Tables.Messages.{action_message_attributes}
use Rattle.tc_meaning.specs.Tree.{Attribute}
use Rattle.tc_meaning.specs.Message.{Message}
use Rattle.tc_laws.specs.Loose.{Part, without_nuls, table_parts, greater}
use Rattle.tc_laws.specs.Norm.{trimmed_table}
use Rattle.tc_laws.proofs.MostNuls.{greater-less, greater-more}
use Rattle.tc_records.specs.Actions.{action_message_header_scalars}
use Rattle.tc_records.specs.declared.actions.header.TcActionMessageHeader.{TcActionMessageHeader}
use Rattle.tc_action_messages.specs.ActionMessageAttribute.{action_message_attribute, most_nuls}
use Rattle.tc_action_messages.specs.declared.attribute.TcActionMessageAttribute.{TcActionMessageAttribute}
use Rattle.tc_action_messages.proofs.TrimmedLists.{TrimmedTo, trim_start, trim_next, all_trimmed}
use Rattle.tc_action_messages.proofs.message.TcActionMessage.trim_warnings.Goals.{then-most-count, else-most-count}
use Rattle.tc_action_messages.proofs.message.TcActionMessage.trim_warnings.Goals as goal

abbrev change : Attribute → Attribute
change = trimmed_table without_nuls (table action_message_attributes)

abbrev parts : Attribute → List Part
parts = table_parts (table action_message_attributes)

abbrev message_of : TcActionMessageHeader → List Attribute → Message
message_of header body = record { header = action_message_header_scalars header; body = body }

pub loop-attribute-init : goal.loop-attribute-init
loop-attribute-init g c = (
  omega arith,
  rw c.deref_mut-attribute-items.ensures.value (trim_start action_message_attribute change parts c.args.self.now.attributes.items),
)

pub loop-attribute-preserved : goal.loop-attribute-preserved
loop-attribute-preserved g c =
    let most : c.if-most-count.most ≡ greater c.loop-attribute.most c.trim_warning-count.result =
    elim c.if-most-count.branch [
      | then-most-count w ↦ w.most-is ∙ sym (greater-less _ _ (omega (arith, w.if-most-count)))
      | else-most-count w ↦ w.most-is ∙ sym (greater-more _ _ (omega (arith, w.if-most-count)))
    ] in
    let item = sym c.attribute-item.is in
    let count = c.trim_warning-count.ensures.most ∙ ap (λ (x : TcActionMessageAttribute _). most_nuls (parts (action_message_attribute x))) item in
    let trimmed = c.trim_warning-count.ensures.trimmed ∙ ap (λ (x : TcActionMessageAttribute _). change (action_message_attribute x)) item in
    let bound : c.if-most-count.most < 2 ^ 63 =
    elim c.if-most-count.branch [
      | then-most-count w ↦ omega (arith, w.most-is, c.trim_warning-count.ensures.bound)
      | else-most-count w ↦ omega (arith, w.most-is, c.loop-attribute.invariant.0)
    ] in (
      bound,
      subst (TrimmedTo action_message_attribute change parts (c.loop-attribute.attribute-index + 1) c.args.self.now.attributes.items _)
          (sym (most ∙ ap (greater c.loop-attribute.most) count))
          (trim_next action_message_attribute change parts _ _ _ _ c.loop-attribute.invariant.1 c.attribute-item.result c.trim_warning-count.new.self
          (omega arith) c.attribute-item.is trimmed),
    )

pub returns-clause-trimmed : goal.returns-clause-trimmed
returns-clause-trimmed g c =
    let end = all_trimmed action_message_attribute change parts _ _ _ _ c.loop-attribute.invariant.1 (omega arith) in
    let whole : length c.loop-attribute.attribute-items ≡ c.args.self.now.attributes.len =
    omega (arith, c.loop-attribute.auto.attribute-items, ap length c.deref_mut-attribute-items.ensures.value, c.args.self.now.attributes.ok.0) in
    ap (message_of c.args.self.now.header)
    (ap (map action_message_attribute) (with_items_is c.args.self.now.attributes c.loop-attribute.attribute-items whole) ∙ end.0)

pub returns-clause-most : goal.returns-clause-most
returns-clause-most g c = (all_trimmed action_message_attribute change parts _ _ _ _ c.loop-attribute.invariant.1 (omega arith)).1

pub returns-clause-bound : goal.returns-clause-bound
returns-clause-bound g c = c.loop-attribute.invariant.0
