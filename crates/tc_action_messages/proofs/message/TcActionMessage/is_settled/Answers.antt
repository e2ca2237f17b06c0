use Rattle.tc_action_messages.specs.ActionMessage.{action_message}
use Rattle.tc_action_messages.proofs.message.TcActionMessage.is_settled.Goals as goal

pub returns-then-is_settled-clause-settled : goal.returns-then-is_settled-clause-settled
returns-then-is_settled-clause-settled g c =
    let list = rw c.deref.ensures.value at c.list_settled_under.ensures.settled in (
      λ yes. record { header = c.is_settled.ensures.0 c.if-is_settled.true; body = list.0 yes },
      λ settled. list.1 settled.body,
    )

pub returns-then-is_settled-clause-typed : goal.returns-then-is_settled-clause-typed
returns-then-is_settled-clause-typed g c = λ yes.
    let body = rw c.deref.ensures.value at (c.list_settled_under.ensures.typed yes) in
    record { header = c.action_message_header_in_range.ensures; body = body }

pub returns-then-is_settled-clause-canonical : goal.returns-then-is_settled-clause-canonical
returns-then-is_settled-clause-canonical g c = λ yes fits.
    let list = rw c.deref.ensures.value at c.list_settled_under.ensures.settled in
    let typed = rw c.deref.ensures.value at (c.list_settled_under.ensures.typed yes) in
    c.action_message.ensures.settled (action_message c.args.self.now) (record { header = c.action_message_header_in_range.ensures; body = typed }) fits
    (record { header = c.is_settled.ensures.0 c.if-is_settled.true; body = list.0 yes })
