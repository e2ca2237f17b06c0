use Rattle.std.proofs.Common.{◌≡◌, [], length, ap, sym, ◌∙◌, arith}
use Rattle.tc_capture.specs.Messages.{messages_in}
use Rattle.tc_capture.proofs.Steps.{messages_in-zeros, messages_in-Ok, messages_in-Err}
use Rattle.tc_capture.proofs.messages.MessagesIterator.next.Goals as goal

pub returns-then-are_zeros-clause-steps : goal.returns-then-are_zeros-clause-steps
returns-then-are_zeros-clause-steps c =
    let none : messages_in c.args.self.now.rest.now ≡ [] = messages_in-zeros _ (sym c.are_zeros.ensures ∙ c.if-are_zeros.true) in
    (none, none)

pub returns-in-Ok-clause-steps : goal.returns-in-Ok-clause-steps
returns-in-Ok-clause-steps c = messages_in-Ok _ _ (sym c.are_zeros.ensures ∙ c.if-are_zeros.false) (sym c.in-Ok.ensures)

pub returns-in-Ok-clause-goes : goal.returns-in-Ok-clause-goes
returns-in-Ok-clause-goes c =
    let more = ap length (messages_in-Ok _ _ (sym c.are_zeros.ensures ∙ c.if-are_zeros.false) (sym c.in-Ok.ensures)) in
    record { on = λ _. (tt, tt, omega (arith, more)); keeps = tt; rests = λ _. tt }

pub returns-in-Err-clause-steps : goal.returns-in-Err-clause-steps
returns-in-Err-clause-steps c = messages_in-Err _ _ (sym c.are_zeros.ensures ∙ c.if-are_zeros.false) (sym c.in-Err.ensures)

pub returns-in-Err-clause-goes : goal.returns-in-Err-clause-goes
returns-in-Err-clause-goes c =
    let last = ap length (messages_in-Err _ _ (sym c.are_zeros.ensures ∙ c.if-are_zeros.false) (sym c.in-Err.ensures)) in
    record { on = λ _. (tt, tt, omega (arith, last)); keeps = tt; rests = λ _. tt }
