use Rattle.std.proofs.Common.{◌≡◌, [], length, ap, sym, ◌∙◌, arith}
use Rattle.std.proofs.lemmas.Bool.{eqb-true}
use Rattle.std.proofs.lemmas.List.{nil_from_length}
use Rattle.nla_frames.specs.Cutting.{cut, items_of}
use Rattle.nla_frames.proofs.Items.{items-nil, items-next_frame, items_refused}
use Rattle.nla_frames.proofs.iterator.NlasIteratorIterator.next.Goals as goal

pub returns-then-is_empty-clause-steps : goal.returns-then-is_empty-clause-steps
returns-then-is_empty-clause-steps c =
    let none : c.args.self.now.rest.now ≡ [] = nil_from_length _ (eqb-true _ _ (sym c.is_empty.ensures ∙ c.if-is_empty.true)) in
    let nothing : items_of (cut c.args.self.now.rest.now) ≡ [] = rw none items-nil in
    (nothing, nothing)

pub returns-in-Ok-clause-steps : goal.returns-in-Ok-clause-steps
returns-in-Ok-clause-steps c = items-next_frame _ _ (sym c.in-Ok.ensures)

pub returns-in-Ok-clause-goes : goal.returns-in-Ok-clause-goes
returns-in-Ok-clause-goes c =
    let more = ap length (items-next_frame _ _ (sym c.in-Ok.ensures)) in
    record { on = λ _. (tt, tt, omega (arith, more)); keeps = tt; rests = λ _. tt }

pub returns-in-Err-clause-steps : goal.returns-in-Err-clause-steps
returns-in-Err-clause-steps c = items_refused _ _ _ c.is_empty.ensures c.if-is_empty.false (sym c.in-Err.ensures)

pub returns-in-Err-clause-goes : goal.returns-in-Err-clause-goes
returns-in-Err-clause-goes c =
    let last = ap length (items_refused _ _ _ c.is_empty.ensures c.if-is_empty.false (sym c.in-Err.ensures)) in
    record { on = λ _. (tt, tt, omega (arith, last)); keeps = tt; rests = λ _. tt }
