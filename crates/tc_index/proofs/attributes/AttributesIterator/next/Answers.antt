use Rattle.std.proofs.Common.{◌≡◌, [], ap, sym, ◌∙◌}
use Rattle.std.proofs.lemmas.Bool.{eqb-true}
use Rattle.std.proofs.lemmas.List.{nil_from_length}
use Rattle.tc_index.specs.Attributes.{to_fault}
use Rattle.tc_index.specs.Views.{items_left}
use Rattle.tc_index.proofs.Walks.{nothing-left}
use Rattle.tc_index.proofs.attributes.AttributesIterator.next.Goals as goal

pub returns-then-is_empty-clause-steps : goal.returns-then-is_empty-clause-steps
returns-then-is_empty-clause-steps c =
    let it = c.leave.new.self in
    let none : it.level.rest.now ≡ [] = nil_from_length _ (eqb-true _ _ (sym c.is_empty.ensures ∙ c.if-is_empty.true)) in
    let nothing : items_left it ≡ [] = nothing-left it none (c.leave.ensures.all none) in
    (ap to_fault (sym c.leave.ensures.same) ∙ nothing, nothing)
