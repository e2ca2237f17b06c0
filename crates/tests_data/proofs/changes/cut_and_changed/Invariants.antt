use Rattle.std.proofs.Common.{◌≡◌, ◌+◌, ◌*◌, All, vec_len}
use Rattle.tests_data.specs.declared.input.Input.{Input}
use Rattle.tests_data.proofs.changes.cut_and_changed.Given as goal

-- four for each place before this one, and here the changes so far; all of the message's form
abbrev pub invariant-loop-change : goal.invariant-loop-change
invariant-loop-change l =
    (vec_len l.inputs ≡ 4 * l.at + l.change) × All (λ (changed : Input). changed.form ≡ l.input.form) l.inputs.items

-- four for each place so far, all of the message's form
abbrev pub invariant-loop-at : goal.invariant-loop-at
invariant-loop-at l = (vec_len l.inputs ≡ 4 * l.at) × All (λ (changed : Input). changed.form ≡ l.input.form) l.inputs.items
