use Rattle.std.proofs.Common.{◌++◌, ◌∷◌, [], map, take, subst}
use Rattle.std.proofs.lemmas.List.{take_all}
use Rattle.tc_changes.specs.Objects.{IsSetOf}
use Rattle.tc_changes.specs.Scope.{scope_of}
use Rattle.tc_changes.proofs.Named.{set_push, keys_more}
use Rattle.tc_changes.proofs.scope.with_keys.Goals as goal

pub loop-key-preserved : goal.loop-key-preserved
loop-key-preserved g c = λ some is.
    let i = c.loop-key.key-index in
    let xs = c.args.keys.now in
    let front = some ++ map scope_of (take i xs) in
    subst (IsSetOf c.insert.new.self) (keys_more scope_of some xs i _ c.loop-key-test.true)
    (subst (λ k. IsSetOf c.insert.new.self (front ++ k ∷ [])) c.scope_of.ensures
    (set_push c.loop-key.named c.insert.new.self front c.scope_of.result c.in_ok-insert.ensures.updates (c.loop-key.invariant some is)))

pub returns : goal.returns
returns g c = λ some is.
    subst (λ l. IsSetOf c.loop-key.named (some ++ map scope_of l)) (take_all c.loop-key.key-index c.args.keys.now c.loop-key-test.false)
    (c.loop-key.invariant some is)
