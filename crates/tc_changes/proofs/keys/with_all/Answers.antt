use Rattle.std.proofs.Common.{◌++◌, take, subst, sym, ap, ◌∙◌, append_assoc}
use Rattle.std.proofs.lemmas.List.{take_all, take_more}
use Rattle.tc_changes.specs.Objects.{IsSetOf}
use Rattle.tc_changes.proofs.Named.{set_push}
use Rattle.tc_changes.proofs.keys.with_all.Goals as goal

pub loop-key-preserved : goal.loop-key-preserved
loop-key-preserved g c = λ some is.
    let i = c.loop-key.key-index in
    let xs = c.args.keys.now in
    let front = some ++ take i xs in
    subst (IsSetOf c.insert.new.self) (append_assoc some (take i xs) _ ∙ ap (λ l. some ++ l) (sym (take_more xs i _ c.loop-key-test.true)))
    (set_push c.loop-key.made c.insert.new.self front _ c.in_ok-insert.ensures.updates (c.loop-key.invariant some is))

pub returns : goal.returns
returns g c = λ some is.
    subst (λ l. IsSetOf c.loop-key.made (some ++ l)) (take_all c.loop-key.key-index c.args.keys.now c.loop-key-test.false)
    (c.loop-key.invariant some is)
