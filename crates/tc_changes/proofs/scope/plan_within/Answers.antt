use Rattle.std.proofs.Common.{◌≡◌, [], Some, ap, subst, ◌∙◌}
use Rattle.std.specs.Prelude.{is_none}
use Rattle.tc_changes.specs.Model.{ready}
use Rattle.tc_changes.specs.Objects.{things, same_key, IfSteps, IsSetOf}
use Rattle.tc_changes.specs.Plans.{IsExact, IsLeftAlone}
use Rattle.tc_changes.specs.Requests.{settled}
use Rattle.tc_changes.specs.Promises.{IsPlan, suits}
use Rattle.tc_changes.specs.Scope.{scopes}
use Rattle.tc_changes.proofs.Named.{completed_ready, plan_is_within}
use Rattle.tc_changes.proofs.scope.plan_within.Goals as goal

pub returns-clause-planned : goal.returns-clause-planned
returns-clause-planned g c =
    let named = scopes c.args.keys.now (things c.args.want.items) in
    let takes = g.R.Rules.takes c.args.rules.now in
    let can = g.R.Rules.can_make c.args.rules.now in
    let is = c.in_ok-plan.ensures in
    let is_set = subst (λ l. IsSetOf c.in_ok-named.named (scopes c.args.keys.now (things l))) c.deref.ensures.value c.in_ok-named.ensures in
    subst (λ want. IsPlan (g.R.Rules.weak c.args.rules.now) takes can (things c.args.state.now) want c.in_ok-plan.plan) (c.in_ok-all.ensures named is_set) (record {
      reaches = is.reaches;
      exact = is.exact;
      confined = is.confined;
      idle = is.idle;
      keeps = is.keeps;
      spares = is.spares;
      gone = is.gone;
      least = is.least;
      placed = is.placed;
      resumes = is.resumes;
      sends = is.sends;
      refuses = is.refuses;
      returns = is.returns;
    })

pub returns-clause-within : goal.returns-clause-within
returns-clause-within g c =
    c.in-None.ensures.within (scopes c.args.keys.now (things c.args.want.items))
    (subst (λ l. IsSetOf c.in_ok-named.named (scopes c.args.keys.now (things l))) c.deref.ensures.value c.in_ok-named.ensures)

pub returns-in-Some-clause-possible : goal.returns-in-Some-clause-possible
returns-in-Some-clause-possible g c = λ state_ready state_settled wanted are_held free.
    let stuck : is_none (Some c.in-Some.key) ≡ ready same_key [] (things c.args.state.now) =
    subst (λ k. is_none k ≡ ready same_key [] (things c.args.state.now)) c.in-Some.is c.in_ok-early.ensures.none in
    absurd (cc (stuck ∙ state_ready))

pub returns-in-Some-weak-clause-possible : goal.returns-in-Some-weak-clause-possible
returns-in-Some-weak-clause-possible g c = λ state_ready state_settled wanted are_held free.
    let weak = g.R.Rules.weak c.args.rules.now in
    let loose : is_none (Some c.in-Some-weak.key) ≡ settled same_key weak (things c.args.state.now) [] (things c.args.state.now) =
    subst (λ k. is_none k ≡ settled same_key weak (things c.args.state.now) [] (things c.args.state.now)) c.in-Some-weak.is c.in_ok-weak.ensures.none in
    absurd (cc (loose ∙ state_settled))

pub returns-in-Some-2-clause-possible : goal.returns-in-Some-2-clause-possible
returns-in-Some-2-clause-possible g c = λ state_ready state_settled wanted are_held free.
    let named = scopes c.args.keys.now (things c.args.want.items) in
    let is_set = subst (λ l. IsSetOf c.in_ok-named.named (scopes c.args.keys.now (things l))) c.deref.ensures.value c.in_ok-named.ensures in
    let stuck : is_none (Some c.in-Some-2.key) ≡ ready same_key [] (things c.in_ok-all.all.items) =
    subst (λ k. is_none k ≡ ready same_key [] (things c.in_ok-all.all.items)) c.in-Some-2.is
    (subst (λ l. is_none c.in_ok-key.field-0 ≡ ready same_key [] (things l)) c.deref-2.ensures.value c.in_ok-key.ensures.none) in
    absurd (cc (stuck ∙ ap (ready same_key []) (c.in_ok-all.ensures named is_set)
    ∙ completed_ready (g.R.Rules.takes c.args.rules.now) c.args.keys.now (things c.args.state.now)
    (things c.args.want.items) state_ready free wanted))

pub returns-in-Some-first_elsewhere-clause-possible : goal.returns-in-Some-first_elsewhere-clause-possible
returns-in-Some-first_elsewhere-clause-possible g c = λ state_ready state_settled wanted are_held free.
    let state = things c.args.state.now in
    let named = scopes c.args.keys.now (things c.args.want.items) in
    let takes = g.R.Rules.takes c.args.rules.now in
    let is_set = subst (λ l. IsSetOf c.in_ok-named.named (scopes c.args.keys.now (things l))) c.deref.ensures.value c.in_ok-named.ensures in
    let all = c.in_ok-all.ensures named is_set in
    let is = c.in_ok-plan.ensures in
    absurd (c.in-Some-first_elsewhere.ensures.elsewhere named is_set
    (plan_is_within takes c.args.keys.now state (things c.args.want.items) state_ready free (g.R.Rules.weak c.args.rules.now) state_settled are_held
    c.in_ok-plan.plan
    (subst (λ w. IfSteps c.in_ok-plan.plan (λ steps. IsExact same_key state w steps)) all is.exact)
    (subst (λ w. IfSteps c.in_ok-plan.plan (λ steps. IsLeftAlone same_key (g.R.Rules.weak c.args.rules.now) (suits (g.R.Rules.weak c.args.rules.now) takes) state w steps)) all is.keeps)))
