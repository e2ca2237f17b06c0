use Rattle.std.proofs.Common.{◌≡◌, List, [], ◌∷◌, true, refl, sym, ap, subst, map, ◌∙◌, arith}
use Rattle.std.proofs.lemmas.Grind.{common_steps}
use Rattle.std.proofs.lemmas.List.Elements.{All-from_recursion, recursion_from_All}
use Rattle.std.specs.List.{AllByRecursion}
use Rattle.tc_changes.specs.Requests.{Leads, LeavesWhole, keeping}
use Rattle.tc_changes.specs.Plans.{IsExact, IsAbout, IsConfined, IsLeftAlone, IsSpared, IsGone, IsLeast, IsPlaced, IsBarred, barred_keys}
use Rattle.tc_changes.specs.Planned.{planned}
use Rattle.tc_changes.specs.Promises.{suits}
use Rattle.tc_changes.specs.Objects.{things, same_key, alike, request}
use Rattle.tc_changes.proofs.Leading.{plan_leads, plan_resumes}
use Rattle.tc_changes.proofs.Keeps.{plan_idle, plan_keeps, plan_spares, plan_gone, plan_barred, none_barred}
use Rattle.tc_changes.proofs.Least.{plan_least}
use Rattle.tc_changes.proofs.Placed.{plan_placed}
use Rattle.tc_changes.proofs.Exact.{plan_about, plan_once, confined}
use Rattle.tc_changes.proofs.Equal.{key_is, key_same, alike_is, alike_same}
use Rattle.tc_changes.proofs.planned.plan_in_order.Goals as goal

none_mapped : {X Y : Type 0} (f : X → Y) (xs : List X) → map f xs ≡ [] → xs ≡ []
none_mapped f [] is = refl
none_mapped f (x ∷ xs) is = absurd (cc is)

pub returns-then-is_empty-clause-reaches : goal.returns-then-is_empty-clause-reaches
returns-then-is_empty-clause-reaches g c =
    let weak = g.R.Rules.weak c.args.rules.now in
    let takes = keeping same_key weak (g.R.Rules.takes c.args.rules.now) in
    let state = things c.args.state.now in
    let want = things c.args.want.items in
    let gone = c.in_ok-steps.ensures.0 in
    let is_lost = c.in_ok-steps.ensures.1 in
    let steps_are = c.in_ok-steps.ensures.2 in
    let order = c.requires.state_ready in
    let is_set = c.requires.state_settled in
    let wanted = c.requires.want_ready in
    subst (λ l. Leads same_key weak takes state l want) (sym steps_are)
    (plan_leads same_key key_is key_same alike takes alike_is weak gone state want order is_set wanted is_lost.lost)

pub returns-then-is_empty-clause-exact : goal.returns-then-is_empty-clause-exact
returns-then-is_empty-clause-exact g c =
    let weak = g.R.Rules.weak c.args.rules.now in
    let takes = keeping same_key weak (g.R.Rules.takes c.args.rules.now) in
    let state = things c.args.state.now in
    let want = things c.args.want.items in
    let gone = c.in_ok-steps.ensures.0 in
    let is_lost = c.in_ok-steps.ensures.1 in
    let steps_are = c.in_ok-steps.ensures.2 in
    let order = c.requires.state_ready in
    let is_set = c.requires.state_settled in
    let wanted = c.requires.want_ready in
    subst (IsExact same_key state want) (sym steps_are) (
      All-from_recursion (IsAbout same_key state want) (planned same_key alike weak gone state want)
          (plan_about same_key key_is key_same alike takes alike_is alike_same weak gone state want order wanted),
      plan_once same_key key_is key_same alike takes alike_is alike_same weak gone state want order wanted,
    )

pub returns-then-is_empty-clause-confined : goal.returns-then-is_empty-clause-confined
returns-then-is_empty-clause-confined g c =
    let weak = g.R.Rules.weak c.args.rules.now in
    let takes = keeping same_key weak (g.R.Rules.takes c.args.rules.now) in
    let state = things c.args.state.now in
    let want = things c.args.want.items in
    let gone = c.in_ok-steps.ensures.0 in
    let is_lost = c.in_ok-steps.ensures.1 in
    let steps_are = c.in_ok-steps.ensures.2 in
    let order = c.requires.state_ready in
    let is_set = c.requires.state_settled in
    let wanted = c.requires.want_ready in
    subst (IsConfined state want) (sym steps_are)
    (confined same_key key_is state want (planned same_key alike weak gone state want)
    (plan_about same_key key_is key_same alike takes alike_is alike_same weak gone state want order wanted))

pub returns-then-is_empty-clause-idle : goal.returns-then-is_empty-clause-idle
returns-then-is_empty-clause-idle g c =
    let weak = g.R.Rules.weak c.args.rules.now in
    let takes = keeping same_key weak (g.R.Rules.takes c.args.rules.now) in
    let state = things c.args.state.now in
    let want = things c.args.want.items in
    let gone = c.in_ok-steps.ensures.0 in
    let is_lost = c.in_ok-steps.ensures.1 in
    let steps_are = c.in_ok-steps.ensures.2 in
    let order = c.requires.state_ready in
    let is_set = c.requires.state_settled in
    let wanted = c.requires.want_ready in
    λ same.
    none_mapped request c.in_ok-steps.steps.items
    (steps_are ∙ plan_idle same_key key_is key_same alike takes alike_is alike_same weak gone state want is_lost order is_set wanted same)

pub returns-then-is_empty-clause-keeps : goal.returns-then-is_empty-clause-keeps
returns-then-is_empty-clause-keeps g c =
    let weak = g.R.Rules.weak c.args.rules.now in
    let takes = keeping same_key weak (g.R.Rules.takes c.args.rules.now) in
    let state = things c.args.state.now in
    let want = things c.args.want.items in
    let gone = c.in_ok-steps.ensures.0 in
    let is_lost = c.in_ok-steps.ensures.1 in
    let steps_are = c.in_ok-steps.ensures.2 in
    let order = c.requires.state_ready in
    let is_set = c.requires.state_settled in
    let wanted = c.requires.want_ready in
    subst (IsLeftAlone same_key weak (suits weak (g.R.Rules.takes c.args.rules.now)) state want) (sym steps_are)
    (plan_keeps same_key key_is key_same alike takes alike_is alike_same weak gone state want is_lost wanted)

pub returns-then-is_empty-clause-spares : goal.returns-then-is_empty-clause-spares
returns-then-is_empty-clause-spares g c =
    let weak = g.R.Rules.weak c.args.rules.now in
    let takes = keeping same_key weak (g.R.Rules.takes c.args.rules.now) in
    let state = things c.args.state.now in
    let want = things c.args.want.items in
    let gone = c.in_ok-steps.ensures.0 in
    let is_lost = c.in_ok-steps.ensures.1 in
    let steps_are = c.in_ok-steps.ensures.2 in
    let order = c.requires.state_ready in
    let is_set = c.requires.state_settled in
    let wanted = c.requires.want_ready in
    subst (IsSpared same_key weak (suits weak (g.R.Rules.takes c.args.rules.now)) state want) (sym steps_are)
    (plan_spares same_key key_is key_same alike takes alike_is alike_same weak gone state want is_lost)

pub returns-then-is_empty-clause-gone : goal.returns-then-is_empty-clause-gone
returns-then-is_empty-clause-gone g c =
    let weak = g.R.Rules.weak c.args.rules.now in
    let takes = keeping same_key weak (g.R.Rules.takes c.args.rules.now) in
    let state = things c.args.state.now in
    let want = things c.args.want.items in
    let gone = c.in_ok-steps.ensures.0 in
    let is_lost = c.in_ok-steps.ensures.1 in
    let steps_are = c.in_ok-steps.ensures.2 in
    let order = c.requires.state_ready in
    let is_set = c.requires.state_settled in
    let wanted = c.requires.want_ready in
    subst (IsGone same_key weak) (sym steps_are) (plan_gone same_key key_is key_same alike takes alike_is alike_same weak gone state want is_lost)

pub returns-then-is_empty-clause-least : goal.returns-then-is_empty-clause-least
returns-then-is_empty-clause-least g c =
    let weak = g.R.Rules.weak c.args.rules.now in
    let takes = keeping same_key weak (g.R.Rules.takes c.args.rules.now) in
    let state = things c.args.state.now in
    let want = things c.args.want.items in
    let gone = c.in_ok-steps.ensures.0 in
    let is_lost = c.in_ok-steps.ensures.1 in
    let steps_are = c.in_ok-steps.ensures.2 in
    let order = c.requires.state_ready in
    let is_set = c.requires.state_settled in
    let wanted = c.requires.want_ready in
    subst (IsLeast same_key weak state) (sym steps_are)
    (plan_least same_key key_is key_same alike takes alike_is alike_same weak gone state want order is_set is_lost)

pub returns-then-is_empty-clause-placed : goal.returns-then-is_empty-clause-placed
returns-then-is_empty-clause-placed g c =
    let weak = g.R.Rules.weak c.args.rules.now in
    let takes = keeping same_key weak (g.R.Rules.takes c.args.rules.now) in
    let state = things c.args.state.now in
    let want = things c.args.want.items in
    let gone = c.in_ok-steps.ensures.0 in
    let is_lost = c.in_ok-steps.ensures.1 in
    let steps_are = c.in_ok-steps.ensures.2 in
    let order = c.requires.state_ready in
    let is_set = c.requires.state_settled in
    let wanted = c.requires.want_ready in
    subst (IsPlaced same_key) (sym steps_are) (plan_placed same_key key_is key_same alike weak gone state want wanted)

pub returns-then-is_empty-clause-resumes : goal.returns-then-is_empty-clause-resumes
returns-then-is_empty-clause-resumes g c =
    let weak = g.R.Rules.weak c.args.rules.now in
    let takes = keeping same_key weak (g.R.Rules.takes c.args.rules.now) in
    let state = things c.args.state.now in
    let want = things c.args.want.items in
    let gone = c.in_ok-steps.ensures.0 in
    let is_lost = c.in_ok-steps.ensures.1 in
    let steps_are = c.in_ok-steps.ensures.2 in
    let order = c.requires.state_ready in
    let is_set = c.requires.state_settled in
    let wanted = c.requires.want_ready in
    subst (LeavesWhole same_key weak takes state) (sym steps_are)
    (plan_resumes same_key key_is key_same alike takes alike_is weak gone state want order is_set wanted is_lost.lost)

pub returns-else-is_empty-clause-idle : goal.returns-else-is_empty-clause-idle
returns-else-is_empty-clause-idle g c =
    let weak = g.R.Rules.weak c.args.rules.now in
    let takes = keeping same_key weak (g.R.Rules.takes c.args.rules.now) in
    let state = things c.args.state.now in
    let want = things c.args.want.items in
    let gone = c.in_ok-steps.ensures.0 in
    let is_lost = c.in_ok-steps.ensures.1 in
    let steps_are = c.in_ok-steps.ensures.2 in
    let order = c.requires.state_ready in
    let is_set = c.requires.state_settled in
    let wanted = c.requires.want_ready in
    let can = g.R.Rules.can_make c.args.rules.now in
    let is = c.in_ok-barred.ensures ∙ ap (λ l. barred_keys can (map request l)) c.deref.ensures.value ∙ ap (barred_keys can) steps_are in
    λ same.
    let none : c.in_ok-barred.barred.items ≡ [] =
    is ∙ ap (barred_keys can) (plan_idle same_key key_is key_same alike takes alike_is alike_same weak gone state want is_lost order is_set wanted same) in
    grind (arith, common_steps, none, c.is_empty.ensures, c.if-is_empty.false)

pub returns-else-is_empty-clause-refuses : goal.returns-else-is_empty-clause-refuses
returns-else-is_empty-clause-refuses g c =
    let weak = g.R.Rules.weak c.args.rules.now in
    let takes = keeping same_key weak (g.R.Rules.takes c.args.rules.now) in
    let state = things c.args.state.now in
    let want = things c.args.want.items in
    let gone = c.in_ok-steps.ensures.0 in
    let is_lost = c.in_ok-steps.ensures.1 in
    let steps_are = c.in_ok-steps.ensures.2 in
    let order = c.requires.state_ready in
    let is_set = c.requires.state_settled in
    let wanted = c.requires.want_ready in
    let can = g.R.Rules.can_make c.args.rules.now in
    let is = c.in_ok-barred.ensures ∙ ap (λ l. barred_keys can (map request l)) c.deref.ensures.value ∙ ap (barred_keys can) steps_are in (
      (λ none. grind (arith, common_steps, none, c.is_empty.ensures, c.if-is_empty.false)),
      All-from_recursion (IsBarred same_key weak (suits weak (g.R.Rules.takes c.args.rules.now)) state want can) c.in_ok-barred.barred.items
          (subst (AllByRecursion (IsBarred same_key weak (suits weak (g.R.Rules.takes c.args.rules.now)) state want can)) (sym is)
          (plan_barred same_key key_is key_same alike takes alike_is alike_same weak gone state want is_lost can wanted)),
    )

pub returns-else-is_empty-clause-returns : goal.returns-else-is_empty-clause-returns
returns-else-is_empty-clause-returns g c =
    let weak = g.R.Rules.weak c.args.rules.now in
    let takes = keeping same_key weak (g.R.Rules.takes c.args.rules.now) in
    let state = things c.args.state.now in
    let want = things c.args.want.items in
    let gone = c.in_ok-steps.ensures.0 in
    let is_lost = c.in_ok-steps.ensures.1 in
    let steps_are = c.in_ok-steps.ensures.2 in
    let order = c.requires.state_ready in
    let is_set = c.requires.state_settled in
    let wanted = c.requires.want_ready in
    let can = g.R.Rules.can_make c.args.rules.now in
    let is = c.in_ok-barred.ensures ∙ ap (λ l. barred_keys can (map request l)) c.deref.ensures.value ∙ ap (barred_keys can) steps_are in
    λ all _.
    let barred = plan_barred same_key key_is key_same alike takes alike_is alike_same weak gone state want is_lost can wanted in
    let none : c.in_ok-barred.barred.items ≡ [] =
    is ∙ none_barred same_key key_is key_same alike takes alike_is alike_same weak state want can (recursion_from_All (λ o. can o ≡ true) want all)
    (barred_keys can (planned same_key alike weak gone state want)) barred in
    grind (arith, common_steps, none, c.is_empty.ensures, c.if-is_empty.false)
