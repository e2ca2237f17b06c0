use Rattle.std.proofs.Common.{Bool, ◌++◌, map, ap, subst, ◌∙◌}
use Rattle.std.specs.HashSet as bag
use Rattle.tc_changes.specs.Requests.{Delete}
use Rattle.tc_changes.specs.Planned.{kept, makes, IsLost}
use Rattle.tc_changes.specs.Promises.{suits}
use Rattle.tc_changes.specs.Objects.{things, same_key, alike}
use Rattle.tc_changes.specs.declared.key.Key.{Key}
use Rattle.tc_changes.proofs.planned.steps_of.Goals as goal

pub returns : goal.returns
returns g c =
    let state = things c.args.state.now in
    let want = things c.args.want.items in
    let weak : Key → Bool = g.R.Rules.weak c.args.rules.now in
    let gone : Key → Bool = bag.contains same_key c.in_ok-going.going in
    let is : IsLost same_key weak (suits weak (g.R.Rules.takes c.args.rules.now)) state want gone =
    subst (λ l. IsLost same_key weak (suits weak (g.R.Rules.takes c.args.rules.now)) state (things l) gone) c.deref-2.ensures.value c.in_ok-going.ensures in (
      gone,
      is,
      c.in_ok-steps.ensures (kept same_key weak gone state) c.in_ok-gone.ensures.kept
          ∙ ap (λ l. l ++ makes same_key alike (kept same_key weak gone state) want)
          (c.in_ok-deletes.ensures ∙ ap (map Delete) c.in_ok-gone.ensures.gone),
    )
