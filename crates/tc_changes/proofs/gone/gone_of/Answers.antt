use Rattle.std.proofs.Common.{◌≡◌, ◌≤◌, length, Bool, true, false, [], Some, refl, sym, subst, arith}
use Rattle.std.proofs.lemmas.Grind.{common_steps}
use Rattle.std.specs.List.{AllByRecursion}
use Rattle.std.specs.HashSet as bag
use Rattle.tc_changes.specs.Model.{found}
use Rattle.tc_changes.specs.Planned.{goes, count, IsLost}
use Rattle.tc_changes.specs.Promises.{suits}
use Rattle.tc_changes.specs.Objects.{KernelThing, thing, things, same_key, alike}
use Rattle.tc_changes.specs.declared.key.Key.{Key}
use Rattle.tc_changes.proofs.Equal.{key_is, key_same, alike_is}
use Rattle.tc_changes.proofs.Lookups.{all_by, refuted}
use Rattle.tc_changes.proofs.Keeps.{all_found}
use Rattle.tc_changes.proofs.Losses.{all_gone, lost_of, map_long}
use Rattle.tc_changes.proofs.gone.gone_of.Goals as goal

pub returns-then-not-round : goal.returns-then-not-round
returns-then-not-round g c =
    let state = things c.args.state.now in
    let want = things c.args.want.now in
    let weak : Key → Bool = g.R.Rules.weak c.args.rules.now in
    let fit : KernelThing → KernelThing → Bool = suits weak (g.R.Rules.takes c.args.rules.now) in
    let old : Key → Bool = bag.contains same_key c.loop.gone in
    let new : Key → Bool = bag.contains same_key c.in_ok-round.round.gone in
    let here : AllByRecursion (λ o. found same_key state o.key ≡ Some o) state =
    all_found same_key key_is key_same alike (g.R.Rules.takes c.args.rules.now) alike_is [] state state refl c.requires.state_ready in
    let off : c.in_ok-round.round.is_more ≡ false = grind (arith, common_steps, c.if-not-round.true) in
    let two = c.in_ok-round.ensures.closed off in
    let e : old ≡ new = sym (λ i k. two.0 k i) in
    subst (IsLost same_key weak fit state want) e
    (lost_of weak fit state want here old c.loop.invariant.rightly c.loop.invariant.sparing two.1)

pub loop-preserved : goal.loop-preserved
loop-preserved g c =
    let on : c.in_ok-round.round.is_more ≡ true = grind (arith, common_steps, c.if-not-round.false) in
    let grown = c.in_ok-round.ensures.grown on in
    record {
      rightly = c.in_ok-round.ensures.rightly c.loop.invariant.rightly;
      sparing = c.in_ok-round.ensures.sparing c.loop.invariant.sparing;
      many = omega (arith, grown, c.loop.invariant.many);
    }

pub returns : goal.returns
returns g c =
    let state = things c.args.state.now in
    let want = things c.args.want.now in
    let weak : Key → Bool = g.R.Rules.weak c.args.rules.now in
    let fit : KernelThing → KernelThing → Bool = suits weak (g.R.Rules.takes c.args.rules.now) in
    let old : Key → Bool = bag.contains same_key c.loop.gone in
    let here : AllByRecursion (λ o. found same_key state o.key ≡ Some o) state =
    all_found same_key key_is key_same alike (g.R.Rules.takes c.args.rules.now) alike_is [] state state refl c.requires.state_ready in
    let same_long : length state ≡ length c.args.state.now = map_long thing c.args.state.now in
    let long : length state ≤ count old state = omega (arith, same_long, c.loop.invariant.many, c.loop-test.false) in
    lost_of weak fit state want here old c.loop.invariant.rightly c.loop.invariant.sparing
    (all_by (λ o. old o.key ≡ true) (λ o. old o.key ≡ false → goes same_key weak fit state want old o ≡ false)
    (λ o on off. refuted (old o.key) on off) state (all_gone old state long))
