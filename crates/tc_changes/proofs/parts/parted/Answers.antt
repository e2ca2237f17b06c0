use Rattle.std.proofs.Common.{◌≡◌, Bool, cond, ◌∷◌, ◌++◌, ◌+◌, [], Some, take, sym, ap, subst, ◌∙◌}
use Rattle.std.specs.Prelude.{unwrap_or}
use Rattle.std.specs.HashMap as hash
use Rattle.std.specs.HashSet as bag
use Rattle.std.proofs.lemmas.List.{take_more, map_push, take_all}
use Rattle.tc_changes.specs.Objects.{thing, things, same_key, IsIndexOf}
use Rattle.tc_changes.specs.Planned.{remover, remover_of, is_along, kept, asked}
use Rattle.tc_changes.specs.declared.key.Key.{Key}
use Rattle.tc_changes.proofs.Indexes.{thing_at}
use Rattle.tc_changes.proofs.Passes.{pairs}
use Rattle.tc_changes.proofs.Parted.{IsParted, same_find, parted_goes, parted_stays}
use Rattle.tc_changes.proofs.parts.parted.Goals as goal
use Rattle.tc_changes.proofs.parts.parted.Goals.{then-contains+in_ok-gone+in_ok-insert, else-contains+in_ok-insert-2}

pub loop-place-preserved : goal.loop-place-preserved
loop-place-preserved g c =
    let inv = c.loop-place.invariant in
    let i = c.loop-place.place in
    let xs = c.args.state.now in
    let all = things xs in
    let x = c.index-state-place.result in
    let s = things (take i xs) in
    let weak : Key → Bool = g.R.Rules.weak c.args.rules.now in
    let gone : Key → Bool = bag.contains same_key c.args.going.now in
    let out = pairs same_key weak gone [] s in
    let more : take (i + 1) xs
    ≡ take i xs ++ x ∷ [] = subst (λ y. take (i + 1) xs ≡ take i xs ++ y ∷ []) (sym c.index-state-place.is) (take_more xs i x c.loop-place-test.true) in
    subst (IsParted weak gone all c.if-contains.removed c.if-contains.gone.items c.if-contains.kept) (sym (map_push thing (take i xs) x) ∙ ap things (sym more))
    (elim c.if-contains.branch [
      | then-contains+in_ok-gone+in_ok-insert w ↦
          let remover_is : w.remover_of-remover.result ≡ remover_of same_key weak (remover same_key out) (thing x) =
          w.remover_of-remover.ensures ∙ ap (λ find. remover_of same_key weak find (thing x)) (same_find c.loop-place.removed out inv.removed_are) in
          subst (λ k. IsParted weak gone all k c.if-contains.gone.items c.if-contains.kept (s ++ thing x ∷ [])) (sym w.removed-is)
          (subst (λ v. IsParted weak gone all w.insert.new.self v.items c.if-contains.kept (s ++ thing x ∷ [])) (sym w.gone-is)
          (subst (λ m. IsParted weak gone all w.insert.new.self w.in_ok-gone.gone.items m (s ++ thing x ∷ [])) (sym w.kept-is)
          (parted_goes weak gone all c.loop-place.removed c.loop-place.gone.items c.loop-place.kept s inv (thing x) w.insert.new.self w.in_ok-gone.gone.items
          (sym c.contains.ensures ∙ w.if-contains.true)
          (subst (λ q. hash.Updates same_key c.loop-place.removed w.insert.new.self x.key (Some (unwrap_or q x.key))) remover_is
          (subst (λ k. hash.Updates same_key c.loop-place.removed w.insert.new.self x.key (Some k)) w.unwrap_or.ensures w.in_ok-insert.ensures.updates))
          (subst (λ q. w.in_ok-gone.gone.items
          ≡ cond (is_along same_key weak gone (thing x) q) c.loop-place.gone.items (c.loop-place.gone.items ++ x.key ∷ [])) remover_is
          (w.in_ok-gone.ensures ∙ ap (λ b. cond b c.loop-place.gone.items (c.loop-place.gone.items ++ x.key ∷ [])) w.is_along.ensures)))))
      | else-contains+in_ok-insert-2 w ↦
          subst (λ k. IsParted weak gone all k c.if-contains.gone.items c.if-contains.kept (s ++ thing x ∷ [])) (sym w.removed-is)
          (subst (λ v. IsParted weak gone all c.loop-place.removed v.items c.if-contains.kept (s ++ thing x ∷ [])) (sym w.gone-is)
          (subst (λ m. IsParted weak gone all c.loop-place.removed c.loop-place.gone.items m (s ++ thing x ∷ [])) (sym w.kept-is)
          (parted_stays weak gone all c.loop-place.removed c.loop-place.gone.items c.loop-place.kept s inv (thing x) w.insert-else-contains.new.self i
          (sym c.contains.ensures ∙ w.if-contains.false) w.in_ok-insert-2.ensures.updates (thing_at xs i x c.loop-place-test.true c.index-state-place.is))))
    ])

pub returns-clause-gone : goal.returns-clause-gone
returns-clause-gone g c =
    let all : take c.loop-place.place c.args.state.now ≡ c.args.state.now = take_all c.loop-place.place c.args.state.now c.loop-place-test.false in
    c.loop-place.invariant.lost_are
    ∙ ap (λ l. asked same_key (g.R.Rules.weak c.args.rules.now) (bag.contains same_key c.args.going.now) [] (things l)) all

pub returns-clause-kept : goal.returns-clause-kept
returns-clause-kept g c =
    let all : take c.loop-place.place c.args.state.now ≡ c.args.state.now = take_all c.loop-place.place c.args.state.now c.loop-place-test.false in
    subst (λ l. IsIndexOf (things c.args.state.now) c.loop-place.kept
    (kept same_key (g.R.Rules.weak c.args.rules.now) (bag.contains same_key c.args.going.now) (things l))) all
    c.loop-place.invariant.stay_are
