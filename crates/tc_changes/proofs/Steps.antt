-- Steps, and what is left to do.
use Rattle.std.proofs.Common.{◌≡◌, ℕ, true, false, cond, List, [], ◌∷◌, ◌++◌, Some, None, map, sym, ap, ◌∙◌, append_assoc}
use Rattle.std.proofs.lemmas.List.{map_push}
use Rattle.tc_changes.specs.Model.{found}
use Rattle.tc_changes.specs.Requests.{Request, Make, Change}
use Rattle.tc_changes.specs.Planned.{request_of, makes}
use Rattle.tc_changes.specs.Objects.{KernelThing, thing, things, same_key, alike, request}
use Rattle.tc_changes.specs.declared.key.Key.{Key}
use Rattle.tc_changes.specs.declared.object.Object.{Object}
use Rattle.tc_changes.specs.declared.step.Step.{Step}

module _ {A : Type 0} (stay : List KernelThing) (old new : List (Step A)) (w : Object A) (rest before : List (Object A)) (all : List (Request Key (List ℕ)))
    (is : before ≡ w ∷ rest)
    (so_far : map request old ++ makes same_key alike stay (things before) ≡ all) where
  ahead : (rs : List (Request Key (List ℕ))) → request_of same_key alike (thing w) (found same_key stay w.key) ≡ rs
      → map request old ++ (rs ++ makes same_key alike stay (things rest)) ≡ all
  ahead rs are =
      ap (λ l. map request old ++ (l ++ makes same_key alike stay (things rest))) (sym are)
      ∙ ap (λ l. map request old ++ makes same_key alike stay (things l)) (sym is) ∙ so_far

  -- one more step
  pub one_step : (step : Step A) → new ≡ old ++ step ∷ [] → request_of same_key alike (thing w) (found same_key stay w.key) ≡ request step ∷ []
      → map request new ++ makes same_key alike stay (things rest) ≡ all
  one_step step pushed are =
      ap (λ l. map request l ++ makes same_key alike stay (things rest)) pushed
      ∙ ap (λ l. l ++ makes same_key alike stay (things rest)) (map_push request old step)
      ∙ append_assoc (map request old) (request step ∷ []) (makes same_key alike stay (things rest)) ∙ ahead (request step ∷ []) are

  -- none for what is there
  pub no_step : request_of same_key alike (thing w) (found same_key stay w.key) ≡ [] → map request old ++ makes same_key alike stay (things rest) ≡ all
  no_step are = ahead [] are

-- what an object needs, by what there is
pub to_make : (stay : List KernelThing) (w : KernelThing) → None ≡ found same_key stay w.key
    → request_of same_key alike w (found same_key stay w.key) ≡ Make w ∷ []
to_make stay w is = ap (request_of same_key alike w) (sym is)

pub to_change : (stay : List KernelThing) (o w : KernelThing) → Some o ≡ found same_key stay w.key → alike o w ≡ false
    → request_of same_key alike w (found same_key stay w.key) ≡ Change w ∷ []
to_change stay o w is other = ap (request_of same_key alike w) (sym is) ∙ ap (λ b. cond b [] (Change w ∷ [])) other

pub to_keep : (stay : List KernelThing) (o w : KernelThing) → Some o ≡ found same_key stay w.key → alike o w ≡ true
    → request_of same_key alike w (found same_key stay w.key) ≡ []
to_keep stay o w is same = ap (request_of same_key alike w) (sym is) ∙ ap (λ b. cond b [] (Change w ∷ [])) same
