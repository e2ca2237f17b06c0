-- A plan leads to what is wanted, and a cut of it leaves a whole state.
use Rattle.std.proofs.Common.{◌≡◌, Bool, true, List, [], Option, map, refl, sym, subst}
use Rattle.std.specs.List.{AllByRecursion}
use Rattle.tc_changes.specs.Model.{Thing, ready}
use Rattle.tc_changes.specs.Requests.{Delete, settled, Leads, LeavesWhole}
use Rattle.tc_changes.specs.Plans.{fits}
use Rattle.tc_changes.specs.Planned.{remover, goes, kept, asked, makes, planned}
use Rattle.tc_changes.proofs.Runs.{RunsWhole, runs-append, runs_of, cut_of, simulated}
use Rattle.tc_changes.proofs.Makes.{leads, leads_same}
use Rattle.tc_changes.proofs.Passes.{pairs, asked_all, Removed, removed_are}
use Rattle.tc_changes.proofs.Drops.{drops}
use Rattle.tc_changes.proofs.Keeps.{all_found}

module _ {K C : Type 0} (eq : K → K → Bool) (sound : (a b : K) → eq a b ≡ true → a ≡ b) (same : (a : K) → eq a a ≡ true)
    (weak gone : K → Bool) (state : List (Thing K C)) (order : ready eq [] state ≡ true) where
  -- the remover of each key that goes
  abbrev pub find : K → Option K
  find = remover eq (pairs eq weak gone [] state)

  pub passed_over : AllByRecursion (Removed eq sound same weak gone find) state × (asked eq weak gone [] state ≡ asked_all eq sound same weak gone find state)
  passed_over = removed_are eq sound same weak gone find [] [] state order (λ k. refl) (λ k there. absurd (cc there)) (λ k _. refl)

module _ {K C : Type 0} (eq : K → K → Bool) (sound : (a b : K) → eq a b ≡ true → a ≡ b) (same : (a : K) → eq a a ≡ true)
    (alike takes : Thing K C → Thing K C → Bool) (alike_is : (a b : Thing K C) → alike a b ≡ true → a ≡ b) (weak gone : K → Bool)
    (state want : List (Thing K C)) (order : ready eq [] state ≡ true) (is_set : settled eq weak state [] state ≡ true) (wanted : ready eq [] want ≡ true)
    (lost : AllByRecursion (λ o. gone o.key ≡ goes eq weak (fits alike takes) state want gone o) state) where
  runs : RunsWhole eq weak takes state (planned eq alike weak gone state want)
      (leads eq sound same alike takes alike_is weak gone state want order wanted lost).0
  runs =
      let stays : List (Thing K C) = kept eq weak gone state in
      let then = leads eq sound same alike takes alike_is weak gone state want order wanted lost in
      let keys : List K = asked eq weak gone [] state in
      let two = passed_over eq sound same weak gone state order in
      let first : RunsWhole eq weak takes state (map Delete keys) stays =
      subst (λ l. RunsWhole eq weak takes state (map Delete l) stays) (sym two.1)
      (drops eq sound same weak state (fits alike takes) want gone (find eq sound same weak gone state order)
      (all_found eq sound same alike takes alike_is [] state state refl order) order is_set lost two.0 takes) in
      runs-append eq weak takes state stays then.0 (map Delete keys) (makes eq alike stays want) first
      (simulated eq weak takes stays then.0 (makes eq alike stays want) then.1 then.3)

  pub plan_leads : Leads eq weak takes state (planned eq alike weak gone state want) want
  plan_leads =
      let then = leads eq sound same alike takes alike_is weak gone state want order wanted lost in (
        then.0,
        runs_of eq weak takes state then.0 (planned eq alike weak gone state want) runs,
        leads_same eq sound same alike takes alike_is weak gone state want order wanted lost,
      )

  pub plan_resumes : LeavesWhole eq weak takes state (planned eq alike weak gone state want)
  plan_resumes =
      let then = leads eq sound same alike takes alike_is weak gone state want order wanted lost in
      cut_of eq weak takes state then.0 (planned eq alike weak gone state want) runs
