-- Requests one after another.
use Rattle.std.proofs.Common.{◌≡◌, zero, suc, take, Bool, true, false, cond, List, [], ◌∷◌, ◌++◌, Option, Some, None, refl, subst, ap}
use Rattle.tc_changes.specs.Model.{Thing, IsWhole}
use Rattle.tc_changes.specs.Requests.{Request, Make, Change, Delete, can_come, can_change, without, Sends, Runs, LeavesWhole}
use Rattle.tc_changes.specs.Requests as model

module _ {K C : Type 0} (eq : K → K → Bool) where
  -- whether a request to make or change is taken, and what it leaves
  abbrev pub taken : (Thing K C → Thing K C → Bool) → List (Thing K C) → Request K C → Bool
  taken takes state (Make o) = can_come eq state o
  taken takes state (Change o) = can_change eq takes state o
  taken takes state (Delete k) = false

  abbrev pub sent : List (Thing K C) → Request K C → List (Thing K C)
  sent state (Make o) = state ++ o ∷ []
  sent state (Change o) = without eq o.key state ++ o ∷ []
  sent state (Delete k) = state

  -- what such requests leave, unless one is refused
  abbrev pub run : (Thing K C → Thing K C → Bool) → List (Thing K C) → List (Request K C) → Option (List (Thing K C))
  run takes state [] = Some state
  run takes state (r ∷ rs) = cond (taken takes state r) (run takes (sent state r) rs) None

  -- states that each of some requests finds, and the one that they leave, are whole
  abbrev pub Wholly : List (Thing K C) → List (Request K C) → Type 0
  Wholly state [] = IsWhole eq state
  Wholly state (r ∷ rs) = IsWhole eq state × Wholly (sent state r) rs

module _ {K C : Type 0} (eq : K → K → Bool) (takes : Thing K C → Thing K C → Bool) where
  -- the first of some requests
  pub run_first : (state : List (Thing K C)) (r : Request K C) (rs : List (Request K C)) → taken eq takes state r ≡ true
      → run eq takes state (r ∷ rs) ≡ run eq takes (sent eq state r) rs
  run_first state r rs is = ap (λ b. cond b (run eq takes (sent eq state r) rs) None) is

  -- what is run is taken
  pub none_run : (b : Bool) (o : Option (List (Thing K C))) (t : List (Thing K C)) → cond b o None ≡ Some t → (b ≡ true) × (o ≡ Some t)
  none_run true o t is = (refl, is)
  none_run false o t is = absurd (cc is)

-- the same, and each state on the way is whole
pub data RunsWhole {K C : Type 0} (eq : K → K → Bool) (weak : K → Bool) (takes : Thing K C → Thing K C → Bool) : List (Thing K C) → List (Request K C) → List (Thing K C)
    → Type 0 where
  none : (state : List (Thing K C)) → IsWhole eq state → RunsWhole eq weak takes state [] state
  next : (state : List (Thing K C)) (r : Request K C) (middle : List (Thing K C)) (rs : List (Request K C)) (after : List (Thing K C))
      → IsWhole eq state → Sends eq weak takes state r middle → RunsWhole eq weak takes middle rs after → RunsWhole eq weak takes state (r ∷ rs) after

module _ {K C : Type 0} (eq : K → K → Bool) (weak : K → Bool) (takes : Thing K C → Thing K C → Bool) where
  -- requests after others
  pub runs-append : (state middle after : List (Thing K C)) (rs more : List (Request K C)) → RunsWhole eq weak takes state rs middle
      → RunsWhole eq weak takes middle more after → RunsWhole eq weak takes state (rs ++ more) after
  runs-append _ _ after _ more (none state whole) then = then
  runs-append _ _ after _ more (next state r between rs middle whole sends runs) then = next state r between (rs ++ more) after whole sends
      (runs-append between middle after rs more runs then)

  pub runs_of : (state after : List (Thing K C)) (rs : List (Request K C)) → RunsWhole eq weak takes state rs after → Runs eq weak takes state rs after
  runs_of _ _ _ (none state whole) = model.none state
  runs_of _ _ _ (next state r between rs middle whole sends runs) = model.next state r between rs middle sends (runs_of between middle rs runs)

  pub cut_of : (state after : List (Thing K C)) (rs : List (Request K C)) → RunsWhole eq weak takes state rs after → LeavesWhole eq weak takes state rs
  cut_of _ _ _ (none state whole) zero = (state, model.none state, whole)
  cut_of _ _ _ (none state whole) (suc n) = (state, model.none state, whole)
  cut_of _ _ _ (next state r between rs middle whole sends runs) zero = (state, model.none state, whole)
  cut_of _ _ _ (next state r between rs middle whole sends runs) (suc n) =
      let cut = cut_of between middle rs runs n in
      (cut.0, model.next state r between (take n rs) cut.0 sends cut.1, cut.2)

  sends_of : (state : List (Thing K C)) (r : Request K C) → taken eq takes state r ≡ true → Sends eq weak takes state r (sent eq state r)
  sends_of state (Make o) is = (is, refl)
  sends_of state (Change o) is = (is, refl)
  sends_of state (Delete k) is = absurd (cc is)

  -- what is run is taken one after another
  pub simulated : (state after : List (Thing K C)) (rs : List (Request K C)) → run eq takes state rs ≡ Some after → Wholly eq state rs
      → RunsWhole eq weak takes state rs after
  simulated state after [] is whole = let e : state ≡ after = cc is in subst (RunsWhole eq weak takes state []) e (none state whole)
  simulated state after (r ∷ rs) is whole =
      let two = none_run eq takes (taken eq takes state r) (run eq takes (sent eq state r) rs) after is in
      next state r (sent eq state r) rs after whole.0 (sends_of state r two.0) (simulated (sent eq state r) after rs two.1 whole.1)
