-- What goes along is certain.
use Rattle.std.proofs.Common.{◌≡◌, Bool, true, List, [], ◌∷◌}
use Rattle.std.specs.List.{AllByRecursion}
use Rattle.tc_changes.specs.Model.{Thing}
use Rattle.tc_changes.specs.Requests.{Goes}
use Rattle.tc_changes.proofs.Lookups.{bool_same}

module _ {K C : Type 0} (eq : K → K → Bool) (weak : K → Bool) (state : List (Thing K C)) (k : K) (one two : K → Bool) where
  abbrev Tells : (K → Bool) → Thing K C → Type 0
  Tells away o = (away o.key ≡ true → Goes eq weak state (k ∷ []) o.key) × (Goes eq weak state (k ∷ []) o.key → away o.key ≡ true)

  pub certain : (rest : List (Thing K C)) → AllByRecursion (Tells one) rest → AllByRecursion (Tells two) rest
      → AllByRecursion (λ o. one o.key ≡ two o.key) rest
  certain [] here there = tt
  certain (o ∷ rest) here there =
      (bool_same (one o.key) (two o.key) (λ on. there.0.1 (here.0.0 on)) (λ on. here.0.1 (there.0.0 on)), certain rest here.1 there.1)
