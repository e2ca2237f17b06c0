-- The kinds that the elements of a list set, and a list that is settled under the one that it sets itself.
use Rattle.std.specs.Prelude.{◌≡◌, ℕ, ◌≤◌, List, [], ◌∷◌, length, map, Option, Some, None, unwrap_or}
use Rattle.std.specs.Borrow.{Bor}
use Rattle.std.specs.List.{AllByRecursion}
use Rattle.nla_frames.specs.Place.{Sets, kinds_set}
use Rattle.nla_frames.specs.declared.only_kind.OnlyKind.{OnlyKind}
use Rattle.nla_frames.specs.declared.only_kind.OnlyKind.TheVariants.{Missing, One, Several}

-- a text that may be set, by its bytes
abbrev pub text_set : Option (Bor (List ℕ)) → Option (List ℕ)
text_set None = None
text_set (Some text) = Some text.now

-- the kind after an element that sets this one, or none
abbrev pub kind_after : List ℕ → Option (List ℕ) → List ℕ
kind_after kind set = unwrap_or set kind

-- `only` agrees with these kinds: none, exactly one, or several
abbrev pub Summarizes : OnlyKind → List (List ℕ) → Type 0
Summarizes Missing kinds = kinds ≡ []
Summarizes (One kind) kinds = kinds ≡ kind.now ∷ []
Summarizes Several kinds = 2 ≤ length kinds

-- one kind is set, once, and each element is settled under it
abbrev pub SettledUnderOwn : {Y X : Type 0} → (Y → X) → (List ℕ → X → Type 0) → Sets Y → List Y → Type 0
SettledUnderOwn see Settled sets items = (kind : List ℕ) × (kinds_set sets items ≡ kind ∷ []) × AllByRecursion (Settled kind) (map see items)
