-- Sets of the places that are named, and plans for what is there.
use Rattle.std.proofs.Common.{◌≡◌, ℕ, ◌+◌, ◌<◌, Bool, true, false, ◌&&◌, ◌||◌, List, [], ◌∷◌, ◌++◌, length, get_or, map, take, drop, refl, sym, ap, subst}
use Rattle.std.proofs.Common.{◌∙◌, append_assoc}
use Rattle.std.specs.List.{list_all, AllByRecursion}
use Rattle.std.specs.HashSet as bag
use Rattle.std.specs.HashSet.{HashSet}
use Rattle.std.proofs.lemmas.List.{take_more, drop_more, map_push, map-append, take-append-drop}
use Rattle.std.proofs.lemmas.List.Elements.{recursion_from_All}
use Rattle.std.proofs.lemmas.List.Folds.{list_any-append}
use Rattle.tc_changes.specs.Model.{among, ready}
use Rattle.tc_changes.specs.Objects.{KernelThing, thing, things, same_key, alike, request, IfSteps, IsSetOf}
use Rattle.tc_changes.specs.Plans.{IsExact, IsAbout, IsLeftAlone}
use Rattle.tc_changes.specs.Promises.{suits}
use Rattle.tc_changes.specs.Requests.{settled, keeping}
use Rattle.tc_changes.specs.Scope.{scope_of, scopes, is_named, completed, AreFree, AreHeld, IsWithin}
use Rattle.tc_changes.specs.declared.key.Key.{Key}
use Rattle.tc_changes.specs.declared.object.Object.{Object}
use Rattle.tc_changes.specs.declared.step.Plan.{Plan}
use Rattle.tc_changes.specs.declared.step.Plan.TheVariants.{Steps, Refused}
use Rattle.tc_changes.proofs.Lookups.{and_false, or_true}
use Rattle.tc_changes.proofs.Equal.{key_is, key_same, alike_is, alike_same}
use Rattle.tc_changes.proofs.Elsewhere.{ready_completed, steps_within}
use Rattle.tc_changes.proofs.Firsts.{things_more}
use Rattle.tc_changes.proofs.Indexes.{set_more}

last_first : (a b : Bool) → (a || (b || false)) ≡ (b || a)
last_first true true = refl
last_first true false = refl
last_first false true = refl
last_first false false = refl

-- one more key in a set, as the last of its list
pub set_push : {S : Type 0} (m n : HashSet Key S) (some : List Key) (x : Key) → bag.Updates same_key m n x true → IsSetOf m some
    → IsSetOf n (some ++ x ∷ [])
set_push m n some x put is k =
    set_more m n some x put is k
    ∙ sym (list_any-append (same_key k) some (x ∷ []) ∙ last_first (among same_key some k) (same_key k x))

-- the keys before a place of a list, and the one there
pub keys_more : {X Y : Type 0} (f : X → Y) (some : List Y) (xs : List X) (i : ℕ) (x : X) → i < length xs
    → (some ++ map f (take i xs)) ++ f (get_or xs i x) ∷ [] ≡ some ++ map f (take (i + 1) xs)
keys_more f some xs i x within =
    append_assoc some (map f (take i xs)) (f (get_or xs i x) ∷ [])
    ∙ ap (λ l. some ++ l) (sym (map_push f (take i xs) (get_or xs i x)) ∙ ap (map f) (sym (take_more xs i x within)))

-- the same of objects
pub objects_more : {A : Type 0} (f : _ → Key) (some : List Key) (xs : List (Object A)) (i : ℕ) (x : Object A) → i < length xs → x ≡ get_or xs i x
    → (some ++ map f (things (take i xs))) ++ f (thing x) ∷ [] ≡ some ++ map f (things (take (i + 1) xs))
objects_more f some xs i x within is =
    append_assoc some (map f (things (take i xs))) (f (thing x) ∷ [])
    ∙ ap (λ l. some ++ l) (sym (map_push f (things (take i xs)) (thing x)) ∙ ap (map f) (things_more xs i x within is))

-- a list without its element at a place, and this element
map_split : {X Y : Type 0} (f : X → Y) (xs : List X) (i : ℕ) (x : X) → i < length xs → x ≡ get_or xs i x
    → map f (take i xs) ++ f x ∷ map f (drop (i + 1) xs) ≡ map f xs
map_split f xs i x within is =
    sym (map-append f (take i xs) (x ∷ drop (i + 1) xs))
    ∙ ap (λ y. map f (take i xs ++ y ∷ drop (i + 1) xs)) is
    ∙ ap (λ l. map f (take i xs ++ l)) (sym (drop_more xs i x within))
    ∙ ap (map f) (take-append-drop i xs)

not_all : {X : Type 0} (p : X → Bool) (front : List X) (x : X) (rest : List X) → p x ≡ false → list_all p (front ++ x ∷ rest) ≡ false
not_all p [] x rest off = ap (λ b. b && list_all p rest) off
not_all p (y ∷ front) x rest off = ap (λ b. p y && b) (not_all p front x rest off) ∙ and_false (p y)

-- not all elements pass a test that one doesn't
pub not_all_at : {X Y : Type 0} (p : Y → Bool) (f : X → Y) (xs : List X) (i : ℕ) (x : X) → i < length xs → x ≡ get_or xs i x → p (f x) ≡ false
    → list_all p (map f xs) ≡ false
not_all_at p f xs i x within is off =
    ap (list_all p) (sym (map_split f xs i x within is)) ∙ not_all p (map f (take i xs)) (f x) (map f (drop (i + 1) xs)) off

all_here : (before : List Key) (want : List KernelThing)
    → AllByRecursion (λ o. among same_key (before ++ map (λ (p : KernelThing). scope_of p.key) want) (scope_of o.key) ≡ true) want
all_here before [] = tt
all_here before (o ∷ want) = (
  list_any-append (same_key (scope_of o.key)) before (scope_of o.key ∷ map (λ (p : KernelThing). scope_of p.key) want)
      ∙ ap (λ b. among same_key before (scope_of o.key) || (b || among same_key (map (λ (p : KernelThing). scope_of p.key) want) (scope_of o.key)))
      (key_same (scope_of o.key))
      ∙ or_true (among same_key before (scope_of o.key)),
  subst (λ l. AllByRecursion (λ (p : KernelThing). among same_key l (scope_of p.key) ≡ true) want)
      (append_assoc before (scope_of o.key ∷ []) (map (λ (p : KernelThing). scope_of p.key) want)) (all_here (before ++ scope_of o.key ∷ []) want),
)

-- each wanted object is where something is named
pub wanted_named : (keys : List Key) (want : List KernelThing) → AllByRecursion (λ o. is_named (scopes keys want) o.key ≡ true) want
wanted_named keys want = all_here (map scope_of keys) want

module _ (takes : KernelThing → KernelThing → Bool) (keys : List Key) (state want : List KernelThing) (order : ready same_key [] state ≡ true)
    (free : AreFree (scopes keys want) state) where
  -- what is wanted and all else is in order
  pub completed_ready : ready same_key [] want ≡ true → ready same_key [] (completed (scopes keys want) state want) ≡ true
  completed_ready wanted =
      ready_completed same_key key_is key_same alike takes alike_is alike_same (is_named (scopes keys want)) state want order wanted
      (wanted_named keys want) free

  -- the steps of a plan are where something is named
  pub plan_is_within : {A : Type 0} (weak : Key → Bool) → settled same_key weak state [] state ≡ true → AreHeld weak (scopes keys want) state
      → (plan : Plan A) → IfSteps plan (λ steps. IsExact same_key state (completed (scopes keys want) state want) steps)
      → IfSteps plan (λ steps. IsLeftAlone same_key weak (suits weak takes) state (completed (scopes keys want) state want) steps)
      → IfSteps plan (IsWithin (scopes keys want))
  plan_is_within weak is_set are_held (Steps steps) exact alone =
      steps_within same_key key_is key_same alike (keeping same_key weak takes) alike_is alike_same (is_named (scopes keys want)) weak state want order is_set
      (wanted_named keys want) free are_held (map request steps.items) alone
      (recursion_from_All (IsAbout same_key state (completed (scopes keys want) state want)) (map request steps.items) exact.0)
  plan_is_within weak is_set are_held (Refused keys_) exact alone = tt
