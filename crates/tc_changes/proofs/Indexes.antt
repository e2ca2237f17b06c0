-- Maps of places, and sets of keys.
use Rattle.std.proofs.Common.{◌≡◌, ℕ, ◌<◌, Bool, true, false, cond, ◌||◌, List, [], ◌∷◌, ◌++◌, Option, Some, length, get_or, refl, sym, ap, ◌∙◌}
use Rattle.std.specs.Prelude.{slice_get, option_and_then, option_map}
use Rattle.std.specs.List.{list_any}
use Rattle.std.specs.HashMap as hash
use Rattle.std.specs.HashMap.{HashMap}
use Rattle.std.specs.HashSet as bag
use Rattle.std.specs.HashSet.{HashSet}
use Rattle.std.proofs.lemmas.Option.{slice_get-map, slice_get-get_or}
use Rattle.std.proofs.lemmas.List.Folds.{list_any-append}
use Rattle.tc_changes.specs.Model.{among, found, needs}
use Rattle.tc_changes.specs.Objects.{KernelThing, thing, things, same_key, IsIndexOf, IsSetOf}
use Rattle.tc_changes.specs.declared.key.Key.{Key}
use Rattle.tc_changes.specs.declared.object.Object.{Object}
use Rattle.tc_changes.proofs.Lookups.{found-push}
use Rattle.tc_changes.proofs.Equal.{key_sym}

put_step : (f : ℕ → Option KernelThing) (b c : Bool) (i : ℕ) (x : KernelThing) (o : Option ℕ) (g : Option KernelThing) → b ≡ c → f i ≡ Some x
    → option_and_then f o ≡ g
    → option_and_then f (cond b (Some i) o) ≡ cond c (Some x) g
put_step f true true i x o g same here there = here
put_step f true false i x o g same here there = absurd (cc same)
put_step f false true i x o g same here there = absurd (cc same)
put_step f false false i x o g same here there = there

-- one more object in a map of places
pub index_more : {S : Type 0} (all : List KernelThing) (m n : HashMap Key ℕ S) (some : List KernelThing) (x : KernelThing) (i : ℕ)
    → hash.Updates same_key m n x.key (Some i)
    → slice_get all i ≡ Some x → IsIndexOf all m some → IsIndexOf all n (some ++ x ∷ [])
index_more all m n some x i put here is k =
    ap (option_and_then (slice_get all)) (put.0 k)
    ∙ put_step (slice_get all) (same_key x.key k) (same_key k x.key) i x (hash.get same_key m k) (found same_key some k) (key_sym x.key k) here (is k)
    ∙ sym (found-push same_key some x k)

-- the object at a place
pub thing_at : {A : Type 0} (objects : List (Object A)) (i : ℕ) (x : Object A) → i < length objects → x ≡ get_or objects i x
    → slice_get (things objects) i ≡ Some (thing x)
thing_at objects i x within is =
    slice_get-map thing objects i ∙ ap (option_map thing) (slice_get-get_or objects i x within ∙ ap Some (sym is))

set_step : (b c d : Bool) → b ≡ c → cond b true d ≡ (c || d)
set_step true true d same = refl
set_step true false d same = absurd (cc same)
set_step false true d same = absurd (cc same)
set_step false false d same = refl

-- one more key in a set
pub set_more : {S : Type 0} (m n : HashSet Key S) (some : List Key) (x : Key) → bag.Updates same_key m n x true → IsSetOf m some → IsSetOf n (x ∷ some)
set_more m n some x put is k =
    put.0 k ∙ ap (λ d. cond (same_key x k) true d) (is k) ∙ set_step (same_key x k) (same_key k x) (among same_key some k) (key_sym x k)

-- tests that agree
pub same_any : {X : Type 0} (p q : X → Bool) → ((x : X) → p x ≡ q x) → (xs : List X) → list_any p xs ≡ list_any q xs
same_any p q same [] = refl
same_any p q same (x ∷ xs) = ap (λ b. b || list_any p xs) (same x) ∙ ap (λ b. q x || b) (same_any p q same xs)

-- what is needed of a set
pub needs_of : {S : Type 0} (set : HashSet Key S) (some : List Key) (o : KernelThing) → IsSetOf set some
    → (list_any (λ key. bag.contains same_key set key) o.under || list_any (λ key. bag.contains same_key set key) o.refers)
    ≡ list_any (among same_key some) (needs o)
needs_of set some o is =
    ap (λ b. b || list_any (λ key. bag.contains same_key set key) o.refers) (same_any _ _ is o.under)
    ∙ ap (λ b. list_any (among same_key some) o.under || b) (same_any _ _ is o.refers)
    ∙ sym (list_any-append (among same_key some) o.under o.refers)
