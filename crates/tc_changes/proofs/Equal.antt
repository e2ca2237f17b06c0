-- Equal keys, and equal objects.
use Rattle.std.proofs.Common.{◌≡◌, ℕ, Bool, true, ◌&&◌, List, eqb, refl, sym, ap, ◌∙◌}
use Rattle.std.specs.Prelude.{ℤ}
use Rattle.std.specs.Bool.{Decides}
use Rattle.std.specs.Ordering.{int_eq}
use Rattle.std.proofs.lemmas.Bool.Decides.{Decides-eqb, Decides-int_eq}
use Rattle.std.specs.Str.{bytes_eq}
use Rattle.std.specs.Cmp.Lexicographic.{pointwise}
use Rattle.std.proofs.lemmas.Slice.Eq.{slice_eq-Decides, bytes_eq-Decides}
use Rattle.tc_changes.specs.Objects.{same_key, alike, KernelThing}
use Rattle.tc_changes.specs.declared.key.Key.{Key}
use Rattle.tc_changes.specs.declared.key.Key.TheVariants as key
use Rattle.tc_changes.proofs.Lookups.{and_left, and_right, by_cases, differ}

nats : (a b : ℕ) → eqb a b ≡ true → a ≡ b
nats a b is = (Decides-eqb a b).0 is

own : (a : ℕ) → eqb a a ≡ true
own a = (Decides-eqb a a).1 refl

ints : (a b : ℤ) → int_eq a b ≡ true → a ≡ b
ints a b is = (Decides-int_eq a b).0 is

own_int : (a : ℤ) → int_eq a a ≡ true
own_int a = (Decides-int_eq a a).1 refl

both : (a b : Bool) → a ≡ true → b ≡ true → (a && b) ≡ true
both a b one two = ap (λ x. x && b) one ∙ two

-- equal fields one after another
module _ (i j : ℤ) (a b : ℕ) (rest : Bool) (is : (int_eq i j && (eqb a b && rest)) ≡ true) where
  first_index : i ≡ j
  first_index = ints i j (and_left (int_eq i j) _ is)

  second_number : a ≡ b
  second_number = nats a b (and_left (eqb a b) _ (and_right (int_eq i j) _ is))

  third_rest : rest ≡ true
  third_rest = and_right (eqb a b) _ (and_right (int_eq i j) _ is)

pub key_is : (a b : Key) → same_key a b ≡ true → a ≡ b
key_is (key.Place i p) (key.Place j q) is =
    let index = ints i j (and_left (int_eq i j) _ is) in
    let parent = nats p q (and_right (int_eq i j) (eqb p q) is) in
    λ n. key.Place (index n) (parent n)
key_is (key.Class i h) (key.Class j g) is =
    let index = ints i j (and_left (int_eq i j) _ is) in
    let handle = nats h g (and_right (int_eq i j) (eqb h g) is) in
    λ n. key.Class (index n) (handle n)
key_is (key.Block a) (key.Block b) is = ap (λ x. key.Block x) (nats a b is)
key_is (key.Chain i p c) (key.Chain j q d) is =
    let index = first_index i j p q (eqb c d) is in
    let parent = second_number i j p q (eqb c d) is in
    let number = nats c d (third_rest i j p q (eqb c d) is) in
    λ n. key.Chain (index n) (parent n) (number n)
key_is (key.Priority i p c a) (key.Priority j q d b) is =
    let more = third_rest i j p q (eqb c d && eqb a b) is in
    let index = first_index i j p q (eqb c d && eqb a b) is in
    let parent = second_number i j p q (eqb c d && eqb a b) is in
    let number = nats c d (and_left (eqb c d) _ more) in
    let priority = nats a b (and_right (eqb c d) _ more) in
    λ n. key.Priority (index n) (parent n) (number n) (priority n)
key_is (key.Filter i p c a h) (key.Filter j q d b g) is =
    let more = third_rest i j p q (eqb c d && (eqb a b && eqb h g)) is in
    let index = first_index i j p q (eqb c d && (eqb a b && eqb h g)) is in
    let parent = second_number i j p q (eqb c d && (eqb a b && eqb h g)) is in
    let number = nats c d (and_left (eqb c d) _ more) in
    let priority = nats a b (and_left (eqb a b) _ (and_right (eqb c d) _ more)) in
    let handle = nats h g (and_right (eqb a b) _ (and_right (eqb c d) _ more)) in
    λ n. key.Filter (index n) (parent n) (number n) (priority n) (handle n)
key_is (key.Action k i) (key.Action l j) is =
    let kind = (bytes_eq-Decides k l).0 (and_left (bytes_eq k l) _ is) in
    let index = nats i j (and_right (bytes_eq k l) _ is) in
    λ n. key.Action (kind n) (index n)
key_is a b is = absurd (cc is)

pub key_same : (a : Key) → same_key a a ≡ true
key_same (key.Place i p) = both (int_eq i i) (eqb p p) (own_int i) (own p)
key_same (key.Class i h) = both (int_eq i i) (eqb h h) (own_int i) (own h)
key_same (key.Block b) = own b
key_same (key.Chain i p c) = both (int_eq i i) _ (own_int i) (both (eqb p p) _ (own p) (own c))
key_same (key.Priority i p c a) = both (int_eq i i) _ (own_int i) (both (eqb p p) _ (own p) (both (eqb c c) _ (own c) (own a)))
key_same (key.Filter i p c a h) =
    both (int_eq i i) _ (own_int i) (both (eqb p p) _ (own p) (both (eqb c c) _ (own c) (both (eqb a a) _ (own a) (own h))))
key_same (key.Action k i) = both (bytes_eq k k) _ ((bytes_eq-Decides k k).1 refl) (own i)

key_decides : (a b : Key) → Decides (same_key a b) (a ≡ b)
key_decides a b = (key_is a b, λ is. ap (same_key a) (sym is) ∙ key_same a)

keys_decide : (a b : List Key) → Decides (pointwise same_key a b) (a ≡ b)
keys_decide a b = slice_eq-Decides key_decides a b (pointwise same_key a b) refl

pub alike_is : (a b : KernelThing) → alike a b ≡ true → a ≡ b
alike_is a b is =
    let tail = and_right (same_key a.key b.key) _ is in
    let rest = and_right (pointwise same_key a.under b.under) _ tail in
    let key = key_is a.key b.key (and_left _ _ is) in
    let under = (keys_decide a.under b.under).0 (and_left _ _ tail) in
    let refers = (keys_decide a.refers b.refers).0 (and_left _ _ rest) in
    let config = (bytes_eq-Decides a.config b.config).0 (and_right (pointwise same_key a.refers b.refers) _ rest) in
    λ i. record { key = key i; under = under i; refers = refers i; config = config i }

pub alike_same : (a : KernelThing) → alike a a ≡ true
alike_same a =
    both (same_key a.key a.key) _ (key_same a.key)
    (both (pointwise same_key a.under a.under) _ ((keys_decide a.under a.under).1 refl)
    (both (pointwise same_key a.refers a.refers) _ ((keys_decide a.refers a.refers).1 refl) ((bytes_eq-Decides a.config a.config).1 refl)))

pub key_sym : (a b : Key) → same_key a b ≡ same_key b a
key_sym a b = by_cases (same_key a b ≡ same_key b a) (same_key a b)
    (λ here. here ∙ sym (key_same b) ∙ ap (same_key b) (sym (key_is a b here)))
    (λ there. there ∙ sym (differ same_key key_is key_same a b there))
