-- `==` as a test of whether two abstract values are equal, for fields, attributes and messages.
use Rattle.std.proofs.Common.{◌≡◌, ◌↔◌, ◌&&◌, ℕ, Bool, true, false, IsTrue, List, [], ◌∷◌, map, nat_eq, refl, ap, subst}
use Rattle.std.specs.Bool.{Decides}
use Rattle.std.specs.Ordering.{on}
use Rattle.std.specs.Cmp.{IsEquivalence, IsPartialEquivalence, partial_equiv_from_equiv, decided, on_equiv, unsigned_Decides, booleans_Decides, first_so}
use Rattle.std.specs.Cmp.{second_so}
use Rattle.std.specs.Bool.{beq}
use Rattle.std.specs.Cmp.Lexicographic.{pointwise, pointwise_decides, bytes_decides}
use Rattle.tc_meaning.specs.Content.{Selector}
use Rattle.tc_meaning.specs.Message.{Message}
use Rattle.tc_meaning.specs.Tree.{Scalar, plain, unnamed, octets_of, blank, Content, number, is_bytes, flag, record_of, keyed, statistics, unknown_statistics}
use Rattle.tc_meaning.specs.Tree.{items, Attribute, known, kept, other, of_kind, Attributes, none, and, attributes_of}

-- `==` of two values is true if and only if their abstract values are equal
abbrev pub IsEqualityOf : {T X : Type 0} → (T → T → Bool) → (T → X) → Type 0
IsEqualityOf {T} eq see = (a b : T) → IsTrue (eq a b) ↔ see a ≡ see b

-- fields are equal
abbrev pub same_scalar : Scalar → Scalar → Bool
same_scalar (plain m) (plain n) = nat_eq m n
same_scalar (unnamed m) (unnamed n) = nat_eq m n
same_scalar (octets_of xs) (octets_of ys) = pointwise nat_eq xs ys
same_scalar blank blank = true
same_scalar x y = false

abbrev pub same_scalars : List Scalar → List Scalar → Bool
same_scalars = pointwise same_scalar

-- the number and the bytes of a field
abbrev number_in : Scalar → ℕ
number_in (plain n) = n
number_in (unnamed n) = n
number_in x = 0

abbrev bytes_in : Scalar → List ℕ
bytes_in (octets_of xs) = xs
bytes_in x = []

pub scalar_decides : (x y : Scalar) → Decides (same_scalar x y) (x ≡ y)
scalar_decides (plain m) (plain n) = let d = unsigned_Decides m n in (λ e. ap plain (d.0 e), λ e. d.1 (ap number_in e))
scalar_decides (unnamed m) (unnamed n) = let d = unsigned_Decides m n in (λ e. ap unnamed (d.0 e), λ e. d.1 (ap number_in e))
scalar_decides (octets_of xs) (octets_of ys) = let d = bytes_decides xs ys in (λ e. ap octets_of (d.0 e), λ e. d.1 (ap bytes_in e))
scalar_decides blank blank = (λ _. refl, λ _. refl)
scalar_decides x y = (λ e. absurd (cc e), λ e. absurd (cc e))

pub scalars_decide : (xs ys : List Scalar) → Decides (same_scalars xs ys) (xs ≡ ys)
scalars_decide = pointwise_decides scalar_decides

-- selectors are equal
abbrev pub same_selector : Selector → Selector → Bool
same_selector s t = same_scalars s.head t.head && pointwise same_scalars s.keys t.keys

abbrev mutual
  -- the contents of two attributes are equal
  pub same_content : Content → Content → Bool
  same_content (number m) (number n) = nat_eq m n
  same_content (is_bytes v) (is_bytes w) = pointwise nat_eq v w
  same_content (flag a) (flag b) = beq a b
  same_content (record_of xs) (record_of ys) = same_scalars xs ys
  same_content (keyed xs keys) (keyed ys others) = same_scalars xs ys && pointwise same_scalars keys others
  same_content (statistics m xs) (statistics n ys) = nat_eq m n && same_scalars xs ys
  same_content (unknown_statistics v) (unknown_statistics w) = pointwise nat_eq v w
  same_content (items xs) (items ys) = same_attributes xs ys
  same_content x y = false

  -- attributes are equal
  pub same_attribute : Attribute → Attribute → Bool
  same_attribute (known m x) (known n y) = nat_eq m n && same_content x y
  same_attribute (kept m w v) (kept n x y) = nat_eq m n && (nat_eq w x && pointwise nat_eq v y)
  same_attribute (other w v) (other x y) = nat_eq w x && pointwise nat_eq v y
  same_attribute (of_kind name x) (of_kind another y) = pointwise nat_eq name another && same_attribute x y
  same_attribute x y = false

  pub same_attributes : Attributes → Attributes → Bool
  same_attributes none none = true
  same_attributes (and x xs) (and y ys) = same_attribute x y && same_attributes xs ys
  same_attributes xs ys = false

-- both are true
parts : {A B : Type 0} {s t : Bool} → (s ≡ true → A) → (t ≡ true → B) → (s && t) ≡ true → A × B
parts {s = s} {t = t} first second e = (first (first_so s t e), second (second_so s t e))

pub selector_decides : (s t : Selector) → Decides (same_selector s t) (s ≡ t)
selector_decides s t = let heads = scalars_decide s.head t.head in let keys = pointwise_decides scalars_decide s.keys t.keys in (
  λ e. let p = parts heads.0 keys.0 e in λ i. record { head = p.0 i; keys = p.1 i },
  λ e i. heads.1 (ap (λ (r : Selector). r.head) e) i && keys.1 (ap (λ (r : Selector). r.keys) e) i,
)

-- messages are equal
abbrev pub same_message : Message → Message → Bool
same_message m n = same_scalars m.header n.header && pointwise same_attribute m.body n.body

-- attributes that pass the test are equal
mutual
  one_content : (x y : Content) → same_content x y ≡ true → x ≡ y
  one_content (number m) (number n) e = ap number ((unsigned_Decides m n).0 e)
  one_content (is_bytes v) (is_bytes w) e = ap is_bytes ((bytes_decides v w).0 e)
  one_content (flag a) (flag b) e = ap flag ((booleans_Decides a b).0 e)
  one_content (record_of xs) (record_of ys) e = ap record_of ((scalars_decide xs ys).0 e)
  one_content (keyed xs keys) (keyed ys others) e =
      let p = parts (scalars_decide xs ys).0 (pointwise_decides scalars_decide keys others).0 e in
      λ i. keyed (p.0 i) (p.1 i)
  one_content (statistics m xs) (statistics n ys) e =
      let p = parts (unsigned_Decides m n).0 (scalars_decide xs ys).0 e in
      λ i. statistics (p.0 i) (p.1 i)
  one_content (unknown_statistics v) (unknown_statistics w) e = ap unknown_statistics ((bytes_decides v w).0 e)
  one_content (items xs) (items ys) e = ap items (one_list xs ys e)
  one_content x y e = absurd (cc e)

  one_attribute : (x y : Attribute) → same_attribute x y ≡ true → x ≡ y
  one_attribute (known m x) (known n y) e =
      let p = parts (unsigned_Decides m n).0 (one_content x y) e in
      λ i. known (p.0 i) (p.1 i)
  one_attribute (kept m w v) (kept n x y) e =
      let p = parts (unsigned_Decides m n).0 (parts (unsigned_Decides w x).0 (bytes_decides v y).0) e in
      λ i. kept (p.0 i) (p.1.0 i) (p.1.1 i)
  one_attribute (other w v) (other x y) e =
      let p = parts (unsigned_Decides w x).0 (bytes_decides v y).0 e in
      λ i. other (p.0 i) (p.1 i)
  one_attribute (of_kind name x) (of_kind another y) e =
      let p = parts (bytes_decides name another).0 (one_attribute x y) e in
      λ i. of_kind (p.0 i) (p.1 i)
  one_attribute x y e = absurd (cc e)

  one_list : (xs ys : Attributes) → same_attributes xs ys ≡ true → xs ≡ ys
  one_list none none e = refl
  one_list (and x xs) (and y ys) e =
      let p = parts (one_attribute x y) (one_list xs ys) e in
      λ i. and (p.0 i) (p.1 i)
  one_list xs ys e = absurd (cc e)

-- every attribute passes the test with itself
mutual
  same_content_itself : (x : Content) → same_content x x ≡ true
  same_content_itself (number n) = (unsigned_Decides n n).1 refl
  same_content_itself (is_bytes v) = (bytes_decides v v).1 refl
  same_content_itself (flag b) = (booleans_Decides b b).1 refl
  same_content_itself (record_of xs) = (scalars_decide xs xs).1 refl
  same_content_itself (keyed xs keys) = λ i. (scalars_decide xs xs).1 refl i && (pointwise_decides scalars_decide keys keys).1 refl i
  same_content_itself (statistics n xs) = λ i. (unsigned_Decides n n).1 refl i && (scalars_decide xs xs).1 refl i
  same_content_itself (unknown_statistics v) = (bytes_decides v v).1 refl
  same_content_itself (items xs) = same_list_itself xs

  same_itself : (x : Attribute) → same_attribute x x ≡ true
  same_itself (known n x) = λ i. (unsigned_Decides n n).1 refl i && same_content_itself x i
  same_itself (kept n w v) = λ i. (unsigned_Decides n n).1 refl i && ((unsigned_Decides w w).1 refl i && (bytes_decides v v).1 refl i)
  same_itself (other w v) = λ i. (unsigned_Decides w w).1 refl i && (bytes_decides v v).1 refl i
  same_itself (of_kind name x) = λ i. (bytes_decides name name).1 refl i && same_itself x i

  same_list_itself : (xs : Attributes) → same_attributes xs xs ≡ true
  same_list_itself none = refl
  same_list_itself (and x xs) = λ i. same_itself x i && same_list_itself xs i

pub attribute_decides : (x y : Attribute) → Decides (same_attribute x y) (x ≡ y)
attribute_decides x y = (one_attribute x y, λ e. subst (λ z. same_attribute x z ≡ true) e (same_itself x))

pub content_decides : (x y : Content) → Decides (same_content x y) (x ≡ y)
content_decides x y = (one_content x y, λ e. subst (λ z. same_content x z ≡ true) e (same_content_itself x))

-- lists of attributes are compared element by element
pub same_each : {T : Type 0} (see : T → Attribute) (xs ys : List T)
    → pointwise (on see same_attribute) xs ys ≡ same_attributes (attributes_of (map see xs)) (attributes_of (map see ys))
same_each see [] [] = refl
same_each see [] (y ∷ ys) = refl
same_each see (x ∷ xs) [] = refl
same_each see (x ∷ xs) (y ∷ ys) = ap (λ b. same_attribute (see x) (see y) && b) (same_each see xs ys)

pub message_decides : (m n : Message) → Decides (same_message m n) (m ≡ n)
message_decides m n = let headers = scalars_decide m.header n.header in let bodies = pointwise_decides attribute_decides m.body n.body in (
  λ e. let p = parts headers.0 bodies.0 e in λ i. record { header = p.0 i; body = p.1 i },
  λ e i. headers.1 (ap (λ (k : Message). k.header) e) i && bodies.1 (ap (λ (k : Message). k.body) e) i,
)

-- comparing abstract values is an equivalence
module _ {T : Type 0} where
  pub scalar_equiv : (see : T → Scalar) → IsEquivalence (on see same_scalar)
  scalar_equiv see = on_equiv see (decided same_scalar scalar_decides)

  pub scalars_equiv : (see : T → List Scalar) → IsEquivalence (on see same_scalars)
  scalars_equiv see = on_equiv see (decided same_scalars scalars_decide)

  pub attribute_equiv : (see : T → Attribute) → IsEquivalence (on see same_attribute)
  attribute_equiv see = on_equiv see (decided same_attribute attribute_decides)

  pub content_equiv : (see : T → Content) → IsEquivalence (on see same_content)
  content_equiv see = on_equiv see (decided same_content content_decides)

  pub scalar_per : (see : T → Scalar) → IsPartialEquivalence (on see same_scalar)
  scalar_per see = partial_equiv_from_equiv (scalar_equiv see)

  pub scalars_per : (see : T → List Scalar) → IsPartialEquivalence (on see same_scalars)
  scalars_per see = partial_equiv_from_equiv (scalars_equiv see)

  pub selector_equiv : (see : T → Selector) → IsEquivalence (on see same_selector)
  selector_equiv see = on_equiv see (decided same_selector selector_decides)

  pub selector_per : (see : T → Selector) → IsPartialEquivalence (on see same_selector)
  selector_per see = partial_equiv_from_equiv (selector_equiv see)

  pub message_equiv : (see : T → Message) → IsEquivalence (on see same_message)
  message_equiv see = on_equiv see (decided same_message message_decides)

  pub message_per : (see : T → Message) → IsPartialEquivalence (on see same_message)
  message_per see = partial_equiv_from_equiv (message_equiv see)

  pub attribute_per : (see : T → Attribute) → IsPartialEquivalence (on see same_attribute)
  attribute_per see = partial_equiv_from_equiv (attribute_equiv see)

  pub content_per : (see : T → Content) → IsPartialEquivalence (on see same_content)
  content_per see = partial_equiv_from_equiv (content_equiv see)
