-- The effect of one rewrite and of all rewrites on a value: one NUL less at the end of each warning, and none.
use Rattle.std.proofs.Common.{◌≡◌, ◌⊎◌, ℕ, ◌-◌, ◌%◌, ◌^◌, ◌<◌, ◌≤◌, Bool, true, false, List, [], ◌∷◌, ◌++◌, map, cond, eqb, refl, sym, ap, ap₂, ◌∙◌, arith, inl}
use Rattle.std.proofs.Common.{inr, pow_pos, mod-eq_of_lt}
use Rattle.std.specs.List.{flat_map, AllByRecursion}
use Rattle.std.specs.Str.{bytes_eq}
use Rattle.nla_frames.specs.Value.{ends_in_nul, strip}
use Rattle.tc_canon.specs.Descriptor.{Class, le, be, masked, array, raw, text, warning, presence, truth, fields, selector, pair, xstats, list_of, own_list}
use Rattle.tc_canon.specs.Descriptor.{Table, table, every, by_kind, Rows, others, types, unread, options, Kinds, unknown, kind, is_within}
use Rattle.tc_meaning.specs.Tree.{Content, number, is_bytes, Attribute, known, kept, other, of_kind}
use Rattle.tc_meaning.specs.Content.{a_number, some_bytes}
use Rattle.tc_meaning.specs.Meaning.{a_list}
use Rattle.tc_meaning.specs.Message.{Message}
use Rattle.tc_laws.specs.Loose.{Part, masked_number, warning_text, parts_in_known, parts_in_kind, class_parts, table_parts, rows_parts, kinds_parts}
use Rattle.tc_laws.specs.Loose.{message_parts, without_nuls, trailing_nuls, part_nuls, greater}
use Rattle.tc_laws.specs.Norm.{on, in_known, in_kind, trimmed_class, trimmed_table, trimmed_rows, trimmed_kinds, norm, next}
use Rattle.tc_meaning.proofs.Trees.{attributes_again}
use Rattle.tc_laws.proofs.MostNuls.{greater-cases, greater-nothing, most, most-append}
use Rattle.tc_laws.proofs.TrailingNuls.{without-strip, without-none, none-ends, ends-none, trailing-strip}
use Rattle.tc_meaning.proofs.Texts.{strip-none}

-- ---- numbers

-- both one less
greater-one_less : (m n : ℕ) → greater (m - 1) (n - 1) ≡ greater m n - 1
greater-one_less m n = go (greater-cases m n) (greater-cases (m - 1) (n - 1))
  where
    go : ((m < n) × (greater m n ≡ n)) ⊎ ((n ≤ m) × (greater m n ≡ m))
        → ((m - 1 < n - 1) × (greater (m - 1) (n - 1) ≡ n - 1)) ⊎ ((n - 1 ≤ m - 1) × (greater (m - 1) (n - 1) ≡ m - 1))
        → greater (m - 1) (n - 1) ≡ greater m n - 1
    go (inl a) (inl b) = omega (arith, a.0, a.1, b.0, b.1)
    go (inl a) (inr b) = omega (arith, a.0, a.1, b.0, b.1)
    go (inr a) (inl b) = omega (arith, a.0, a.1, b.0, b.1)
    go (inr a) (inr b) = omega (arith, a.0, a.1, b.0, b.1)

pub mask-again : (bits x : ℕ) → (x % 2 ^ bits) % 2 ^ bits ≡ x % 2 ^ bits
mask-again bits x = let p : 0 < 2 ^ bits = pow_pos bits in let below : x % 2 ^ bits < 2 ^ bits = omega arith in mod-eq_of_lt below

-- ---- parts

-- no NUL is taken off when it is written and read
abbrev pub IsWhole : Part → Type 0
IsWhole (masked_number bits x) = Unit {0}
IsWhole (warning_text t) = ends_in_nul t ≡ false

-- no NUL is left exactly when each is whole
pub most-whole : (ps : List Part) → most ps ≡ 0 → AllByRecursion IsWhole ps
most-whole [] e = tt
most-whole (p ∷ ps) e = go (λ h. most-whole ps h) (greater-cases (part_nuls p) (most ps))
  where
    one : (q : Part) → part_nuls q ≡ 0 → IsWhole q
    one (masked_number bits x) h = tt
    one (warning_text t) h = ends-none t h

    go : (most ps ≡ 0 → AllByRecursion IsWhole ps)
        → ((part_nuls p < most ps) × (greater (part_nuls p) (most ps) ≡ most ps)) ⊎ ((most ps ≤ part_nuls p) × (greater (part_nuls p) (most ps) ≡ part_nuls p))
        → AllByRecursion IsWhole (p ∷ ps)
    go rest (inl a) = absurd (omega (arith, a.0, a.1, e))
    go rest (inr a) = (one p (omega (arith, a.1, e)), rest (omega (arith, a.0, a.1, e)))

pub whole-most : (ps : List Part) → AllByRecursion IsWhole ps → most ps ≡ 0
whole-most [] all = refl
whole-most (p ∷ ps) all = rw (whole-most ps all.1) (greater-nothing (part_nuls p) ∙ one p all.0)
  where
    one : (q : Part) → IsWhole q → part_nuls q ≡ 0
    one (masked_number bits x) h = refl
    one (warning_text t) h = none-ends t h

-- a property of all elements of two lists
pub all-append : {X : Type 0} (P : X → Type 0) (xs ys : List X) → AllByRecursion P (xs ++ ys) → AllByRecursion P xs × AllByRecursion P ys
all-append P [] ys all = (tt, all)
all-append P (x ∷ xs) ys all = let others = all-append P xs ys all.1 in ((all.0, others.0), others.1)

pub append-all : {X : Type 0} (P : X → Type 0) (xs ys : List X) → AllByRecursion P xs → AllByRecursion P ys → AllByRecursion P (xs ++ ys)
append-all P [] ys a b = b
append-all P (x ∷ xs) ys a b = (a.0, append-all P xs ys a.1 b)

-- ---- the laws

-- one NUL taken off, and all
pub record TrimLaws {X : Type 0} (one all : X → X) (parts : X → List Part) : Type 0 where
  -- the same where no text has more than that
  pub once : (x : X) → AllByRecursion IsWhole (parts x) → one x ≡ all x
  -- one after the other
  pub twice : (x : X) → all (one x) ≡ all x
  -- each has one less
  pub left : (x : X) → most (parts (one x)) ≡ most (parts x) - 1

-- what has no such part stays
same_trim : TrimLaws {X = Content} (λ x. x) (λ x. x) (λ x. [])
same_trim = record { once = λ x w. refl; twice = λ x. refl; left = λ x. refl }

masked_trim : (bits : ℕ) → TrimLaws (on a_number (λ x. x % 2 ^ bits)) (on a_number (λ x. x % 2 ^ bits)) (λ x. masked_number bits (a_number.out x) ∷ [])
masked_trim bits = record { once = λ x w. refl; twice = λ x. ap number (mask-again bits (a_number.out x)); left = λ x. refl }

warning_trim : TrimLaws (on some_bytes strip) (on some_bytes without_nuls) (λ x. warning_text (some_bytes.out x) ∷ [])
warning_trim = record {
  once = λ x w. ap is_bytes (strip-none (some_bytes.out x) w.0 ∙ sym (without-none (some_bytes.out x) w.0));
  twice = λ x. ap is_bytes (without-strip (some_bytes.out x));
  left = λ x. let t = some_bytes.out x in
      greater-nothing (trailing_nuls (strip t)) ∙ trailing-strip t ∙ ap (λ (n : ℕ). n - 1) (sym (greater-nothing (trailing_nuls t)));
}

-- each of a list
each_trim : {X : Type 0} (one all : X → X) (parts : X → List Part) → TrimLaws one all parts → TrimLaws (map one) (map all) (flat_map parts)
each_trim {X = X} one all parts laws = record { once = once_each; twice = twice_each; left = left_each }
  where
    once_each : (xs : List X) → AllByRecursion IsWhole (flat_map parts xs) → map one xs ≡ map all xs
    once_each [] w = refl
    once_each (x ∷ xs) w =
        let h = all-append IsWhole (parts x) (flat_map parts xs) w in
        ap₂ (λ (y : X) (ys : List X). y ∷ ys) (laws.once x h.0) (once_each xs h.1)

    twice_each : (xs : List X) → map all (map one xs) ≡ map all xs
    twice_each [] = refl
    twice_each (x ∷ xs) = ap₂ (λ (y : X) (ys : List X). y ∷ ys) (laws.twice x) (twice_each xs)

    left_each : (xs : List X) → most (flat_map parts (map one xs)) ≡ most (flat_map parts xs) - 1
    left_each [] = refl
    left_each (x ∷ xs) =
        most-append (parts (one x)) (flat_map parts (map one xs))
        ∙ ap₂ greater (laws.left x) (left_each xs)
        ∙ greater-one_less (most (parts x)) (most (flat_map parts xs))
        ∙ ap (λ (n : ℕ). n - 1) (sym (most-append (parts x) (flat_map parts xs)))

-- a list as a content
items_trim : (one all : Attribute → Attribute) (parts : Attribute → List Part) → TrimLaws one all parts
    → TrimLaws (on a_list (map one)) (on a_list (map all)) (λ x. flat_map parts (a_list.out x))
items_trim one all parts laws =
    let each = each_trim one all parts laws in
    record {
      once = λ x w. ap a_list.into (each.once (a_list.out x) w);
      twice = λ x. ap (λ (xs : List Attribute). a_list.into (map all xs)) (attributes_again (map one (a_list.out x)))
          ∙ ap a_list.into (each.twice (a_list.out x));
      left = λ x. ap (λ (xs : List Attribute). most (flat_map parts xs)) (attributes_again (map one (a_list.out x))) ∙ each.left (a_list.out x);
    }

-- one of two
pick_trim : {X : Type 0} (b : Bool) (one all one' all' : X → X) (parts parts' : X → List Part) → TrimLaws one all parts → TrimLaws one' all' parts'
    → TrimLaws (λ x. cond b (one x) (one' x)) (λ x. cond b (all x) (all' x)) (λ x. cond b (parts x) (parts' x))
pick_trim true one all one' all' parts parts' this that = this
pick_trim false one all one' all' parts parts' this that = that

known_trim : (one all : ℕ → Content → Content) (parts : ℕ → Content → List Part) → ((n : ℕ) → TrimLaws (one n) (all n) (parts n))
    → TrimLaws (in_known one) (in_known all) (parts_in_known parts)
known_trim one all parts laws = record { once = once_known; twice = twice_known; left = left_known }
  where
    once_known : (x : Attribute) → AllByRecursion IsWhole (parts_in_known parts x) → in_known one x ≡ in_known all x
    once_known (known n content) w = ap (known n) ((laws n).once content w)
    once_known (kept n word value) w = refl
    once_known (other word value) w = refl
    once_known (of_kind name x) w = refl

    twice_known : (x : Attribute) → in_known all (in_known one x) ≡ in_known all x
    twice_known (known n content) = ap (known n) ((laws n).twice content)
    twice_known (kept n word value) = refl
    twice_known (other word value) = refl
    twice_known (of_kind name x) = refl

    left_known : (x : Attribute) → most (parts_in_known parts (in_known one x)) ≡ most (parts_in_known parts x) - 1
    left_known (known n content) = (laws n).left content
    left_known (kept n word value) = refl
    left_known (other word value) = refl
    left_known (of_kind name x) = refl

kind_trim : (one all : List ℕ → Attribute → Attribute) (parts : List ℕ → Attribute → List Part)
    → ((name : List ℕ) → TrimLaws (one name) (all name) (parts name))
    → TrimLaws (in_kind one) (in_kind all) (parts_in_kind parts)
kind_trim one all parts laws = record { once = once_kind; twice = twice_kind; left = left_kind }
  where
    once_kind : (x : Attribute) → AllByRecursion IsWhole (parts_in_kind parts x) → in_kind one x ≡ in_kind all x
    once_kind (of_kind name x) w = ap (of_kind name) ((laws name).once x w)
    once_kind (known n content) w = refl
    once_kind (kept n word value) w = refl
    once_kind (other word value) w = refl

    twice_kind : (x : Attribute) → in_kind all (in_kind one x) ≡ in_kind all x
    twice_kind (of_kind name x) = ap (of_kind name) ((laws name).twice x)
    twice_kind (known n content) = refl
    twice_kind (kept n word value) = refl
    twice_kind (other word value) = refl

    left_kind : (x : Attribute) → most (parts_in_kind parts (in_kind one x)) ≡ most (parts_in_kind parts x) - 1
    left_kind (of_kind name x) = (laws name).left x
    left_kind (known n content) = refl
    left_kind (kept n word value) = refl
    left_kind (other word value) = refl

mutual
  class_trims : (c : Class) → TrimLaws (trimmed_class strip c) (trimmed_class without_nuls c) (class_parts c)
  class_trims (le n) = same_trim
  class_trims (be n) = same_trim
  class_trims (masked n bits) = masked_trim bits
  class_trims (array n) = same_trim
  class_trims raw = same_trim
  class_trims text = same_trim
  class_trims warning = warning_trim
  class_trims presence = same_trim
  class_trims truth = same_trim
  class_trims (fields layout) = same_trim
  class_trims selector = same_trim
  class_trims pair = same_trim
  class_trims xstats = same_trim
  class_trims (list_of t) = items_trim (trimmed_table strip t) (trimmed_table without_nuls t) (table_parts t) (table_trims t)
  class_trims (own_list rows) =
      items_trim (in_known (trimmed_rows strip rows)) (in_known (trimmed_rows without_nuls rows)) (parts_in_known (rows_parts rows))
      (known_trim (trimmed_rows strip rows) (trimmed_rows without_nuls rows) (rows_parts rows) (λ n. rows_trims rows n))

  pub table_trims : (t : Table) → TrimLaws (trimmed_table strip t) (trimmed_table without_nuls t) (table_parts t)
  table_trims (table rows) = known_trim (trimmed_rows strip rows) (trimmed_rows without_nuls rows) (rows_parts rows) (λ n. rows_trims rows n)
  table_trims (every class) = known_trim (λ n. trimmed_class strip class) (λ n. trimmed_class without_nuls class) (λ n. class_parts class)
      (λ n. class_trims class)
  table_trims (by_kind kinds) = kind_trim (trimmed_kinds strip kinds) (trimmed_kinds without_nuls kinds) (kinds_parts kinds) (λ name. kinds_trims kinds name)

  rows_trims : (rows : Rows) (n : ℕ) → TrimLaws (trimmed_rows strip rows n) (trimmed_rows without_nuls rows n) (rows_parts rows n)
  rows_trims others n = same_trim
  rows_trims (types first last flags class rows) n =
      pick_trim (is_within first last n) (trimmed_class strip class) (trimmed_class without_nuls class) (trimmed_rows strip rows n)
      (trimmed_rows without_nuls rows n) (class_parts class) (rows_parts rows n) (class_trims class) (rows_trims rows n)
  rows_trims (unread m class rows) n =
      pick_trim (eqb n m) (trimmed_class strip class) (trimmed_class without_nuls class) (trimmed_rows strip rows n) (trimmed_rows without_nuls rows n)
      (class_parts class) (rows_parts rows n) (class_trims class) (rows_trims rows n)
  rows_trims (options m kinds rows) n =
      pick_trim (eqb n m) (on a_list (map (in_kind (trimmed_kinds strip kinds)))) (on a_list (map (in_kind (trimmed_kinds without_nuls kinds))))
      (trimmed_rows strip rows n) (trimmed_rows without_nuls rows n)
      (λ x. flat_map (parts_in_kind (kinds_parts kinds)) (a_list.out x)) (rows_parts rows n)
      (items_trim (in_kind (trimmed_kinds strip kinds)) (in_kind (trimmed_kinds without_nuls kinds)) (parts_in_kind (kinds_parts kinds))
      (kind_trim (trimmed_kinds strip kinds) (trimmed_kinds without_nuls kinds) (kinds_parts kinds) (λ name. kinds_trims kinds name)))
      (rows_trims rows n)

  kinds_trims : (kinds : Kinds) (name : List ℕ) → TrimLaws (trimmed_kinds strip kinds name) (trimmed_kinds without_nuls kinds name) (kinds_parts kinds name)
  kinds_trims unknown name = record { once = λ x w. refl; twice = λ x. refl; left = λ x. refl }
  kinds_trims (kind own rows kinds) name =
      pick_trim (bytes_eq name own) (in_known (trimmed_rows strip rows)) (in_known (trimmed_rows without_nuls rows)) (trimmed_kinds strip kinds name)
      (trimmed_kinds without_nuls kinds name) (parts_in_known (rows_parts rows)) (kinds_parts kinds name)
      (known_trim (trimmed_rows strip rows) (trimmed_rows without_nuls rows) (rows_parts rows) (λ n. rows_trims rows n)) (kinds_trims kinds name)

-- ---- of a message

module _ (rows : Rows) where
  body_trims : TrimLaws (map (trimmed_table strip (table rows))) (map (trimmed_table without_nuls (table rows))) (flat_map (table_parts (table rows)))
  body_trims = each_trim (trimmed_table strip (table rows)) (trimmed_table without_nuls (table rows)) (table_parts (table rows)) (table_trims (table rows))

  message_of : Message → List Attribute → Message
  message_of m body = record { header = m.header; body = body }

  pub message_trims : TrimLaws (next rows) (norm rows) (message_parts rows)
  unfolding message_of
  message_trims = record {
    once = λ m w. ap (message_of m) (body_trims.once m.body w);
    twice = λ m. ap (message_of m) (body_trims.twice m.body);
    left = λ m. body_trims.left m.body;
  }
