-- Which types of a table nest lists.
use Rattle.std.proofs.Common.{◌≡◌, ◌⊎◌, ℕ, ◌<◌, ◌≤◌, List, Option, Some, None, Bool, true, false, refl, ap, ◌∙◌, arith, inl, inr}
use Rattle.std.proofs.lemmas.Bool.{cases_lt, le-leb, lt-leb}
use Rattle.std.specs.Prelude.{◌==◌, ◌&&◌, ◌||◌, is_some, option_map, if◌then◌else◌}
use Rattle.std.specs.Str.{bytes_eq}
use Rattle.tc_canon.specs.Descriptor.{Class, raw, list_of, own_list, Table, table, by_kind, Rows, others, types, unread, options}
use Rattle.tc_canon.specs.Descriptor.{Kinds, unknown, kind, is_known, is_within}
use Rattle.tc_canon.specs.Tables.Flower.{flower_options}
use Rattle.tc_index.specs.declared.table.Table.{Table as ListedTable}
use Rattle.tc_index.specs.declared.table.Table.TheVariants as the
use Rattle.tc_index.specs.Tables.{rows_in, table_of}
use Rattle.tc_index.specs.Nesting.{class_at, class_in, inner_table, list_in, known_table}

-- ---- types that nest no list

abbrev pub is_list : Class → Bool
is_list (list_of t) = true
is_list (own_list rows) = true
is_list _ = false

-- these rows may nest a list in this type
abbrev pub may_hold : Rows → ℕ → Bool
may_hold others n = false
may_hold (types first last flags class rows) n = (is_list class && is_within first last n) || may_hold rows n
may_hold (unread m class rows) n = may_hold rows n
may_hold (options m kinds rows) n = n == m || may_hold rows n

no-list-class : (class : Class) (k value : List ℕ) → is_list class ≡ false → list_in class k value ≡ None
no-list-class (list_of t) k value not = absurd cc
no-list-class (own_list rows) k value not = absurd cc
no-list-class _ k value not = refl

pub no_list : (rows : Rows) (n : ℕ) (k value : List ℕ) → may_hold rows n ≡ false → list_in (class_at rows n k) k value ≡ None
no_list others n k value not = refl
no_list (types first last flags class rows) n k value not = go (is_list class) refl (is_within first last n) not (no_list rows n k value)
  where
    go : (l : Bool) → is_list class ≡ l → (w : Bool) → ((l && w) || may_hold rows n) ≡ false
        → (may_hold rows n ≡ false → list_in (class_at rows n k) k value ≡ None) → list_in (if w then class else class_at rows n k) k value ≡ None
    go true is true not rest = absurd cc
    go true is false not rest = rest not
    go false is true not rest = no-list-class class k value is
    go false is false not rest = rest not
no_list (unread m class rows) n k value not = go (n == m) (no_list rows n k value not)
  where
    go : (b : Bool) → list_in (class_at rows n k) k value ≡ None → list_in (if b then raw else class_at rows n k) k value ≡ None
    go true rest = refl
    go false rest = rest
no_list (options m kinds rows) n k value not = go (n == m) not (no_list rows n k value)
  where
    go : (b : Bool) → (b || may_hold rows n) ≡ false → (may_hold rows n ≡ false → list_in (class_at rows n k) k value ≡ None)
        → list_in (if b then (if is_known kinds k then list_of (by_kind kinds) else raw) else class_at rows n k) k value ≡ None
    go true not rest = absurd cc
    go false not rest = rest not

-- a type that differs from a row's
pub not_within : (m n : ℕ) → (n ≡ m → ⊥) → is_within m m n ≡ false
not_within m n other = go (cases_lt n m)
  where
    go : (n < m) ⊎ (m ≤ n) → is_within m m n ≡ false
    go (inl below) = rw (lt-leb m n below) refl
    go (inr above) = rw (le-leb m n above, lt-leb n m (omega (arith, other))) refl

-- flower nests two lists: actions and MPLS labels
pub flower_no_list : (n : ℕ) (k value : List ℕ) → (n ≡ 3 → ⊥) → (n ≡ 99 → ⊥) → list_in (class_at flower_options n k) k value ≡ None
flower_no_list n k value actions mpls = no_list flower_options n k value (rw (not_within 3 n actions, not_within 99 n mpls) refl)

-- a table other than a list of actions is defined by its rows
pub class-in : (t : ListedTable) (n : ℕ) (k : List ℕ) → (t ≡ the.Actions → ⊥) → class_in (table_of t) n k ≡ class_at (rows_in t) n k
class-in the.Actions n k other = absurd (other refl)
class-in _ n k other = refl

-- ---- kinds

-- a kind is known if it has a table
is_known-is : (kinds : Kinds) (k : List ℕ) → is_known kinds k ≡ is_some (known_table kinds k)
is_known-is unknown k = refl
is_known-is (kind name rows kinds) k = go (is_known-is kinds k) (bytes_eq k name)
  where
    go : is_known kinds k ≡ is_some (known_table kinds k) → (b : Bool)
        → (if b then true else is_known kinds k) ≡ is_some (if b then Some (table rows) else known_table kinds k)
    go rest true = refl
    go rest false = rest

-- options under a known kind
known_list : (kinds : Kinds) (k : List ℕ) → known_table kinds k ≡ inner_table (if is_known kinds k then list_of (by_kind kinds) else raw) k
known_list kinds k = rw is_known-is (go (known_table kinds k) refl)
  where
    go : (o : Option Table) → known_table kinds k ≡ o → o ≡ inner_table (if is_some o then list_of (by_kind kinds) else raw) k
    go None is = refl
    go (Some t) is = rw is refl

-- a message's options keep the kind
abbrev pub with_kind : List ℕ → Table → Table × List ℕ
with_kind k t = (t, k)

pub options_list : (kinds : Kinds) (k value : List ℕ)
    → option_map (with_kind k) (known_table kinds k) ≡ list_in (if is_known kinds k then list_of (by_kind kinds) else raw) k value
options_list kinds k value = ap (option_map (with_kind k)) (known_list kinds k) ∙ same (is_known kinds k)
  where
    same : (b : Bool) → option_map (with_kind k) (inner_table (if b then list_of (by_kind kinds) else raw) k)
        ≡ list_in (if b then list_of (by_kind kinds) else raw) k value
    same true = refl
    same false = refl
