-- The tables nest at most four deep.
use Rattle.std.proofs.Common.{◌≡◌, ℕ, zero, suc, ◌+◌, ◌<◌, ◌≤◌, List, [], ◌∷◌, Option, Some, None, Ok, Err, refl, ap, arith}
use Rattle.std.specs.Prelude.{Bool, true, false, max, ◌==◌, unwrap_or, if◌then◌else◌, drop}
use Rattle.std.specs.Str.{bytes_eq}
use Rattle.nla_frames.specs.Fault.{Outcome}
use Rattle.nla_frames.specs.Frame.{Frame, type_of, frame_length}
use Rattle.nla_frames.specs.Place.{Sets, kind_then}
use Rattle.nla_frames.specs.Reading.{keep}
use Rattle.nla_frames.specs.Cutting.{cut, items_of}
use Rattle.tc_canon.specs.Descriptor.{Class, raw, list_of, own_list, Table, table, every, by_kind, Rows, others, types, unread, options, Kinds, unknown, kind, is_within, is_known}
use Rattle.tc_index.specs.Nesting.{class_at, class_in, known_table, table_under, list_in}
use Rattle.tc_index.specs.Attributes.{Yields, each, Walk, within, with_inner, attributes_in, to_fault, message_items}

-- how deep the attributes of a table can nest others
abbrev mutual
  pub lists_in : Class → ℕ
  lists_in (list_of t) = suc (lists_of t)
  lists_in (own_list rows) = suc (lists_at rows)
  lists_in _ = 0

  pub lists_of : Table → ℕ
  lists_of (table rows) = lists_at rows
  lists_of (every class) = lists_in class
  lists_of (by_kind kinds) = lists_under kinds

  pub lists_at : Rows → ℕ
  lists_at others = 0
  lists_at (types first last flags class rows) = max (lists_in class) (lists_at rows)
  lists_at (unread m class rows) = lists_at rows
  lists_at (options m kinds rows) = max (suc (lists_under kinds)) (lists_at rows)

  pub lists_under : Kinds → ℕ
  lists_under unknown = 0
  lists_under (kind name rows kinds) = max (lists_at rows) (lists_under kinds)

-- the class of a type is in its rows
class_at-lists : (rows : Rows) (n : ℕ) (k : List ℕ) → lists_in (class_at rows n k) ≤ lists_at rows
class_at-lists others n k = omega arith
class_at-lists (types first last flags class rows) n k = go (is_within first last n) (class_at-lists rows n k)
  where
    go : (b : Bool) → lists_in (class_at rows n k) ≤ lists_at rows → lists_in (if b then class else class_at rows n k) ≤ max (lists_in class) (lists_at rows)
    go true rest = omega arith
    go false rest = omega arith
class_at-lists (unread m class rows) n k = go (n == m) (class_at-lists rows n k)
  where
    go : (b : Bool) → lists_in (class_at rows n k) ≤ lists_at rows → lists_in (if b then raw else class_at rows n k) ≤ lists_at rows
    go true rest = omega arith
    go false rest = rest
class_at-lists (options m kinds rows) n k = go (n == m) (is_known kinds k) (class_at-lists rows n k)
  where
    go : (b c : Bool) → lists_in (class_at rows n k) ≤ lists_at rows
        → lists_in (if b then (if c then list_of (by_kind kinds) else raw) else class_at rows n k) ≤ max (suc (lists_under kinds)) (lists_at rows)
    go true true rest = omega arith
    go true false rest = omega arith
    go false c rest = omega arith

class_in-lists : (t : Table) (n : ℕ) (k : List ℕ) → lists_in (class_in t n k) ≤ lists_of t
class_in-lists (table rows) n k = class_at-lists rows n k
class_in-lists (every class) n k = omega arith
class_in-lists (by_kind kinds) n k = omega arith

-- the table of a kind is among the kinds
known-lists : (kinds : Kinds) (k : List ℕ) (t : Table) (b : ℕ) → lists_of t ≤ b → lists_under kinds ≤ b → lists_of (unwrap_or (known_table kinds k) t) ≤ b
known-lists unknown k t b low high = low
known-lists (kind name rows kinds) k t b low high = go (bytes_eq k name) (known-lists kinds k t b low (omega arith))
  where
    go : (is : Bool) → lists_of (unwrap_or (known_table kinds k) t) ≤ b → lists_of (unwrap_or (if is then Some (table rows) else known_table kinds k) t) ≤ b
    go true rest = omega arith
    go false rest = rest

under-lists : (t : Table) (k : List ℕ) → lists_of (table_under t k) ≤ lists_of t
under-lists (by_kind kinds) k = known-lists kinds k (by_kind kinds) (lists_under kinds) (omega arith) (omega arith)
under-lists (table rows) k = omega arith
under-lists (every class) k = omega arith

-- the list in an attribute nests one level less
list_in-lists : (class : Class) (k value : List ℕ) (list : Table × List ℕ) → list_in class k value ≡ Some list → suc (lists_of list.0) ≤ lists_in class
list_in-lists (list_of t) k value list is =
    let same : table_under t k ≡ list.0 = cc in
    let low : lists_of (table_under t k) ≡ lists_of list.0 = ap lists_of same in
    omega (arith, under-lists t k, low)
list_in-lists (own_list rows) k value list is =
    let same : table rows ≡ list.0 = cc in
    let low : lists_of (table rows) ≡ lists_of list.0 = ap lists_of same in
    omega (arith, low)
list_in-lists _ k value list is = absurd cc

-- lists whose frames yield the same
each-same : (g h : Yields) (sets : Sets Frame) → ((k : List ℕ) (at : ℕ) (f : Frame) → g k at f ≡ h k at f) → (k : List ℕ) (at : ℕ) (items : List (Outcome Frame))
    → each g sets k at items ≡ each h sets k at items
each-same g h sets same k at [] = refl
each-same g h sets same k at (Ok f ∷ items) =
    rw (same k (at + 4) f, each-same g h sets same (kind_then sets k f) (at + frame_length f) items) refl
each-same g h sets same k at (Err e ∷ items) = refl

-- two walks that go deep enough find the same attributes
inner-same : (v w : Walk) (bound : ℕ)
    → ((t : Table) → lists_of t < bound → (k : List ℕ) (depth at : ℕ) (bytes : List ℕ) → v t k depth at bytes ≡ w t k depth at bytes)
    → (t : Table) → lists_of t ≤ bound → (depth : ℕ) (k : List ℕ) (at : ℕ) (f : Frame) → with_inner v t depth k at f ≡ with_inner w t depth k at f
inner-same v w bound same t low depth k at f = go (list_in (class_in t (type_of f.word) k) k f.value) refl
  where
    go : (o : Option (Table × List ℕ)) → list_in (class_in t (type_of f.word) k) k f.value ≡ o
        → Ok (record { frame = f; offset = at; table = t; kind = k; depth = depth }) ∷ within v o (suc depth) at f.value
        ≡ Ok (record { frame = f; offset = at; table = t; kind = k; depth = depth }) ∷ within w o (suc depth) at f.value
    go None is = refl
    go (Some list) is =
        let one_less = list_in-lists (class_in t (type_of f.word) k) k f.value list is in
        rw (same list.0 (omega (arith, one_less, class_in-lists t (type_of f.word) k)) list.1 (suc depth) at f.value) refl

enough : (n m : ℕ) (t : Table) → lists_of t < n → lists_of t < m → (k : List ℕ) (depth at : ℕ) (bytes : List ℕ)
    → attributes_in n t k depth at bytes ≡ attributes_in m t k depth at bytes
unfolding attributes_in
enough zero m t low high k depth at bytes = absurd (omega arith)
enough (suc n) zero t low high k depth at bytes = absurd (omega arith)
enough (suc n) (suc m) t low high k depth at bytes =
    each-same (with_inner (attributes_in n) t depth) (with_inner (attributes_in m) t depth) keep
    (λ k at f. inner-same (attributes_in n) (attributes_in m) (lists_of t) (λ u l. enough n m u (omega arith) (omega arith)) t (omega arith) depth k at f)
    k at (items_of (cut bytes))

-- a message of a table that nests at most four deep
pub deep-enough : (n header : ℕ) (t : Table) (sets : Sets Frame) (bytes : List ℕ) → lists_of t ≤ 4
    → message_items (4 + n) header t sets bytes ≡ message_items 4 header t sets bytes
deep-enough n header t sets bytes low =
    ap to_fault (each-same (with_inner (attributes_in (4 + n)) t 0) (with_inner (attributes_in 4) t 0) sets
    (λ k at f. inner-same (attributes_in (4 + n)) (attributes_in 4) 4 (λ u l. enough (4 + n) 4 u (omega arith) (omega arith)) t low 0 k at f)
    [] header (items_of (cut (drop header bytes))))
