-- A list that is canonical in one table is canonical in another if both agree on each frame: the rows that the kind
-- selects, and rows that don't depend on it.
use Rattle.std.proofs.Common.{◌≡◌, ℕ, List, [], ◌∷◌, Bool, true, false, ◌↔◌, IsTrue, subst, sym}
use Rattle.std.specs.Prelude.{MatchBool, if◌then◌else◌}
use Rattle.std.specs.Str.{bytes_eq}
use Rattle.nla_frames.specs.Frame.{Frame, type_of}
use Rattle.nla_frames.specs.Reading.{keep}
use Rattle.tc_canon.specs.Descriptor.{Rows, others, Kinds, unknown, kind, table, is_within, is_known}
use Rattle.tc_canon.specs.Tables.Flower.{lse_options, mpls_options}
use Rattle.tc_canon.specs.Canonical.{IsCanonAt, CanonEach, IsCanonList, CanonTable, CanonRows, CanonKinds}

module _ (C D : IsCanonAt) (k l : List ℕ) (same : (f : Frame) → C k f ↔ D l f) where
  each-same : (fs : List Frame) → CanonEach C keep k fs ↔ CanonEach D keep l fs
  each-same [] = (λ x. x, λ x. x)
  each-same (f ∷ fs) = let rest = each-same fs in (λ p. ((same f).0 p.0, rest.0 p.1), λ p. ((same f).1 p.0, rest.1 p.1))

  -- so the bytes are one such list exactly when they are the other
  pub list-same : (v : List ℕ) → IsCanonList C keep k v ↔ IsCanonList D keep l v
  list-same v = (
    λ p. record { list = p.list; frames = p.frames; whole = p.whole; holds = (each-same p.list).0 p.holds },
    λ p. record { list = p.list; frames = p.frames; whole = p.whole; holds = (each-same p.list).1 p.holds },
  )

-- the rows of a kind, and none of an unknown one
abbrev pub rows_under : Kinds → List ℕ → Rows
rows_under unknown k = others
rows_under (kind name rows kinds) k = if bytes_eq k name then rows else rows_under kinds k

-- a frame by the rows of its kind
frame-chosen : (kinds : Kinds) (k : List ℕ) (f : Frame) → CanonTable (table (rows_under kinds k)) k f ↔ CanonKinds kinds k f
frame-chosen unknown k f = (λ x. x, λ x. x)
frame-chosen (kind name rows kinds) k f = go (bytes_eq k name) (frame-chosen kinds k f)
  where
    go : (b : Bool) → CanonTable (table (rows_under kinds k)) k f ↔ CanonKinds kinds k f
        → CanonTable (table (if b then rows else rows_under kinds k)) k f ↔ MatchBool b (CanonRows rows (type_of f.word) k f) (CanonKinds kinds k f)
    go true rest = (λ x. x, λ x. x)
    go false rest = rest

-- a list by them
pub list-chosen : (kinds : Kinds) (k v : List ℕ) → IsCanonList (CanonTable (table (rows_under kinds k))) keep k v ↔ IsCanonList (CanonKinds kinds) keep k v
list-chosen kinds k v = list-same (CanonTable (table (rows_under kinds k))) (CanonKinds kinds) k k (frame-chosen kinds k) v

-- a test of whether bytes are such a list, under a kind
abbrev pub Tests : Bool → IsCanonAt → List ℕ → List ℕ → Type 0
Tests b Canon k v = IsTrue b ↔ IsCanonList Canon keep k v

module _ (kinds : Kinds) (rows : Rows) (k v : List ℕ) (b : Bool) where
  -- a test by the rows of the kind
  pub chosen-by : rows_under kinds k ≡ rows → Tests b (CanonTable (table rows)) k v → Tests b (CanonKinds kinds) k v
  chosen-by is tested =
      let list = list-chosen kinds k v in
      let by_rows = subst (λ (r : Rows). Tests b (CanonTable (table r)) k v) (sym is) tested in
      (λ t. list.0 (by_rows.0 t), λ p. by_rows.1 (list.1 p))

  -- where the kind is known
  pub known-by : is_known kinds k ≡ true → rows_under kinds k ≡ rows → Tests b (CanonTable (table rows)) k v
      → IsTrue b ↔ ((is_known kinds k ≡ true) × IsCanonList (CanonKinds kinds) keep k v)
  known-by known is tested = let list = chosen-by is tested in (λ t. (known, list.0 t), λ p. list.1 p.1)

-- ---- tables that don't look at the kind

-- the kinds don't matter to a frame
abbrev pub IgnoresKinds : IsCanonAt → Type 0
IgnoresKinds Canon = (k l : List ℕ) (f : Frame) → Canon k f ↔ Canon l f

-- so not to a list
pub under-any : (Canon : IsCanonAt) → IgnoresKinds Canon → (k l v : List ℕ) (b : Bool) → Tests b Canon l v → Tests b Canon k v
under-any Canon ignores k l v b tested = let list = list-same Canon Canon l k (ignores l k) v in (λ t. list.0 (tested.0 t), λ p. tested.1 (list.1 p))

-- a row whose class doesn't
row-same : (b : Bool) (P Q R S : Type 0) → P ↔ Q → R ↔ S → MatchBool b P R ↔ MatchBool b Q S
row-same true P Q R S one rest = one
row-same false P Q R S one rest = rest

-- the options of an MPLS label stack entry
pub lse-same : IgnoresKinds (CanonTable (table lse_options))
lse-same k l f = (λ x. x, λ x. x)

-- MPLS options
pub mpls-same : IgnoresKinds (CanonTable (table mpls_options))
mpls-same k l f =
    let list = list-same (CanonTable (table lse_options)) (CanonTable (table lse_options)) k l (lse-same k l) f.value in
    row-same (is_within 1 1 (type_of f.word)) _ _ _ _ (λ p. (p.0, list.0 p.1), λ p. (p.0, list.1 p.1)) (λ x. x, λ x. x)
