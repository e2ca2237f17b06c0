-- The greater of two numbers, and the most NULs that end one of some parts.
use Rattle.std.proofs.Common.{◌≡◌, ◌⊎◌, ℕ, ◌<◌, ◌≤◌, List, [], ◌∷◌, ◌++◌, map, refl, sym, ap, ◌∙◌, arith, inl, inr}
use Rattle.std.proofs.lemmas.Bool.{cases_lt, lt-ltb, le-ltb}
use Rattle.tc_laws.specs.Loose.{Part, part_nuls, greater, greatest}

-- ---- the greater of two numbers

pub greater-less : (m n : ℕ) → m < n → greater m n ≡ n
greater-less m n less = rw (lt-ltb m n less) refl

pub greater-more : (m n : ℕ) → n ≤ m → greater m n ≡ m
greater-more m n more = rw (le-ltb m n more) refl

pub greater-cases : (m n : ℕ) → ((m < n) × (greater m n ≡ n)) ⊎ ((n ≤ m) × (greater m n ≡ m))
greater-cases m n = go (cases_lt m n)
  where
    go : (m < n) ⊎ (n ≤ m) → ((m < n) × (greater m n ≡ n)) ⊎ ((n ≤ m) × (greater m n ≡ m))
    go (inl less) = inl (less, greater-less m n less)
    go (inr more) = inr (more, greater-more m n more)

pub nothing-greater : (n : ℕ) → greater 0 n ≡ n
nothing-greater n = go (greater-cases 0 n)
  where
    go : ((0 < n) × (greater 0 n ≡ n)) ⊎ ((n ≤ 0) × (greater 0 n ≡ 0)) → greater 0 n ≡ n
    go (inl a) = a.1
    go (inr a) = omega (arith, a.0, a.1)

pub greater-nothing : (n : ℕ) → greater n 0 ≡ n
greater-nothing n = greater-more n 0 (omega arith)

-- of three
pub greater-again : (k m n : ℕ) → greater k (greater m n) ≡ greater (greater k m) n
greater-again k m n = go (greater-cases m n) (greater-cases k m)
  where
    go : ((m < n) × (greater m n ≡ n)) ⊎ ((n ≤ m) × (greater m n ≡ m)) → ((k < m) × (greater k m ≡ m)) ⊎ ((m ≤ k) × (greater k m ≡ k))
        → greater k (greater m n) ≡ greater (greater k m) n
    go (inl a) (inl b) = rw (a.1, b.1, a.1) (rw (lt-ltb k n (omega (arith, a.0, b.0))) refl)
    go (inl a) (inr b) = rw (a.1, b.1) refl
    go (inr a) (inl b) = rw (a.1, b.1, a.1) refl
    go (inr a) (inr b) = rw (a.1, b.1) (rw (le-ltb k n (omega (arith, a.0, b.0))) refl)

-- ---- parts

-- the most NULs that end one of these
abbrev pub most : List Part → ℕ
most parts = greatest (map part_nuls parts)

-- of two lists
pub most-append : (ps qs : List Part) → most (ps ++ qs) ≡ greater (most ps) (most qs)
most-append [] qs = sym (nothing-greater (most qs))
most-append (p ∷ ps) qs = ap (greater (part_nuls p)) (most-append ps qs) ∙ greater-again (part_nuls p) (most ps) (most qs)
