-- If the rows of a table are in order, its spans say which types it reads.
use Rattle.std.proofs.Common.{◌≡◌, ℕ, suc, ◌+◌, ◌≤◌, ◌<◌, List, [], ◌∷◌, Bool, true, false, cond, refl, arith}
use Rattle.std.specs.Prelude.{◌==◌, ◌||◌, nat_le}
use Rattle.std.proofs.Math.Bool.{or_assoc}
use Rattle.std.proofs.lemmas.Bool.{and_parts, eqb-true, leb-true, ne_eqb}
use Rattle.std.proofs.lemmas.Bool.Decides.{nat_tests}
use Rattle.nla_frames.specs.Fault.{seen}
use Rattle.nla_frames.specs.Frame.{Frame}
use Rattle.tc_canon.specs.Descriptor.{Class, le, be, array, Rows, others, types, unread, options, is_within}
use Rattle.tc_canon.specs.Order.{in_order}
use Rattle.tc_meaning.specs.Tree.{known}
use Rattle.tc_meaning.specs.Meaning.{class_codec, rows_codec, choose, row_frames}
use Rattle.tc_values.specs.Row.{reads_at}
use Rattle.tc_flower.specs.Spans.{same_class, holds, join, spans, is_in}

same_class-tells : (a b : Class) → same_class a b ≡ true → a ≡ b
same_class-tells (le m) (le n) e = rw (eqb-true m n e) refl
same_class-tells (be m) (be n) e = rw (eqb-true m n e) refl
same_class-tells (array m) (array n) e = rw (eqb-true m n e) refl
same_class-tells a b e = absurd (cc e)

-- so later rows have later types
holds_above : (class : Class) (rows : Rows) (low n : ℕ) → in_order low rows ≡ true → holds class rows n ≡ true → low ≤ n
holds_above class others low n ok e = absurd (cc e)
holds_above class (types first last flags c rows) low n ok e = grind (arith, nat_tests, holds_above class rows (suc last) n)
holds_above class (unread m c rows) low n ok e = grind (arith, nat_tests, holds_above class rows (suc m) n)
holds_above class (options m kinds rows) low n ok e = grind (arith, nat_tests, holds_above class rows (suc m) n)

reads_above : (rows : Rows) (low n : ℕ) → in_order low rows ≡ true → reads_at rows n ≡ true → low ≤ n
reads_above others low n ok e = absurd (cc e)
reads_above (types first last flags c rows) low n ok e = grind (arith, nat_tests, reads_above rows (suc last) n)
reads_above (unread m c rows) low n ok e = grind (arith, nat_tests, reads_above rows (suc m) n)
reads_above (options m kinds rows) low n ok e = grind (arith, nat_tests, reads_above rows (suc m) n)

-- ---- the reading at a type in a span of a class

pub class_read : (class : Class) (rows : Rows) (low n : ℕ) → in_order low rows ≡ true → holds class rows n ≡ true → (k : List ℕ) (f : Frame)
    → (rows_codec rows n).read k f ≡ seen (known n) ((class_codec class).read k f.value)
class_read class others low n ok e k f = absurd (cc e)
class_read class (types first last flags c rows) low n ok e k f =
    let later = (and_parts (nat_le first last) _ (and_parts (nat_le low first) _ ok).1).1 in
    go (same_class class c) (is_within first last n) refl refl e (λ h. holds_above class rows (suc last) n later h)
    (λ h. class_read class rows (suc last) n later h k f)
  where
    go : (s b : Bool) → same_class class c ≡ s → is_within first last n ≡ b → cond s (b || holds class rows n) (holds class rows n) ≡ true
        → (holds class rows n ≡ true → last < n)
        → (holds class rows n ≡ true → (rows_codec rows n).read k f ≡ seen (known n) ((class_codec class).read k f.value))
        → (choose b (row_frames (flags + n) n (class_codec c)) (rows_codec rows n)).read k f ≡ seen (known n) ((class_codec class).read k f.value)
    go true true same here e above rest = rw (same_class-tells class c same) refl
    go true false same here e above rest = rest e
    go false false same here e above rest = rest e
    go false true same here e above rest =
        let past : last < n = above e in
        let within : n ≤ last = leb-true n last (and_parts (nat_le first n) _ here).1 in
        absurd (omega arith)
class_read class (unread m c rows) low n ok e k f =
    let later = (and_parts (nat_le low m) _ ok).1 in
    let past : m < n = holds_above class rows (suc m) n later e in
    rw (ne_eqb n m (λ is. omega (arith, is, past))) (class_read class rows (suc m) n later e k f)
class_read class (options m kinds rows) low n ok e k f =
    let later = (and_parts (nat_le low m) _ ok).1 in
    let past : m < n = holds_above class rows (suc m) n later e in
    rw (ne_eqb n m (λ is. omega (arith, is, past))) (class_read class rows (suc m) n later e k f)

-- ---- the types that a table reads

-- the first span isn't empty
abbrev starts : List (ℕ × ℕ) → Bool
starts [] = true
starts (s ∷ ss) = nat_le s.0 s.1

join_starts : (first last : ℕ) (ss : List (ℕ × ℕ)) → first ≤ last → starts ss ≡ true → starts (join first last ss) ≡ true
join_starts first last [] l e = grind (arith, nat_tests)
join_starts first last (s ∷ ss) l e = go (suc last == s.0) refl
  where
    go : (b : Bool) → (suc last == s.0) ≡ b → starts (cond b ((first, s.1) ∷ ss) ((first, last) ∷ s ∷ ss)) ≡ true
    go true is = grind (arith, nat_tests)
    go false is = grind (arith, nat_tests)

spans_start : (rows : Rows) (low : ℕ) → in_order low rows ≡ true → starts (spans rows) ≡ true
spans_start others low ok = refl
spans_start (types first last flags c rows) low ok =
    let order = and_parts (nat_le first last) _ (and_parts (nat_le low first) _ ok).1 in
    join_starts first last (spans rows) (leb-true first last order.0) (spans_start rows (suc last) order.1)
spans_start (unread m c rows) low ok = spans_start rows (suc m) (and_parts (nat_le low m) _ ok).1
spans_start (options m kinds rows) low ok = join_starts m m (spans rows) (omega arith) (spans_start rows (suc m) (and_parts (nat_le low m) _ ok).1)

join_in : (first last n : ℕ) (ss : List (ℕ × ℕ)) → first ≤ last → starts ss ≡ true → is_in (join first last ss) n ≡ (is_within first last n || is_in ss n)
join_in first last n [] l e = refl
join_in first last n (s ∷ ss) l e = go (suc last == s.0) refl
  where
    joined : suc last ≡ s.0 → is_within first s.1 n ≡ (is_within first last n || is_within s.0 s.1 n)
    joined is = grind (arith, nat_tests)

    go : (b : Bool) → (suc last == s.0) ≡ b
        → is_in (cond b ((first, s.1) ∷ ss) ((first, last) ∷ s ∷ ss)) n ≡ (is_within first last n || is_in (s ∷ ss) n)
    go true is = rw (joined (eqb-true (suc last) s.0 is), or_assoc (is_within first last n)) refl
    go false is = refl

or_cond : (a b : Bool) → (a || b) ≡ cond a true b
or_cond true b = refl
or_cond false b = refl

pub spans_read : (rows : Rows) (low n : ℕ) → in_order low rows ≡ true → is_in (spans rows) n ≡ reads_at rows n
spans_read others low n ok = refl
spans_read (types first last flags c rows) low n ok =
    let order = and_parts (nat_le first last) _ (and_parts (nat_le low first) _ ok).1 in
    rw (join_in first last n (spans rows) (leb-true first last order.0) (spans_start rows (suc last) order.1), spans_read rows (suc last) n order.1)
    (or_cond (is_within first last n) (reads_at rows n))
spans_read (unread m c rows) low n ok =
    let later = (and_parts (nat_le low m) _ ok).1 in
    rw (spans_read rows (suc m) n later) (go (reads_at rows n) (reads_above rows (suc m) n later))
  where
    both_ways : (c : Bool) → false ≡ cond c false false
    both_ways true = refl
    both_ways false = refl

    go : (b : Bool) → (b ≡ true → m < n) → b ≡ cond (n == m) false b
    go true above = let past : m < n = above refl in rw (ne_eqb n m (λ is. omega (arith, is, past))) refl
    go false above = both_ways (n == m)
spans_read (options m kinds rows) low n ok =
    let later = (and_parts (nat_le low m) _ ok).1 in
    rw (join_in m m n (spans rows) (omega arith) (spans_start rows (suc m) later), spans_read rows (suc m) n later, alone)
    (or_cond (n == m) (reads_at rows n))
  where
    alone : is_within m m n ≡ (n == m)
    alone = grind (arith, nat_tests)
