-- The widths of flower's options, looked up in a list of ranges, against the table.
use Rattle.std.proofs.Common.{◌≡◌, ℕ, suc, ◌+◌, ◌<◌, ◌≤◌, Bool, true, false, cond, List, [], ◌∷◌, length, refl, sym, ap, ◌∙◌, arith, Option, Some, None}
use Rattle.std.proofs.Common.{◌↔◌, is_some, eq-eqb}
use Rattle.std.specs.Prelude.{◌==◌, ◌&&◌, ◌||◌, IsTrue, nat_le, if◌then◌else◌, MatchBool, ⊤}
use Rattle.std.proofs.lemmas.Bool.{and_parts, eqb-true, ne_eqb, leb-true}
use Rattle.std.proofs.lemmas.Bool.Decides.{nat_tests}
use Rattle.nla_frames.specs.Frame.{Frame, type_of}
use Rattle.nla_frames.specs.Reading.{keep}
use Rattle.tc_canon.specs.Descriptor.{Class, le, be, array, Rows, others, types, unread, options, is_within, is_known}
use Rattle.tc_canon.specs.Order.{in_order}
use Rattle.tc_canon.specs.Tables.Flower.{flower_options}
use Rattle.tc_canon.specs.Widths.{width_of_class, width_at, look_up}
use Rattle.tc_canon.specs.Canonical.{CanonClass, CanonRows, CanonKinds, IsCanonList}

-- no row has the type
abbrev unlisted : Rows → ℕ → Bool
unlisted others n = true
unlisted (types first last flags class rows) n = if is_within first last n then false else unlisted rows n
unlisted (unread m class rows) n = unlisted rows n
unlisted (options m kinds rows) n = if n == m then false else unlisted rows n

-- where a test must fail for the next to count
fails : (b c : Bool) → cond b false c ≡ true → (b ≡ false) × (c ≡ true)
fails false c e = (refl, e)
fails true c e = absurd cc

-- an unknown type is canonical with any value
unlisted-canon : (rows : Rows) (n : ℕ) (k : List ℕ) (f : Frame) → unlisted rows n ≡ true → CanonRows rows n k f
unlisted-canon others n k f e = tt
unlisted-canon (types first last flags class rows) n k f e =
    let both = fails (is_within first last n) (unlisted rows n) e in
    rw both.0 (unlisted-canon rows n k f both.1)
unlisted-canon (unread m class rows) n k f e = unlisted-canon rows n k f e
unlisted-canon (options m kinds rows) n k f e =
    let both = fails (n == m) (unlisted rows n) e in
    rw both.0 (unlisted-canon rows n k f both.1)

-- a class that is known by its width
class-width : (class : Class) (k v : List ℕ) (w : ℕ) → width_of_class class ≡ Some w → CanonClass class k v ↔ (length v ≡ w)
class-width (le n) k v w e = let same : n ≡ w = cc in rw same (λ x. x, λ x. x)
class-width (be n) k v w e = let same : n ≡ w = cc in rw same (λ x. x, λ x. x)
class-width (array n) k v w e = let same : n ≡ w = cc in rw same (λ x. x, λ x. x)
class-width _ k v w e = absurd cc

-- a row that is known by its width
pub width-canon : (rows : Rows) (n : ℕ) (k : List ℕ) (f : Frame) (w : ℕ) → width_at rows n ≡ Some w
    → CanonRows rows n k f ↔ ((f.word ≡ n) × (length f.value ≡ w))
unfolding width_at
width-canon others n k f w e = absurd cc
width-canon (types first last flags class rows) n k f w e = go (is_within first last n) e (λ h. width-canon rows n k f w h)
  where
    plain : (b : Bool) → (flags == 0) ≡ b → cond b (width_of_class class) None ≡ Some w
        → ((f.word ≡ flags + n) × CanonClass class k f.value) ↔ ((f.word ≡ n) × (length f.value ≡ w))
    plain true is h =
        let none : flags ≡ 0 = eqb-true flags 0 is in
        let same : flags + n ≡ n = omega arith in
        let c = class-width class k f.value w h in
        (λ p. (p.0 ∙ same, c.0 p.1), λ p. (p.0 ∙ sym same, c.1 p.1))
    plain false is h = absurd cc

    go : (b : Bool) → cond b (cond (flags == 0) (width_of_class class) None) (width_at rows n) ≡ Some w
        → (width_at rows n ≡ Some w → CanonRows rows n k f ↔ ((f.word ≡ n) × (length f.value ≡ w)))
        → MatchBool b ((f.word ≡ flags + n) × CanonClass class k f.value) (CanonRows rows n k f) ↔ ((f.word ≡ n) × (length f.value ≡ w))
    go true h rest = plain (flags == 0) refl h
    go false h rest = rest h
width-canon (unread m class rows) n k f w e = width-canon rows n k f w e
width-canon (options m kinds rows) n k f w e = go (n == m) e (λ h. width-canon rows n k f w h)
  where
    go : (b : Bool) → cond b None (width_at rows n) ≡ Some w → (width_at rows n ≡ Some w → CanonRows rows n k f ↔ ((f.word ≡ n) × (length f.value ≡ w)))
        → MatchBool b (MatchBool (is_known kinds k) ((f.word ≡ n) × IsCanonList (CanonKinds kinds) keep k f.value) ⊤) (CanonRows rows n k f)
        ↔ ((f.word ≡ n) × (length f.value ≡ w))
    go true h rest = absurd cc
    go false h rest = rest h

-- ---- the ranges that a table in order says, neighbours of one width joined

-- a range before others, joined to the next one where that has its width and begins at the type after its last
abbrev pub join : ℕ → ℕ → ℕ → List (ℕ × ℕ × ℕ) → List (ℕ × ℕ × ℕ)
join first last w [] = (first, last, w) ∷ []
join first last w (r ∷ ws) = if (suc last == r.0 && w == r.2) then (first, r.1, w) ∷ ws else (first, last, w) ∷ r ∷ ws

-- the range of a row, where its types have a width
abbrev pub with_range : ℕ → ℕ → Option ℕ → List (ℕ × ℕ × ℕ) → List (ℕ × ℕ × ℕ)
with_range first last (Some w) ws = join first last w ws
with_range first last None ws = ws

abbrev pub width_of_row : ℕ → Class → Option ℕ
width_of_row flags class = if flags == 0 then width_of_class class else None

abbrev pub ranges : Rows → List (ℕ × ℕ × ℕ)
ranges others = []
ranges (types first last flags class rows) = with_range first last (width_of_row flags class) (ranges rows)
ranges (unread m class rows) = ranges rows
ranges (options m kinds rows) = ranges rows

-- the first range isn't empty
abbrev starts : List (ℕ × ℕ × ℕ) → Bool
starts [] = true
starts (r ∷ ws) = nat_le r.0 r.1

join_starts : (first last w : ℕ) (ws : List (ℕ × ℕ × ℕ)) → first ≤ last → starts ws ≡ true → starts (join first last w ws) ≡ true
join_starts first last w [] l e = grind (arith, nat_tests)
join_starts first last w (r ∷ ws) l e = go (suc last == r.0 && w == r.2) refl
  where
    go : (b : Bool) → (suc last == r.0 && w == r.2) ≡ b → starts (cond b ((first, r.1, w) ∷ ws) ((first, last, w) ∷ r ∷ ws)) ≡ true
    go true is = grind (arith, nat_tests)
    go false is = grind (arith, nat_tests)

ranges_start : (rows : Rows) (low : ℕ) → in_order low rows ≡ true → starts (ranges rows) ≡ true
ranges_start others low ok = refl
ranges_start (types first last flags class rows) low ok =
    let order = and_parts (nat_le first last) _ (and_parts (nat_le low first) _ ok).1 in
    go (width_of_row flags class) (leb-true first last order.0) (ranges_start rows (suc last) order.1)
  where
    go : (r : Option ℕ) → first ≤ last → starts (ranges rows) ≡ true → starts (with_range first last r (ranges rows)) ≡ true
    go (Some w) l e = join_starts first last w (ranges rows) l e
    go None l e = e
ranges_start (unread m class rows) low ok = ranges_start rows (suc m) (and_parts (nat_le low m) _ ok).1
ranges_start (options m kinds rows) low ok = ranges_start rows (suc m) (and_parts (nat_le low m) _ ok).1

join_look_up : (first last w n : ℕ) (ws : List (ℕ × ℕ × ℕ)) → first ≤ last → starts ws ≡ true
    → look_up (join first last w ws) n ≡ cond (is_within first last n) (Some w) (look_up ws n)
unfolding look_up
join_look_up first last w n [] l e = refl
join_look_up first last w n (r ∷ ws) l e = go (suc last == r.0 && w == r.2) refl
  where
    joined : suc last ≡ r.0 → is_within first r.1 n ≡ (is_within first last n || is_within r.0 r.1 n)
    joined is = grind (arith, nat_tests)

    cond_or : (a b : Bool) (x y : Option ℕ) → cond (a || b) x y ≡ cond a x (cond b x y)
    cond_or true b x y = refl
    cond_or false b x y = refl

    go : (b : Bool) → (suc last == r.0 && w == r.2) ≡ b
        → look_up (cond b ((first, r.1, w) ∷ ws) ((first, last, w) ∷ r ∷ ws)) n ≡ cond (is_within first last n) (Some w) (look_up (r ∷ ws) n)
    go true is =
        let both = and_parts (suc last == r.0) (w == r.2) is in
        rw (joined (eqb-true (suc last) r.0 both.0), ← eqb-true w r.2 both.1) (cond_or (is_within first last n) (is_within r.0 r.1 n) (Some w) (look_up ws n))
    go false is = refl

-- a type before the first row has no width
none_before : (rows : Rows) (low n : ℕ) → in_order low rows ≡ true → n < low → width_at rows n ≡ None
unfolding width_at
none_before others low n ok under = refl
none_before (types first last flags class rows) low n ok under =
    let start = and_parts (nat_le low first) _ ok in
    let order = and_parts (nat_le first last) _ start.1 in
    let l : low ≤ first = leb-true low first start.0 in
    let m : first ≤ last = leb-true first last order.0 in
    rw (before first last n (omega (arith, l))) (none_before rows (suc last) n order.1 (omega (arith, l, m)))
  where
    before : (first last n : ℕ) → n < first → is_within first last n ≡ false
    before first last n l = grind (arith, nat_tests)
none_before (unread m class rows) low n ok under =
    let start = and_parts (nat_le low m) _ ok in
    let l : low ≤ m = leb-true low m start.0 in
    none_before rows (suc m) n start.1 (omega (arith, l))
none_before (options m kinds rows) low n ok under =
    let start = and_parts (nat_le low m) _ ok in
    let l : low ≤ m = leb-true low m start.0 in
    rw (ne_eqb n m (λ is. omega (arith, is, l))) (none_before rows (suc m) n start.1 (omega (arith, l)))

-- they say what the table says
ranges_tell : (rows : Rows) (low n : ℕ) → in_order low rows ≡ true → look_up (ranges rows) n ≡ width_at rows n
unfolding look_up width_at
ranges_tell others low n ok = refl
ranges_tell (types first last flags class rows) low n ok =
    let order = and_parts (nat_le first last) _ (and_parts (nat_le low first) _ ok).1 in
    go (width_of_row flags class) (leb-true first last order.0) (ranges_start rows (suc last) order.1) (ranges_tell rows (suc last) n order.1)
    (none_before rows (suc last) n order.1)
  where
    go : (r : Option ℕ) → first ≤ last → starts (ranges rows) ≡ true → look_up (ranges rows) n ≡ width_at rows n → (n < suc last → width_at rows n ≡ None)
        → look_up (with_range first last r (ranges rows)) n ≡ cond (is_within first last n) r (width_at rows n)
    go (Some w) l e rest none = join_look_up first last w n (ranges rows) l e ∙ ap (cond (is_within first last n) (Some w)) rest
    go None l e rest none = rest ∙ sym (at (is_within first last n) refl)
      where
        at : (b : Bool) → is_within first last n ≡ b → cond b None (width_at rows n) ≡ width_at rows n
        at true is = let within : n ≤ last = leb-true n last (and_parts (nat_le first n) _ is).1 in sym (none (omega arith))
        at false is = refl
ranges_tell (unread m class rows) low n ok = ranges_tell rows (suc m) n (and_parts (nat_le low m) _ ok).1
ranges_tell (options m kinds rows) low n ok =
    let later = (and_parts (nat_le low m) _ ok).1 in
    ranges_tell rows (suc m) n later ∙ sym (at (n == m) refl (none_before rows (suc m) n later))
  where
    at : (b : Bool) → (n == m) ≡ b → (n < suc m → width_at rows n ≡ None) → cond b None (width_at rows n) ≡ width_at rows n
    at true is none = let same : n ≡ m = eqb-true n m is in sym (none (omega (arith, same)))
    at false is none = refl

-- what was found in the ranges of flower's table is its width
pub found-width : (n : ℕ) (r : Option ℕ) → r ≡ look_up (ranges flower_options) n → r ≡ width_at flower_options n
found-width n r is = is ∙ ranges_tell flower_options 0 n refl

-- the types of the rows without a width
abbrev without_width : Rows → ℕ → Bool
without_width others n = false
without_width (types first last flags class rows) n =
    if is_some (width_of_row flags class) then without_width rows n else (is_within first last n || without_width rows n)
without_width (unread m class rows) n = without_width rows n
without_width (options m kinds rows) n = n == m || without_width rows n

-- a type that has no width, and is none of these, is in no row
other-unlisted : (rows : Rows) (n : ℕ) → width_at rows n ≡ None → without_width rows n ≡ false → unlisted rows n ≡ true
unfolding width_at
other-unlisted others n none e = refl
other-unlisted (types first last flags class rows) n none e = go (width_of_row flags class) (is_within first last n) none e (other-unlisted rows n)
  where
    go : (r : Option ℕ) (b : Bool) → cond b r (width_at rows n) ≡ None → cond (is_some r) (without_width rows n) (b || without_width rows n) ≡ false
        → (width_at rows n ≡ None → without_width rows n ≡ false → unlisted rows n ≡ true) → cond b false (unlisted rows n) ≡ true
    go (Some w) true none e rest = absurd (cc none)
    go (Some w) false none e rest = rest none e
    go None true none e rest = absurd (cc e)
    go None false none e rest = rest none e
other-unlisted (unread m class rows) n none e = other-unlisted rows n none e
other-unlisted (options m kinds rows) n none e = go (n == m) none e (other-unlisted rows n)
  where
    go : (b : Bool) → cond b None (width_at rows n) ≡ None → (b || without_width rows n) ≡ false
        → (width_at rows n ≡ None → without_width rows n ≡ false → unlisted rows n ≡ true) → cond b false (unlisted rows n) ≡ true
    go true none e rest = absurd (cc e)
    go false none e rest = rest none e

-- the six types of flower's table without a width
special : (n : ℕ) → (n ≡ 2 → ⊥) → (n ≡ 3 → ⊥) → (n ≡ 68 → ⊥) → (n ≡ 69 → ⊥) → (n ≡ 70 → ⊥) → (n ≡ 99 → ⊥) → without_width flower_options n ≡ false
special n a b c d e f = grind (arith, nat_tests)

-- ---- the steps of flower's check

module _ (k : List ℕ) (f : Frame) (n : ℕ) (is : n ≡ type_of f.word) where
  -- an option of a width
  pub width-decides : (w : ℕ) (v : List ℕ) → Some w ≡ width_at flower_options n → v ≡ f.value → (IsTrue true ↔ (f.word ≡ type_of f.word))
      → IsTrue (length v == w) ↔ CanonRows flower_options (type_of f.word) k f
  width-decides w v row value plain =
      let c = width-canon flower_options (type_of f.word) k f w (rw (← is) (sym row)) in
      (λ t. c.1 (plain.0 refl, rw (← value) (eqb-true (length v) w t)), λ p. eq-eqb (length v) w (rw value (c.0 p).1))

  -- with a word that has flags
  pub width-flags : (w : ℕ) (b : Bool) → Some w ≡ width_at flower_options n → b ≡ false → (IsTrue false ↔ (f.word ≡ type_of f.word))
      → IsTrue b ↔ CanonRows flower_options (type_of f.word) k f
  width-flags w b row none plain =
      let c = width-canon flower_options (type_of f.word) k f w (rw (← is) (sym row)) in
      (λ t. absurd cc, λ p. absurd (let no : false ≡ true = plain.1 (c.0 p).0 in cc))

  -- an option of an unknown type
  pub other-decides : (n ≡ 2 → ⊥) → (n ≡ 3 → ⊥) → (n ≡ 68 → ⊥) → (n ≡ 69 → ⊥) → (n ≡ 70 → ⊥) → (n ≡ 99 → ⊥) → None ≡ width_at flower_options n
      → IsTrue true ↔ CanonRows flower_options (type_of f.word) k f
  other-decides a b c d e g none =
      (λ t. rw (← is) (unlisted-canon flower_options n k f (other-unlisted flower_options n (sym none) (special n a b c d e g))), λ p. refl)
