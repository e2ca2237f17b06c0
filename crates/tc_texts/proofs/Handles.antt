-- Parsing the text of a handle returns the handle.
use Rattle.std.proofs.Common.{◌≡◌, ◌≢◌, ℕ, ◌+◌, ◌*◌, ◌/◌, ◌%◌, ◌^◌, ◌<◌, ◌==◌, true, false, List, [], ◌∷◌, ◌++◌, length, take, drop, Option, Some, refl, sym, ap, ap₂, ◌∙◌, subst, arith, inl, inr, le-leb, lt-ltb, eq-eqb, ne_eqb, drop_at, append_assoc, length-append}
use Rattle.std.proofs.Math.Seq.{take-append_seam}
use Rattle.std.proofs.lemmas.Bool.{cases_eq, false_from_ne_true}
use Rattle.std.proofs.lemmas.Slice.Eq.{bytes_eq-Decides}
use Rattle.std.specs.Prelude.{codes, bytes_eq, unwrap_or}
use Rattle.std.specs.List.{list_all, position_or_len}
use Rattle.std.specs.Char.{digit_value, is_digit}
use Rattle.std.specs.Str.Parse.{AllDigits}
use Rattle.tc_texts.specs.Handle.{half_text, handle_text, half_of, halves, numbers_of, handle_of}
use Rattle.tc_texts.proofs.Numerals.{IsHexOf, IsHexOf-hex}

list_all-digits : (ds : List ℕ) → AllDigits 16 ds → list_all (λ c. is_digit c 16) ds ≡ true
list_all-digits [] h = refl
list_all-digits (c ∷ cs) h = rw (lt-ltb (digit_value c) 16 h.0, list_all-digits cs h.1) refl

IsHexOf-half_text : (n : ℕ) → n < 2 ^ 16 → IsHexOf (half_text n) n
IsHexOf-half_text n fits =
    elim (cases_eq n 0) [
      | inl none ↦ rw (eq-eqb n 0 none) (record { digits = tt; value = sym none; short = omega arith })
      | inr some ↦ rw (ne_eqb n 0 some) (IsHexOf-hex n fits)
    ]

pub half_of-IsHexOf : (text : List ℕ) (n : ℕ) → IsHexOf text n → half_of text ≡ Some n
unfolding half_of
half_of-IsHexOf text n h = rw (le-leb (length text) 4 h.short, list_all-digits text h.digits, h.value) refl

-- a colon isn't a digit
no_colon : (c : ℕ) → digit_value c < 16 → (c == 58) ≡ false
no_colon c h = ne_eqb c 58 (λ e. let same : digit_value 58 < 16 = subst (λ (v : ℕ). digit_value v < 16) e h in omega arith)

first_colon : (ds rest : List ℕ) → AllDigits 16 ds → position_or_len (λ c. c == 58) (ds ++ 58 ∷ rest) ≡ length ds
first_colon [] rest h = refl
first_colon (c ∷ cs) rest h = rw (no_colon c h.0, first_colon cs rest h.1) (omega arith)

-- a text with a colon isn't a word without one
not_word : (text word : List ℕ) → position_or_len (λ c. c == 58) text < length text → position_or_len (λ c. c == 58) word ≡ length word → text ≢ word
not_word text word colon none same =
    let moved : position_or_len (λ c. c == 58) word < length word = subst (λ (t : List ℕ). position_or_len (λ c. c == 58) t < length t) same colon in
    omega (arith, moved, none)

is_other : (a b : List ℕ) → a ≢ b → bytes_eq a b ≡ false
is_other a b h = false_from_ne_true (bytes_eq a b) (λ t. h ((bytes_eq-Decides a b).0 t))

pub handle_of-other : (text : List ℕ) → text ≢ codes "root" → text ≢ codes "ingress" → text ≢ codes "clsact" → text ≢ codes "none" → handle_of text ≡ numbers_of text
unfolding handle_of
handle_of-other text h₁ h₂ h₃ h₄ =
    rw (is_other text (codes "root") h₁, is_other text (codes "ingress") h₂, is_other text (codes "clsact") h₃, is_other text (codes "none") h₄) refl

numbers_of-parts : (text front back : List ℕ) (at : ℕ) → position_or_len (λ c. c == 58) text ≡ at → at < length text → take at text ≡ front → drop (at + 1) text ≡ back → numbers_of text ≡ halves (half_of front) (half_of back)
numbers_of-parts text front back at e lt f b = rw (e, lt-ltb at (length text) lt, f, b) refl

-- the numbers on both sides of a colon
module _ (front back : List ℕ) (major minor : ℕ) (f : IsHexOf front major) (b : IsHexOf back minor) where
  with_colon : position_or_len (λ c. c == 58) (front ++ 58 ∷ back) < length (front ++ 58 ∷ back)
  with_colon =
      let at = first_colon front back f.digits in
      omega (arith, at, length-append front (58 ∷ back))

  numbers_of-halves : numbers_of (front ++ 58 ∷ back) ≡ Some (major * 0x10000 + minor)
  numbers_of-halves =
      let at = first_colon front back f.digits in
      let long : length front < length (front ++ 58 ∷ back) = omega (arith, length-append front (58 ∷ back)) in
      let len : length (front ++ 58 ∷ []) ≡ length front + 1 = omega (arith, length-append front (58 ∷ [])) in
      let rest : drop (length front + 1) (front ++ 58 ∷ back) ≡ back =
      ap (λ (t : List ℕ). drop (length front + 1) t) (sym (append_assoc front (58 ∷ []) back))
      ∙ drop_at (front ++ 58 ∷ []) back (length front + 1) len in
      numbers_of-parts _ front back (length front) at long (take-append_seam front (58 ∷ back)) rest
      ∙ ap₂ halves (half_of-IsHexOf front major f) (half_of-IsHexOf back minor b)

handle_of-numbers : (text : List ℕ) → position_or_len (λ c. c == 58) text < length text → handle_of text ≡ numbers_of text
handle_of-numbers text colon =
    handle_of-other text
    (not_word text (codes "root") colon refl)
    (not_word text (codes "ingress") colon refl)
    (not_word text (codes "clsact") colon refl)
    (not_word text (codes "none") colon refl)

zero_read : handle_of (codes "0:0") ≡ Some 0
unfolding handle_of half_of
zero_read = refl

root_read : handle_of (codes "root") ≡ Some 0xffffffff
unfolding handle_of
root_read = refl

halves_read : (n : ℕ) → n < 2 ^ 32 → handle_of ((half_text (n / 0x10000) ++ (58 ∷ [])) ++ half_text (n % 0x10000)) ≡ Some n
halves_read n fits =
    let front = half_text (n / 0x10000) in
    let back = half_text (n % 0x10000) in
    let f = IsHexOf-half_text (n / 0x10000) (omega arith) in
    let b = IsHexOf-half_text (n % 0x10000) (omega arith) in
    let whole : n / 0x10000 * 0x10000 + n % 0x10000 ≡ n = omega arith in
    ap handle_of (append_assoc front (58 ∷ []) back)
    ∙ handle_of-numbers (front ++ 58 ∷ back) (with_colon front back _ _ f b)
    ∙ numbers_of-halves front back _ _ f b ∙ ap Some whole

pub handle_of-handle_text : (n : ℕ) → n < 2 ^ 32 → handle_of (handle_text n) ≡ Some n
unfolding handle_text
handle_of-handle_text n fits =
    elim (cases_eq n 0) [
      | inl none ↦ rw (eq-eqb n 0 none) (zero_read ∙ ap Some (sym none))
      | inr some ↦ elim (cases_eq n 0xffffffff) [
        | inl all ↦ rw (ne_eqb n 0 some, eq-eqb n 0xffffffff all) (root_read ∙ ap Some (sym all))
        | inr other ↦ rw (ne_eqb n 0 some, ne_eqb n 0xffffffff other) (halves_read n fits)
      ]
    ]

pub same_number : (a b : ℕ) (o : Option ℕ) → o ≡ Some a → o ≡ Some b → a ≡ b
same_number a b o ea eb = ap (λ (x : Option ℕ). unwrap_or x 0) (sym ea ∙ eb)

pub handle_text-injective : (a b : ℕ) → a < 2 ^ 32 → b < 2 ^ 32 → handle_text a ≡ handle_text b → a ≡ b
handle_text-injective a b ha hb e =
    same_number a b _ (handle_of-handle_text a ha) (ap handle_of e ∙ handle_of-handle_text b hb)
