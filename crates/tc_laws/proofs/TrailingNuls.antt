-- The NULs at the end of a text: one taken off, and all.
use Rattle.std.proofs.Common.{◌≡◌, ℕ, zero, suc, ◌-◌, ◌<◌, ◌≤◌, Bool, true, false, List, [], ◌∷◌, ◌++◌, length, take, get_or, cond, eqb, refl, sym, ap, subst}
use Rattle.std.proofs.Common.{◌∙◌, arith}
use Rattle.std.specs.Str.{is_utf8, IsUtf8}
use Rattle.std.proofs.lemmas.Bool.{eqb-true}
use Rattle.std.proofs.lemmas.List.{length-take, take_at}
use Rattle.std.proofs.lemmas.Str.{IsUtf8-from_is_utf8, is_utf8-from_IsUtf8, IsUtf8-take, IsUtf8-from_ascii, IsCharBoundary-at_seam}
use Rattle.nla_frames.specs.Value.{ends_in_nul, strip}
use Rattle.tc_laws.specs.Loose.{before_text, without_nuls, trailing_nuls}
use Rattle.tc_meaning.proofs.Texts.{strip-none}

-- one more byte in front of a text of at least one
ends-cons : (b c : ℕ) (text : List ℕ) → ends_in_nul (b ∷ c ∷ text) ≡ ends_in_nul (c ∷ text)
ends-cons b c text =
    let one : length (b ∷ c ∷ text) - 1 ≡ suc (length text) = omega arith in
    let other : length (c ∷ text) - 1 ≡ length text = omega arith in
    rw (one, other) refl

strip-cons : (b c : ℕ) (text : List ℕ) → strip (b ∷ c ∷ text) ≡ b ∷ strip (c ∷ text)
unfolding strip
strip-cons b c text =
    let one : length (b ∷ c ∷ text) - 1 ≡ suc (length text) = omega arith in
    let other : length (c ∷ text) - 1 ≡ length text = omega arith in
    rw (ends-cons b c text, one, other) (go (eqb (get_or (c ∷ text) (length text) 1) 0))
  where
    go : (t : Bool) → cond t (take (suc (length text)) (b ∷ c ∷ text)) (b ∷ c ∷ text) ≡ b ∷ cond t (take (length text) (c ∷ text)) (c ∷ text)
    go true = refl
    go false = refl

strip-one : (b : ℕ) → strip (b ∷ []) ≡ cond (eqb b 0) [] (b ∷ [])
unfolding strip
strip-one b = refl

-- taking one off changes nothing of what is left without any
pub without-strip : (text : List ℕ) → without_nuls (strip text) ≡ without_nuls text
unfolding strip
without-strip [] = refl
without-strip (b ∷ []) = rw (strip-one b) (go (eqb b 0) refl)
  where
    go : (t : Bool) → eqb b 0 ≡ t → without_nuls (cond t [] (b ∷ [])) ≡ cond (eqb b 0) [] (b ∷ [])
    go true e = rw e refl
    go false e = refl
without-strip (b ∷ c ∷ text) = rw (strip-cons b c text) (ap (before_text b) (without-strip (c ∷ text)))

-- without a NUL at its end a text stays
pub without-none : (text : List ℕ) → ends_in_nul text ≡ false → without_nuls text ≡ text
without-none [] e = refl
without-none (b ∷ []) e = rw e refl
without-none (b ∷ c ∷ text) e = ap (before_text b) (without-none (c ∷ text) (sym (ends-cons b c text) ∙ e))

without-shorter : (text : List ℕ) → length (without_nuls text) ≤ length text
without-shorter [] = omega arith
without-shorter (b ∷ text) = go (without_nuls text) (without-shorter text)
  where
    go : (w : List ℕ) → length w ≤ length text → length (before_text b w) ≤ suc (length text)
    go [] h = at_end (eqb b 0)
      where
        at_end : (t : Bool) → length (cond t [] (b ∷ [])) ≤ suc (length text)
        at_end true = omega arith
        at_end false = omega arith
    go (c ∷ w) h = omega arith

-- what is left has no NUL at its end
pub without-ends : (text : List ℕ) → ends_in_nul (without_nuls text) ≡ false
without-ends [] = refl
without-ends (b ∷ text) = go (without_nuls text) (without-ends text)
  where
    go : (w : List ℕ) → ends_in_nul w ≡ false → ends_in_nul (before_text b w) ≡ false
    go [] e = at_end (eqb b 0) refl
      where
        at_end : (t : Bool) → eqb b 0 ≡ t → ends_in_nul (cond t [] (b ∷ [])) ≡ false
        at_end true h = refl
        at_end false h = h
    go (c ∷ w) e = ends-cons b c w ∙ e

-- a text that ends in NUL is one byte longer than it is without that
pub length-strip : (text : List ℕ) → ends_in_nul text ≡ true → suc (length (strip text)) ≡ length text
unfolding strip
length-strip [] e = absurd cc
length-strip (b ∷ text) e = rw e (omega (arith, length-take (length (b ∷ text) - 1) (b ∷ text)))

pub strip-shorter : (text : List ℕ) → length (strip text) ≤ length text
strip-shorter text = go (ends_in_nul text) refl
  where
    go : (t : Bool) → ends_in_nul text ≡ t → length (strip text) ≤ length text
    go true e = omega (arith, length-strip text e)
    go false e = rw (strip-none text e) (omega arith)

-- a text ends in no NUL exactly when none is at its end
pub none-ends : (text : List ℕ) → ends_in_nul text ≡ false → trailing_nuls text ≡ 0
none-ends text e = rw (without-none text e) (omega arith)

pub ends-none : (text : List ℕ) → trailing_nuls text ≡ 0 → ends_in_nul text ≡ false
ends-none text none = go (ends_in_nul text) refl
  where
    go : (t : Bool) → ends_in_nul text ≡ t → t ≡ false
    go false e = refl
    go true e =
        let less : length (without_nuls text) ≤ length (strip text) = rw (without-strip text) at (without-shorter (strip text)) in
        absurd (omega (arith, length-strip text e, none))

-- taking one off leaves one less
pub trailing-strip : (text : List ℕ) → trailing_nuls (strip text) ≡ trailing_nuls text - 1
trailing-strip text = rw (without-strip text) (go (ends_in_nul text) refl)
  where
    go : (t : Bool) → ends_in_nul text ≡ t → length (strip text) - length (without_nuls text) ≡ length text - length (without_nuls text) - 1
    go true e = omega (arith, length-strip text e)
    go false e = rw (strip-none text e, without-none text e) (omega arith)

-- a text that ends in NUL, and that
ends-seam : (text : List ℕ) → ends_in_nul text ≡ true → text ≡ strip text ++ 0 ∷ []
ends-seam [] e = absurd cc
ends-seam (b ∷ []) e = rw (strip-one b, e) (ap (λ (a : ℕ). a ∷ []) (eqb-true b 0 e))
ends-seam (b ∷ c ∷ text) e = rw (strip-cons b c text) (ap (λ (t : List ℕ). b ∷ t) (ends-seam (c ∷ text) (sym (ends-cons b c text) ∙ e)))

nul_utf8 : IsUtf8 (0 ∷ [])
nul_utf8 = IsUtf8-from_ascii (0 ∷ []) below
  where
    below : (i : ℕ) → get_or (0 ∷ []) i 0 < 128
    below zero = omega arith
    below (suc i) = omega arith

-- a text of UTF-8 is one without its NUL
pub utf8-strip : (text : List ℕ) → is_utf8 text ≡ true → is_utf8 (strip text) ≡ true
utf8-strip text u = go (ends_in_nul text) refl
  where
    go : (t : Bool) → ends_in_nul text ≡ t → is_utf8 (strip text) ≡ true
    go true e =
        let seam = ends-seam text e in
        let edge = IsCharBoundary-at_seam text (strip text) (0 ∷ []) seam nul_utf8 in
        let front : take (length (strip text)) text ≡ strip text =
        ap (take (length (strip text))) seam ∙ take_at (strip text) (0 ∷ []) (length (strip text)) refl in
        is_utf8-from_IsUtf8 (strip text) (subst IsUtf8 front (IsUtf8-take text (length (strip text)) (IsUtf8-from_is_utf8 text u) edge))
    go false e = rw (strip-none text e) u
