-- Values that are written and read again: as themselves, or with a number masked or one NUL less.
use Rattle.std.proofs.Common.{◌≡◌, ◌↔◌, ℕ, ◌%◌, ◌^◌, ◌<◌, ◌≤◌, Bool, true, false, not, List, [], ◌∷◌, length, Ok, ltb, refl, sym, ap, subst, ◌∙◌, arith}
use Rattle.std.proofs.Common.{pow_pos}
use Rattle.std.specs.List.{AllByRecursion}
use Rattle.std.proofs.lemmas.Bool.{lt-ltb, ltb-true}
use Rattle.nla_frames.specs.Fault.{seen, read_as}
use Rattle.nla_frames.specs.Value as plain_values
use Rattle.nla_frames.specs.Value.{IsBytes, le_bytes, le_number, strip, ends_in_nul}
use Rattle.nla_frames.specs.Codec.{Codec, Laws, IsWireValue, IsWireBytes}
use Rattle.tc_canon.specs.Canonical.{CanonClass}
use Rattle.tc_canon.specs.Descriptor.{masked, warning}
use Rattle.tc_meaning.specs.Tree.{Content, number, is_bytes, Attribute, attributes_of, list_of_attributes}
use Rattle.tc_meaning.specs.Content.{via, a_number, some_bytes, IsText}
use Rattle.tc_meaning.specs.Meaning.{a_list, short, IsShort, class_codec}
use Rattle.tc_laws.specs.Loose.{Part, masked_number, warning_text, is_loose_part}
use Rattle.tc_laws.specs.Norm.{on}
use Rattle.tc_meaning.proofs.Outcomes.{seen-ok, ok-seen}
use Rattle.tc_meaning.proofs.Trees.{attributes_again}
use Rattle.tc_meaning.proofs.Numbers.{masked_laws}
use Rattle.tc_meaning.proofs.Texts.{strip-none, strip-same, IsBytes-strip, text-reads}
use Rattle.tc_laws.proofs.TrailingNuls.{strip-shorter, utf8-strip}
use Rattle.tc_laws.proofs.TrimLaws.{IsWhole, mask-again}

abbrev pub IsSettledPart : Part → Type 0
IsSettledPart p = is_loose_part p ≡ false

-- what rewriting makes of the values of a codec
pub record RewriteLaws {W X : Type 0} (IsWire : W → Type 0) (size : W → ℕ) (c : Codec W X) (next : X → X) (parts : X → List Part) : Type 0 where
  -- what was read is settled exactly when no part of it is loose
  pub settled : (k : List ℕ) (w : W) (x : X) → IsWire w → c.read k w ≡ Ok x → c.Settled k x ↔ AllByRecursion IsSettledPart (parts x)
  -- what was read, and is written, is read as the next value
  pub again : (k : List ℕ) (w : W) (x : X) → IsWire w → c.read k w ≡ Ok x → c.Fits x → c.read k (c.write x) ≡ Ok (next x)
  -- the next value is typed, fits, and is no longer
  pub typed : (x : X) → c.Typed x → c.Typed (next x)
  pub fits : (x : X) → c.Fits x → c.Fits (next x)
  pub smaller : (x : X) → size (c.write (next x)) ≤ size (c.write x)
  -- it is written the same exactly when no NUL was taken off
  pub same : (x : X) → c.Typed x → c.Fits x → c.write (next x) ≡ c.write x → AllByRecursion IsWhole (parts x)
  pub whole : (x : X) → AllByRecursion IsWhole (parts x) → c.write (next x) ≡ c.write x

-- what is always read as something settled stays
pub still : (c : Codec (List ℕ) Content) (Canon : List ℕ → List ℕ → Type 0) → Laws IsWireValue (short c) Canon
    → ((k v : List ℕ) (x : Content) → c.read k v ≡ Ok x → c.Settled k x)
    → RewriteLaws IsWireValue length (short c) (λ x. x) (λ x. [])
still c Canon laws settled = record {
  settled = λ k v x w e. (λ s. tt, λ all. settled k v x e);
  again = λ k v x w e f. (laws.back k x (laws.typed k v x w e) f).1 (settled k v x e);
  typed = λ x t. t;
  fits = λ x f. f;
  smaller = λ x. omega arith;
  same = λ x t f s. tt;
  whole = λ x all. refl;
}

-- a number in its range
in_range : (bits x : ℕ) → (x < 2 ^ bits) ↔ (not (ltb x (2 ^ bits)) ≡ false)
in_range bits x = (λ below. rw (lt-ltb x (2 ^ bits) below) refl, λ e. go (ltb x (2 ^ bits)) refl e)
  where
    go : (b : Bool) → ltb x (2 ^ bits) ≡ b → not b ≡ false → x < 2 ^ bits
    go true h e = ltb-true x (2 ^ bits) h
    go false h e = absurd cc

pub mask-below : (bits x : ℕ) → x % 2 ^ bits < 2 ^ bits
mask-below bits x = let p : 0 < 2 ^ bits = pow_pos bits in omega arith

mask-less : (m bits x : ℕ) → x < m → x % 2 ^ bits < m
mask-less m bits x below = omega arith

pub next_masked : (n bits : ℕ) → Laws IsWireValue (short (class_codec (masked n bits))) (CanonClass (masked n bits))
    → RewriteLaws IsWireValue length (short (class_codec (masked n bits))) (on a_number (λ x. x % 2 ^ bits)) (λ x. masked_number bits (a_number.out x) ∷ [])
next_masked n bits laws = record {
  settled = λ k v x w e. let law = in_range bits (a_number.out x) in (λ s. (law.0 s, tt), λ all. law.1 all.0);
  again = λ k v x w e f. again k (a_number.out x) (laws.typed k v x w e).1;
  typed = λ x t. (refl, mask-less (256 ^ n) bits (a_number.out x) t.1);
  fits = λ x f. (tt, subst IsShort (sym (written (a_number.out x))) f.1);
  smaller = λ x. rw (written (a_number.out x)) (omega arith);
  same = λ x t f s. (tt, tt);
  whole = λ x all. written (a_number.out x);
}
  where
    written : (y : ℕ) → le_bytes n ((y % 2 ^ bits) % 2 ^ bits) ≡ le_bytes n (y % 2 ^ bits)
    written y = ap (le_bytes n) (mask-again bits y)

    again : (k : List ℕ) (y : ℕ) → y < 256 ^ n → seen number (le_number n (le_bytes n (y % 2 ^ bits))) ≡ Ok (number (y % 2 ^ bits))
    again k y t =
        let back = ((masked_laws n bits).back k (y % 2 ^ bits) (mask-less (256 ^ n) bits y t) tt).1 (mask-below bits y) in
        ok-seen number (le_number n (le_bytes n (y % 2 ^ bits))) (y % 2 ^ bits) (ap (le_number n) (sym (written y)) ∙ back)

pub next_warning : Laws IsWireValue (short (class_codec warning)) (CanonClass warning)
    → RewriteLaws IsWireValue length (short (class_codec warning)) (on some_bytes strip) (λ x. warning_text (some_bytes.out x) ∷ [])
next_warning laws = record {
  settled = λ k v x w e. (λ s. (strip-same (some_bytes.out x) s, tt), λ all. strip-none (some_bytes.out x) all.0);
  again = λ k v x w e f. again (some_bytes.out x) (laws.typed k v x w e).1;
  typed = λ x t. (refl, less (some_bytes.out x) t.1);
  fits = λ x f. (tt, omega (arith, strip-shorter (some_bytes.out x), f.1));
  smaller = λ x. strip-shorter (some_bytes.out x);
  same = λ x t f s. (strip-same (some_bytes.out x) s, tt);
  whole = λ x all. strip-none (some_bytes.out x) all.0;
}
  where
    again : (t : List ℕ) → IsText t → seen is_bytes (plain_values.text t) ≡ Ok (is_bytes (strip t))
    again t h = ok-seen is_bytes (plain_values.text t) (strip t) (text-reads t (utf8-strip t h.is_text))

    less : (t : List ℕ) → IsText t → IsText (strip t)
    less t h = record { is_bytes = IsBytes-strip t h.is_bytes; is_text = utf8-strip t h.is_text }

-- the length of a frame's value is a `usize`
pub counted : (v : List ℕ) → IsWireValue v → IsWireBytes v
counted v w = record { are_bytes = w.are_bytes; long = omega (arith, w.short) }

-- a list as a content
pub next_items : (c : Codec (List ℕ) (List Attribute)) (next : List Attribute → List Attribute) (parts : List Attribute → List Part)
    → RewriteLaws IsWireBytes length c next parts
    → RewriteLaws IsWireValue length (short (via a_list c)) (on a_list next) (λ x. parts (a_list.out x))
next_items c next parts r = record {
  settled = λ k v x w e. r.settled k v (a_list.out x) (counted v w) (read_out k v x e);
  again = λ k v x w e f. ok-seen a_list.into (c.read k (c.write (a_list.out x))) (next (a_list.out x))
      (r.again k v (a_list.out x) (counted v w) (read_out k v x e) f.0);
  typed = λ x t. (
    ap (λ (xs : List Attribute). a_list.into xs) (again (next (a_list.out x))),
    subst c.Typed (sym (again (next (a_list.out x)))) (r.typed (a_list.out x) t.1),
  );
  fits = λ x f. (subst c.Fits (sym (again (next (a_list.out x)))) (r.fits (a_list.out x) f.0), short_next x f.1);
  smaller = λ x. rw (again (next (a_list.out x))) (r.smaller (a_list.out x));
  same = λ x t f s. r.same (a_list.out x) t.1 f.0 (ap c.write (sym (again (next (a_list.out x)))) ∙ s);
  whole = λ x all. ap c.write (again (next (a_list.out x))) ∙ r.whole (a_list.out x) all;
}
  where
    again : (xs : List Attribute) → list_of_attributes (attributes_of xs) ≡ xs
    again = attributes_again

    read_out : (k v : List ℕ) (x : Content) → seen a_list.into (c.read k v) ≡ Ok x → c.read k v ≡ Ok (a_list.out x)
    read_out k v x e =
        let q = seen-ok a_list.into (c.read k v) x e in
        let same : a_list.out x ≡ q.0 = ap a_list.out (sym q.2) ∙ again q.0 in
        q.1 ∙ ap (λ (y : List Attribute). read_as y) (sym same)

    short_next : (x : Content) → IsShort (c.write (a_list.out x)) → IsShort (c.write (a_list.out (a_list.into (next (a_list.out x)))))
    short_next x f = let less = r.smaller (a_list.out x) in rw (again (next (a_list.out x))) (omega (arith, less, f))
