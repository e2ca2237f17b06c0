-- The laws of numbers, bytes and flags.
use Rattle.std.proofs.Common.{◌≡◌, ◌⊎◌, ℕ, ◌%◌, ◌^◌, ◌<◌, ◌≤◌, Bool, true, false, not, List, [], ◌∷◌, length, reverse, get_or, Ok, cond, eqb, refl, sym, ap}
use Rattle.std.proofs.Common.{◌∙◌, arith, inl, inr, mod-eq_of_lt, pow_pos}
use Rattle.std.proofs.lemmas.Bool.{eqb-true, eq-eqb, cases_lt}
use Rattle.std.proofs.lemmas.List.{reverse-reverse, length-reverse, get_or-reverse, get_or_past}
use Rattle.std.specs.Prelude.{◌==◌}
use Rattle.nla_frames.specs.Fault.{Outcome, seen, read_as, refused}
use Rattle.nla_frames.specs.declared.error.DecodeError.TheVariants.{WrongLength}
use Rattle.nla_frames.specs.Value.{IsBytes, le_bytes, le_value, le_number, be_bytes, be_value, be_number}
use Rattle.nla_frames.specs.Codec.{Laws}
use Rattle.nla_frames.proofs.Bytes.{IsBytes-nil, IsBytes-cons, IsBytes-le_bytes, length-le_bytes, le_value-le_bytes, le_value_below, le_bytes-le_value}
use Rattle.tc_canon.specs.Canonical.{CanonClass}
use Rattle.tc_canon.specs.Descriptor.{le, be, masked, array, raw, presence, truth}
use Rattle.tc_meaning.specs.Content.{le_codec, be_codec, masked_codec, array_codec, raw_codec, presence_codec, truth_codec}
use Rattle.tc_meaning.proofs.Outcomes.{passed-ok}

-- bytes from the last to the first
pub IsBytes-reverse : (bytes : List ℕ) → IsBytes bytes → IsBytes (reverse bytes)
IsBytes-reverse bytes h = record { each = λ i. go i (cases_lt i (length bytes)) }
  where
    go : (i : ℕ) → (i < length bytes) ⊎ (length bytes ≤ i) → get_or (reverse bytes) i 0 < 256
    go i (inl inside) = rw (get_or-reverse bytes i 0 inside) (h.each _)
    go i (inr past) = rw (get_or_past (reverse bytes) i 0 (rw length-reverse past)) (omega arith)

-- a value of the right length is read, whatever of it
pub exact : {X : Type 0} (n : ℕ) (v : List ℕ) (x : X) → length v ≡ n → cond (eqb (length v) n) (read_as x) (refused (WrongLength n (length v))) ≡ read_as x
exact n v x e = rw (eq-eqb (length v) n e) refl

-- what was read has the right length
pub exact-length : {X : Type 0} (n : ℕ) (v : List ℕ) (y x : X) → cond (eqb (length v) n) (read_as y) (refused (WrongLength n (length v))) ≡ read_as x
    → (length v ≡ n) × (y ≡ x)
exact-length n v y x e = let r = passed-ok (eqb (length v) n) (WrongLength n (length v)) y x e in (eqb-true (length v) n r.0, r.1)

-- a number that a value of a width makes
value_below : (n : ℕ) (v : List ℕ) → length v ≡ n → IsBytes v → le_value v < 256 ^ n
value_below n v e h = rw e at (le_value_below v h)

pub le_laws : (n : ℕ) → Laws IsBytes (le_codec n) (CanonClass (le n))
le_laws n = record {
  makes = λ x t f. IsBytes-le_bytes n x;
  typed = λ k v x w e. let r = exact-length n v (le_value v) x e in rw (← r.1) (value_below n v r.0 w);
  back = λ k x t f. (λ e. tt, λ s. back x t);
  same = λ k v x w e f. let r = exact-length n v (le_value v) x e in (λ s. r.0, λ c. rw (← r.1) (le_bytes-le_value n v r.0 w));
  reads = λ k v w c. (le_value v, exact n v (le_value v) c, tt);
}
  where
    back : (x : ℕ) → x < 256 ^ n → le_number n (le_bytes n x) ≡ Ok x
    back x t = exact n (le_bytes n x) (le_value (le_bytes n x)) (length-le_bytes n x) ∙ ap (λ (y : ℕ). read_as y) (le_value-le_bytes n x t)

pub be_laws : (n : ℕ) → Laws IsBytes (be_codec n) (CanonClass (be n))
be_laws n = record {
  makes = λ x t f. IsBytes-reverse (le_bytes n x) (IsBytes-le_bytes n x);
  typed = λ k v x w e. let r = exact-length n v (be_value v) x e in rw (← r.1) (value_below n (reverse v) (length-reverse v ∙ r.0) (IsBytes-reverse v w));
  back = λ k x t f. (λ e. tt, λ s. back x t);
  same = λ k v x w e f. let r = exact-length n v (be_value v) x e in (λ s. r.0, λ c. same v x w r.0 r.1);
  reads = λ k v w c. (be_value v, exact n v (be_value v) c, tt);
}
  where
    back : (x : ℕ) → x < 256 ^ n → be_number n (be_bytes n x) ≡ Ok x
    back x t =
        exact n (be_bytes n x) (be_value (be_bytes n x)) (length-reverse (le_bytes n x) ∙ length-le_bytes n x)
        ∙ ap (λ (y : ℕ). read_as y) (ap le_value (reverse-reverse (le_bytes n x)) ∙ le_value-le_bytes n x t)

    same : (v : List ℕ) (x : ℕ) → IsBytes v → length v ≡ n → be_value v ≡ x → be_bytes n x ≡ v
    same v x w len is =
        ap (be_bytes n) (sym is) ∙ ap reverse (le_bytes-le_value n (reverse v) (length-reverse v ∙ len) (IsBytes-reverse v w)) ∙ reverse-reverse v

-- a number below a power stays whole under its mask, and no other does
mask_below : (bits x : ℕ) → x % 2 ^ bits ≡ x → x < 2 ^ bits
mask_below bits x e = let p : 0 < 2 ^ bits = pow_pos bits in omega arith

mask_whole : (bits x : ℕ) → x < 2 ^ bits → x % 2 ^ bits ≡ x
mask_whole bits x below = mod-eq_of_lt below

mask_less : (m bits x : ℕ) → x < m → x % 2 ^ bits < m
mask_less m bits x below = omega arith

pub masked_laws : (n bits : ℕ) → Laws IsBytes (masked_codec n bits) (CanonClass (masked n bits))
masked_laws n bits = record {
  makes = λ x t f. IsBytes-le_bytes n (x % 2 ^ bits);
  typed = λ k v x w e. let r = exact-length n v (le_value v) x e in rw (← r.1) (value_below n v r.0 w);
  back = λ k x t f. (back_from x t, back_to x t);
  same = λ k v x w e f. let r = exact-length n v (le_value v) x e in (same_from v x w r.0 r.1, same_to v x w r.1);
  reads = λ k v w c. (le_value v, exact n v (le_value v) c.0, tt);
}
  where
    low : ℕ → List ℕ
    low x = le_bytes n (x % 2 ^ bits)

    value : (x : ℕ) → x < 256 ^ n → le_value (low x) ≡ x % 2 ^ bits
    value x t = le_value-le_bytes n (x % 2 ^ bits) (mask_less (256 ^ n) bits x t)

    back_from : (x : ℕ) → x < 256 ^ n → le_number n (low x) ≡ Ok x → x < 2 ^ bits
    back_from x t e = mask_below bits x (sym (value x t) ∙ (exact-length n (low x) (le_value (low x)) x e).1)

    back_to : (x : ℕ) → x < 256 ^ n → x < 2 ^ bits → le_number n (low x) ≡ Ok x
    back_to x t s =
        exact n (low x) (le_value (low x)) (length-le_bytes n (x % 2 ^ bits)) ∙ ap (λ (y : ℕ). read_as y) (value x t ∙ mask_whole bits x s)

    same_from : (v : List ℕ) (x : ℕ) → IsBytes v → length v ≡ n → le_value v ≡ x → low x ≡ v → (length v ≡ n) × (le_value v < 2 ^ bits)
    same_from v x w len is s =
        let small : x < 256 ^ n = rw (← is) (value_below n v len w) in
        (len, rw is (mask_below bits x (sym (value x small) ∙ ap le_value s ∙ is)))

    same_to : (v : List ℕ) (x : ℕ) → IsBytes v → le_value v ≡ x → (length v ≡ n) × (le_value v < 2 ^ bits) → low x ≡ v
    same_to v x w is c = ap low (sym is) ∙ ap (le_bytes n) (mask_whole bits (le_value v) c.1) ∙ le_bytes-le_value n v c.0 w

pub array_laws : (n : ℕ) → Laws IsBytes (array_codec n) (CanonClass (array n))
array_laws n = record {
  makes = λ x t f. t.1;
  typed = λ k v x w e. let r = exact-length n v v x e in rw (← r.1) (r.0, w);
  back = λ k x t f. (λ e. tt, λ s. exact n x x t.0);
  same = λ k v x w e f. let r = exact-length n v v x e in (λ s. r.0, λ c. sym r.1);
  reads = λ k v w c. (v, exact n v v c, tt);
}

pub raw_laws : Laws IsBytes raw_codec (CanonClass raw)
raw_laws = record {
  makes = λ x t f. t;
  typed = λ k v x w e. let same : v ≡ x = cc in rw (← same) w;
  back = λ k x t f. (λ e. tt, λ s. refl);
  same = λ k v x w e f. (λ s. tt, λ c. let same : v ≡ x = cc in sym same);
  reads = λ k v w c. (v, refl, tt);
}

pub presence_laws : Laws IsBytes presence_codec (CanonClass presence)
presence_laws = record {
  makes = λ x t f. IsBytes-nil;
  typed = λ k v x w e. tt;
  back = λ k x t f. (λ e. let is : true ≡ x = cc in sym is, λ s. ap (λ (b : Bool). read_as b) (sym s));
  same = λ k v x w e f. (λ s. sym s, λ c. sym c);
  reads = λ k v w c. (true, refl, tt);
}

pub truth_laws : Laws IsBytes truth_codec (CanonClass truth)
truth_laws = record {
  makes = λ x t f. IsBytes-cons (cond x 1 0) [] (below x) IsBytes-nil;
  typed = λ k v x w e. tt;
  back = λ k x t f. (λ e. tt, λ s. back x);
  same = λ k v x w e f. (λ s. from x v s, to v x e);
  reads = λ k v w c. reads v c;
}
  where
    below : (x : Bool) → cond x 1 0 < 256
    below true = omega arith
    below false = omega arith

    read : List ℕ → Outcome Bool
    read v = seen (λ x. not (x == 0)) (le_number 1 v)

    back : (x : Bool) → seen (λ x. not (x == 0)) (le_number 1 (cond x 1 0 ∷ [])) ≡ Ok x
    back true = refl
    back false = refl

    from : (x : Bool) (v : List ℕ) → cond x 1 0 ∷ [] ≡ v → (v ≡ 0 ∷ []) ⊎ (v ≡ 1 ∷ [])
    from true v s = inr (sym s)
    from false v s = inl (sym s)

    -- a byte is read as one truth value
    value : (v : List ℕ) (x y : Bool) → seen (λ x. not (x == 0)) (le_number 1 v) ≡ Ok x → seen (λ x. not (x == 0)) (le_number 1 v) ≡ Ok y → x ≡ y
    value v x y e d = cc

    to : (v : List ℕ) (x : Bool) → seen (λ x. not (x == 0)) (le_number 1 v) ≡ Ok x → (v ≡ 0 ∷ []) ⊎ (v ≡ 1 ∷ []) → cond x 1 0 ∷ [] ≡ v
    to v x e (inl c) = let zero_read : seen (λ x. not (x == 0)) (le_number 1 v) ≡ Ok false = ap read c in rw (value v x false e zero_read) (sym c)
    to v x e (inr c) = let one_read : seen (λ x. not (x == 0)) (le_number 1 v) ≡ Ok true = ap read c in rw (value v x true e one_read) (sym c)

    reads : (v : List ℕ) → (v ≡ 0 ∷ []) ⊎ (v ≡ 1 ∷ []) → (x : Bool) × (seen (λ x. not (x == 0)) (le_number 1 v) ≡ Ok x) × Unit {0}
    reads v (inl c) = (false, ap read c, tt)
    reads v (inr c) = (true, ap read c, tt)
