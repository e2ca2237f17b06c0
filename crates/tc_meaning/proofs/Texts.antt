-- The laws of texts.
use Rattle.std.proofs.Common.{◌≡◌, ℕ, ◌-◌, Bool, true, false, List, [], ◌∷◌, ◌++◌, length, take, get_or, Ok, cond, eqb, refl, sym, ap, subst, ◌∙◌, arith}
use Rattle.std.specs.Str.{is_utf8}
use Rattle.std.proofs.lemmas.List.{get_or_push, length_push, take_at, length-take}
use Rattle.nla_frames.specs.Fault.{read_as}
use Rattle.nla_frames.specs.declared.error.DecodeError.TheVariants.{NotUtf8}
use Rattle.nla_frames.specs.Value as plain_values
use Rattle.nla_frames.specs.Value.{IsBytes, ends_in_nul, strip, terminated}
use Rattle.nla_frames.specs.Codec.{Laws}
use Rattle.nla_frames.proofs.Bytes.{IsBytes-nil, IsBytes-cons, IsBytes-append, IsBytes-take}
use Rattle.tc_canon.specs.Canonical.{CanonClass, IsTerminated}
use Rattle.tc_canon.specs.Descriptor.{text, warning}
use Rattle.tc_meaning.specs.Content.{IsText, text_codec, warning_codec}
use Rattle.tc_meaning.proofs.Outcomes.{passed-ok}

-- a NUL at the end is taken off again
pub strip-terminated : (t : List ℕ) → strip (terminated t) ≡ t
unfolding strip
strip-terminated t =
    let last : length (t ++ 0 ∷ []) - 1 ≡ length t = omega (arith, length_push t 0) in
    let nul : get_or (t ++ 0 ∷ []) (length (t ++ 0 ∷ []) - 1) 1 ≡ 0 = get_or_push t 0 1 (length (t ++ 0 ∷ []) - 1) (sym last) in
    go (ends_in_nul (t ++ 0 ∷ [])) (ap (λ (n : ℕ). eqb n 0) nul) (take_at t (0 ∷ []) (length (t ++ 0 ∷ []) - 1) (sym last))
  where
    go : (b : Bool) → b ≡ true → take (length (t ++ 0 ∷ []) - 1) (t ++ 0 ∷ []) ≡ t → cond b (take (length (t ++ 0 ∷ []) - 1) (t ++ 0 ∷ [])) (t ++ 0 ∷ []) ≡ t
    go true e taken = taken
    go false e taken = absurd cc

-- without a NUL at its end a value stays
pub strip-none : (v : List ℕ) → ends_in_nul v ≡ false → strip v ≡ v
unfolding strip
strip-none v e = rw e refl

-- a value that stays has no NUL at its end
pub strip-same : (v : List ℕ) → strip v ≡ v → ends_in_nul v ≡ false
unfolding strip
strip-same [] e = refl
strip-same (b ∷ v) e = go (ends_in_nul (b ∷ v)) e
  where
    go : (t : Bool) → cond t (take (length (b ∷ v) - 1) (b ∷ v)) (b ∷ v) ≡ b ∷ v → t ≡ false
    go false e = refl
    go true e =
        let same = ap length e in
        let shorter = length-take (length (b ∷ v) - 1) (b ∷ v) in
        absurd (omega arith)

pub IsBytes-strip : (v : List ℕ) → IsBytes v → IsBytes (strip v)
unfolding strip
IsBytes-strip v w = go (ends_in_nul v)
  where
    go : (t : Bool) → IsBytes (cond t (take (length v - 1) v) v)
    go true = IsBytes-take (length v - 1) v w
    go false = w

-- a value whose text is UTF-8 is read, and no other
pub text-reads : (v : List ℕ) → is_utf8 (strip v) ≡ true → plain_values.text v ≡ Ok (strip v)
text-reads v e = rw e refl

pub text-ok : (v x : List ℕ) → plain_values.text v ≡ Ok x → (is_utf8 (strip v) ≡ true) × (strip v ≡ x)
text-ok v x e = passed-ok (is_utf8 (strip v)) NotUtf8 (strip v) x e

pub text_laws : Laws IsBytes text_codec (CanonClass text)
text_laws = record {
  makes = λ x t f. IsBytes-append x (0 ∷ []) t.is_bytes (IsBytes-cons 0 [] (omega arith) IsBytes-nil);
  typed = typed_text;
  back = λ k x t f. (λ e. tt, λ s. again x t.is_text);
  same = λ k v x w e f. (λ s. record { text = x; parts = sym s; is_text = let r = text-ok v x e in rw (← r.1) r.0 }, λ c. same v x e c);
  reads = λ k v w c. reads v c;
}
  where
    typed_text : (k v x : List ℕ) → IsBytes v → plain_values.text v ≡ Ok x → IsText x
    typed_text k v x w e =
        let r = text-ok v x e in
        subst IsText r.1 (record { is_bytes = IsBytes-strip v w; is_text = r.0 })

    again : (x : List ℕ) → is_utf8 x ≡ true → plain_values.text (terminated x) ≡ Ok x
    again x e = text-reads (terminated x) (ap is_utf8 (strip-terminated x) ∙ e) ∙ ap (λ (t : List ℕ). read_as t) (strip-terminated x)

    same : (v x : List ℕ) → plain_values.text v ≡ Ok x → IsTerminated v → terminated x ≡ v
    same v x e c =
        let r = text-ok v x e in
        let is : x ≡ c.text = sym r.1 ∙ ap strip c.parts ∙ strip-terminated c.text in
        ap terminated is ∙ sym c.parts

    reads : (v : List ℕ) → IsTerminated v → (x : List ℕ) × (plain_values.text v ≡ Ok x) × Unit {0}
    reads v c = (c.text, ap plain_values.text c.parts ∙ again c.text c.is_text, tt)

pub warning_laws : Laws IsBytes warning_codec (CanonClass warning)
warning_laws = record {
  makes = λ x t f. t.is_bytes;
  typed = typed_text;
  back = λ k x t f. (λ e. (text-ok x x e).1, λ s. again x t.is_text s);
  same = λ k v x w e f. (λ s. from v x e s, λ c. sym (text-ok v x e).1 ∙ strip-none v c.1);
  reads = λ k v w c. (v, again v c.0 (strip-none v c.1), tt);
}
  where
    typed_text : (k v x : List ℕ) → IsBytes v → plain_values.text v ≡ Ok x → IsText x
    typed_text k v x w e =
        let r = text-ok v x e in
        subst IsText r.1 (record { is_bytes = IsBytes-strip v w; is_text = r.0 })

    again : (x : List ℕ) → is_utf8 x ≡ true → strip x ≡ x → plain_values.text x ≡ Ok x
    again x e s = text-reads x (ap is_utf8 s ∙ e) ∙ ap (λ (t : List ℕ). read_as t) s

    from : (v x : List ℕ) → plain_values.text v ≡ Ok x → x ≡ v → (is_utf8 v ≡ true) × (ends_in_nul v ≡ false)
    from v x e s =
        let r = text-ok v x e in
        let same = r.1 ∙ s in
        (ap is_utf8 (sym same) ∙ r.0, strip-same v same)
