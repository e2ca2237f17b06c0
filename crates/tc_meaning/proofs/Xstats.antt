-- The laws of statistics by kind.
use Rattle.std.proofs.Common.{◌≡◌, ◌⊎◌, ◌↔◌, ℕ, zero, suc, ◌^◌, ◌<◌, ◌≤◌, Bool, true, false, List, [], ◌++◌, length, take, drop, Ok, refl, sym, ap, ap₂, subst}
use Rattle.std.proofs.Common.{◌∙◌, arith, ltb, cond, inl, inr}
use Rattle.std.specs.Prelude.{MatchBool}
use Rattle.std.proofs.lemmas.List.{length-append, length-take-le, take_at, drop_at, take-append-drop}
use Rattle.std.proofs.lemmas.Bool.{ltb-false, le-ltb}
use Rattle.nla_frames.specs.Fault.{Outcome, read_as, refused}
use Rattle.nla_frames.specs.declared.error.DecodeError.TheVariants.{XstatsShort}
use Rattle.nla_frames.specs.Value.{IsBytes, le_bytes, le_value}
use Rattle.nla_frames.specs.Codec.{Laws}
use Rattle.nla_frames.proofs.Bytes.{IsBytes-append, IsBytes-take, IsBytes-drop, IsBytes-le_bytes, length-le_bytes, le_value-le_bytes, le_bytes-le_value}
use Rattle.tc_canon.specs.Descriptor.{Field, xstats}
use Rattle.tc_canon.specs.Canonical.{CanonClass, CanonFields, CanonFqCodel}
use Rattle.tc_canon.specs.Layouts.{fq_codel_qd_stats, fq_codel_cl_stats}
use Rattle.tc_meaning.specs.Tree.{Scalar, Content, is_bytes, statistics, unknown_statistics}
use Rattle.tc_meaning.specs.Layout.{fields_bytes, TypedFields}
use Rattle.tc_meaning.specs.Content.{read_record, is_fq_codel, read_statistics, xstats_codec}
use Rattle.tc_meaning.proofs.Outcomes.{seen-ok, ok-seen, kept-ok, ok-same}
use Rattle.tc_meaning.proofs.Fields.{IsBytes-fields_bytes, fields_laws}
use Rattle.tc_meaning.proofs.Selectors.{has_no_names, settled-fields}

-- ---- a number and the record that it names

module _ (n : ℕ) (small : n < 256 ^ 4) (layout : List Field) (none : has_no_names layout ≡ true) where
  -- they begin with the number
  numbered-front : (xs : List Scalar) → take 4 (le_bytes 4 n ++ fields_bytes layout xs) ≡ le_bytes 4 n
  numbered-front xs = take_at (le_bytes 4 n) (fields_bytes layout xs) 4 (length-le_bytes 4 n)

  numbered-rest : (xs : List Scalar) → drop 4 (le_bytes 4 n ++ fields_bytes layout xs) ≡ fields_bytes layout xs
  numbered-rest xs = drop_at (le_bytes 4 n) (fields_bytes layout xs) 4 (length-le_bytes 4 n)

  numbered-value : (xs : List Scalar) → le_value (take 4 (le_bytes 4 n ++ fields_bytes layout xs)) ≡ n
  numbered-value xs = ap le_value (numbered-front xs) ∙ le_value-le_bytes 4 n small

  numbered-long : (xs : List Scalar) → 4 ≤ length (le_bytes 4 n ++ fields_bytes layout xs)
  numbered-long xs = rw length-append (omega (arith, length-le_bytes 4 n))

  IsBytes-numbered : (xs : List Scalar) → TypedFields layout xs → IsBytes (le_bytes 4 n ++ fields_bytes layout xs)
  IsBytes-numbered xs t = IsBytes-append (le_bytes 4 n) (fields_bytes layout xs) (IsBytes-le_bytes 4 n) (IsBytes-fields_bytes layout xs t)

  -- the record after the number reads back
  numbered-back : (xs : List Scalar) → TypedFields layout xs → read_record layout (drop 4 (le_bytes 4 n ++ fields_bytes layout xs)) ≡ Ok xs
  numbered-back xs t = ap (read_record layout) (numbered-rest xs) ∙ ((fields_laws layout).back [] xs t tt).1 (settled-fields layout xs none)

  -- and is written as it was exactly when it was canonical
  numbered-same : (v : List ℕ) (xs : List Scalar) → IsBytes v → 4 ≤ length v → le_value (take 4 v) ≡ n → read_record layout (drop 4 v) ≡ Ok xs
      → (le_bytes 4 n ++ fields_bytes layout xs ≡ v) ↔ CanonFields layout (drop 4 v)
  numbered-same v xs w long is e = (from, to)
    where
      law : (fields_bytes layout xs ≡ drop 4 v) ↔ CanonFields layout (drop 4 v)
      law = (fields_laws layout).same [] (drop 4 v) xs (IsBytes-drop 4 v w) e tt

      from : le_bytes 4 n ++ fields_bytes layout xs ≡ v → CanonFields layout (drop 4 v)
      from s = law.0 (sym (numbered-rest xs) ∙ ap (drop 4) s)

      to : CanonFields layout (drop 4 v) → le_bytes 4 n ++ fields_bytes layout xs ≡ v
      to c =
          let front : le_bytes 4 n ≡ take 4 v = ap (le_bytes 4) (sym is) ∙ le_bytes-le_value 4 (take 4 v) (length-take-le 4 v long) (IsBytes-take 4 v w) in
          ap₂ (λ (a b : List ℕ). a ++ b) front (law.1 c) ∙ take-append-drop 4 v

-- ---- fq_codel's

-- what statistics of fq_codel are read as
abbrev IsFq : List ℕ → Content → Type 0
IsFq v (statistics zero xs) = (le_value (take 4 v) ≡ 0) × (read_record fq_codel_qd_stats (drop 4 v) ≡ Ok xs)
IsFq v (statistics (suc zero) xs) = (le_value (take 4 v) ≡ 1) × (read_record fq_codel_cl_stats (drop 4 v) ≡ Ok xs)
IsFq v (unknown_statistics u) = (2 ≤ le_value (take 4 v)) × (u ≡ v)
IsFq v _ = ⊥

read_fq : List ℕ → Outcome Content
read_fq v = cond (ltb (length v) 4) (refused (XstatsShort (length v))) (read_statistics (le_value (take 4 v)) (drop 4 v) v)

statistics-ok : (v : List ℕ) (n : ℕ) (x : Content) → le_value (take 4 v) ≡ n → read_statistics n (drop 4 v) v ≡ Ok x → IsFq v x
statistics-ok v zero x is e =
    let r = seen-ok (statistics 0) (read_record fq_codel_qd_stats (drop 4 v)) x e in
    subst (IsFq v) r.2 (is, r.1)
statistics-ok v (suc zero) x is e =
    let r = seen-ok (statistics 1) (read_record fq_codel_cl_stats (drop 4 v)) x e in
    subst (IsFq v) r.2 (is, r.1)
statistics-ok v (suc (suc n)) x is e = subst (IsFq v) (ok-same (unknown_statistics v) x e) (rw is (omega arith), refl)

any-statistics : (v : List ℕ) (n : ℕ) → 2 ≤ n → read_statistics n (drop 4 v) v ≡ Ok (unknown_statistics v)
any-statistics v zero more = absurd (omega arith)
any-statistics v (suc zero) more = absurd (omega arith)
any-statistics v (suc (suc n)) more = refl

statistics-is : (v : List ℕ) (x : Content) → IsFq v x → read_statistics (le_value (take 4 v)) (drop 4 v) v ≡ Ok x
statistics-is v (statistics zero xs) is =
    ap (λ (n : ℕ). read_statistics n (drop 4 v) v) is.0 ∙ ok-seen (statistics 0) (read_record fq_codel_qd_stats (drop 4 v)) xs is.1
statistics-is v (statistics (suc zero) xs) is =
    ap (λ (n : ℕ). read_statistics n (drop 4 v) v) is.0 ∙ ok-seen (statistics 1) (read_record fq_codel_cl_stats (drop 4 v)) xs is.1
statistics-is v (unknown_statistics u) is = any-statistics v (le_value (take 4 v)) is.0 ∙ ap (λ (t : List ℕ). read_as (unknown_statistics t)) (sym is.1)
statistics-is v _ is = elim is [ ]

fq-ok : (v : List ℕ) (x : Content) → read_fq v ≡ Ok x → (4 ≤ length v) × IsFq v x
unfolding read_fq
fq-ok v x e =
    let r = kept-ok (ltb (length v) 4) (XstatsShort (length v)) (read_statistics (le_value (take 4 v)) (drop 4 v) v) x e in
    (ltb-false (length v) 4 r.0, statistics-ok v (le_value (take 4 v)) x refl r.1)

fq-is : (v : List ℕ) (x : Content) → 4 ≤ length v → IsFq v x → read_fq v ≡ Ok x
unfolding read_fq
fq-is v x long is = rw (le-ltb (length v) 4 long) (statistics-is v x is)

-- the number in front of canonical statistics
number_cases : (n : ℕ) → (n ≡ 0) ⊎ ((n ≡ 1) ⊎ (2 ≤ n))
number_cases zero = inl refl
number_cases (suc zero) = inr (inl refl)
number_cases (suc (suc n)) = inr (inr (omega arith))

qd_small : 0 < 256 ^ 4
qd_small = omega arith

cl_small : 1 < 256 ^ 4
cl_small = omega arith

-- the laws of reading under fq_codel and under another kind, for each content
fq-typed : (v : List ℕ) (x : Content) → IsBytes v → IsFq v x → xstats_codec.Typed x
fq-typed v (statistics zero xs) w is = (fields_laws fq_codel_qd_stats).typed [] (drop 4 v) xs (IsBytes-drop 4 v w) is.1
fq-typed v (statistics (suc zero) xs) w is = (fields_laws fq_codel_cl_stats).typed [] (drop 4 v) xs (IsBytes-drop 4 v w) is.1
fq-typed v (unknown_statistics u) w is = rw is.1 w
fq-typed v _ w is = elim is [ ]

fq-same : (v : List ℕ) (x : Content) → IsBytes v → 4 ≤ length v → IsFq v x → (xstats_codec.write x ≡ v) ↔ CanonFqCodel v
fq-same v (statistics zero xs) w long is = (from, to)
  where
    law : (xstats_codec.write (statistics zero xs) ≡ v) ↔ CanonFields fq_codel_qd_stats (drop 4 v)
    law = numbered-same 0 qd_small fq_codel_qd_stats refl v xs w long is.0 is.1

    from : xstats_codec.write (statistics zero xs) ≡ v → CanonFqCodel v
    from s = record { long = long; qdisc = λ z. law.0 s; class = λ o. absurd (omega (arith, is.0, o)) }

    to : CanonFqCodel v → xstats_codec.write (statistics zero xs) ≡ v
    to c = law.1 (c.qdisc is.0)
fq-same v (statistics (suc zero) xs) w long is = (from, to)
  where
    law : (xstats_codec.write (statistics (suc zero) xs) ≡ v) ↔ CanonFields fq_codel_cl_stats (drop 4 v)
    law = numbered-same 1 cl_small fq_codel_cl_stats refl v xs w long is.0 is.1

    from : xstats_codec.write (statistics (suc zero) xs) ≡ v → CanonFqCodel v
    from s = record { long = long; qdisc = λ z. absurd (omega (arith, is.0, z)); class = λ o. law.0 s }

    to : CanonFqCodel v → xstats_codec.write (statistics (suc zero) xs) ≡ v
    to c = law.1 (c.class is.0)
fq-same v (unknown_statistics u) w long is =
    (λ s. record { long = long; qdisc = λ z. absurd (omega (arith, is.0, z)); class = λ o. absurd (omega (arith, is.0, o)) }, λ c. is.1)
fq-same v _ w long is = elim is [ ]

fq-back : (k : List ℕ) → is_fq_codel k ≡ true → (x : Content) → xstats_codec.Typed x → (read_fq (xstats_codec.write x) ≡ Ok x) ↔ xstats_codec.Settled k x
fq-back k fq (statistics zero xs) t = (
  λ e. fq,
  λ s. fq-is _ (statistics zero xs) (numbered-long 0 qd_small fq_codel_qd_stats refl xs)
      (numbered-value 0 qd_small fq_codel_qd_stats refl xs, numbered-back 0 qd_small fq_codel_qd_stats refl xs t),
)
fq-back k fq (statistics (suc zero) xs) t = (
  λ e. fq,
  λ s. fq-is _ (statistics (suc zero) xs) (numbered-long 1 cl_small fq_codel_cl_stats refl xs)
      (numbered-value 1 cl_small fq_codel_cl_stats refl xs, numbered-back 1 cl_small fq_codel_cl_stats refl xs t),
)
fq-back k fq (unknown_statistics u) t = (λ e. let r = fq-ok u (unknown_statistics u) e in (fq, r.0, r.1.0), λ s. fq-is u (unknown_statistics u) s.1 (s.2, refl))
fq-back k fq (is_bytes u) t = (λ e. elim (fq-ok u (is_bytes u) e).1 [ ], λ s. absurd cc)
fq-back k fq x t = elim t [ ]

-- the same under another kind
other-back : (k : List ℕ) → is_fq_codel k ≡ false → (x : Content) → xstats_codec.Typed x
    → (read_as (is_bytes (xstats_codec.write x)) ≡ read_as x) ↔ xstats_codec.Settled k x
other-back k not_fq (statistics zero xs) t = (λ e. absurd cc, λ s. absurd cc)
other-back k not_fq (statistics (suc zero) xs) t = (λ e. absurd cc, λ s. absurd cc)
other-back k not_fq (unknown_statistics u) t = (λ e. absurd cc, λ s. let f = s.0 in absurd cc)
other-back k not_fq (is_bytes u) t = (λ e. not_fq, λ s. refl)
other-back k not_fq x t = elim t [ ]

fq-reads : (v : List ℕ) → IsBytes v → CanonFqCodel v → (x : Content) × (read_fq v ≡ Ok x) × Unit {0}
fq-reads v w c = go (number_cases (le_value (take 4 v)))
  where
    go : (le_value (take 4 v) ≡ 0) ⊎ ((le_value (take 4 v) ≡ 1) ⊎ (2 ≤ le_value (take 4 v))) → (x : Content) × (read_fq v ≡ Ok x) × Unit {0}
    go (inl z) =
        let r = (fields_laws fq_codel_qd_stats).reads [] (drop 4 v) (IsBytes-drop 4 v w) (c.qdisc z) in
        (statistics 0 r.0, fq-is v (statistics 0 r.0) c.long (z, r.1), tt)
    go (inr (inl o)) =
        let r = (fields_laws fq_codel_cl_stats).reads [] (drop 4 v) (IsBytes-drop 4 v w) (c.class o) in
        (statistics 1 r.0, fq-is v (statistics 1 r.0) c.long (o, r.1), tt)
    go (inr (inr more)) = (unknown_statistics v, fq-is v (unknown_statistics v) c.long (more, refl), tt)

-- ---- under any kind

-- the reading, if it is known whether the kind is fq_codel
by_test : Bool → List ℕ → Outcome Content
by_test b v = cond b (read_fq v) (read_as (is_bytes v))

IsBytes-xstats : (x : Content) → xstats_codec.Typed x → IsBytes (xstats_codec.write x)
IsBytes-xstats (statistics zero xs) t = IsBytes-numbered 0 qd_small fq_codel_qd_stats refl xs t
IsBytes-xstats (statistics (suc zero) xs) t = IsBytes-numbered 1 cl_small fq_codel_cl_stats refl xs t
IsBytes-xstats (unknown_statistics u) t = t
IsBytes-xstats (is_bytes u) t = t
IsBytes-xstats x t = elim t [ ]

typed-by : (b : Bool) (v : List ℕ) (x : Content) → IsBytes v → by_test b v ≡ Ok x → xstats_codec.Typed x
unfolding by_test
typed-by true v x w e = fq-typed v x w (fq-ok v x e).1
typed-by false v x w e = subst xstats_codec.Typed (ok-same (is_bytes v) x e) w

back-by : (b : Bool) (k : List ℕ) → is_fq_codel k ≡ b → (x : Content) → xstats_codec.Typed x
    → (by_test b (xstats_codec.write x) ≡ Ok x) ↔ xstats_codec.Settled k x
unfolding by_test
back-by true k is x t = fq-back k is x t
back-by false k is x t = other-back k is x t

same-by : (b : Bool) (v : List ℕ) (x : Content) → IsBytes v → by_test b v ≡ Ok x → (xstats_codec.write x ≡ v) ↔ MatchBool b (CanonFqCodel v) (Unit {0})
unfolding by_test
same-by true v x w e = let r = fq-ok v x e in fq-same v x w r.0 r.1
same-by false v x w e = (λ s. tt, λ c. ap xstats_codec.write (sym (ok-same (is_bytes v) x e)))

reads-by : (b : Bool) (v : List ℕ) → IsBytes v → MatchBool b (CanonFqCodel v) (Unit {0}) → (x : Content) × (by_test b v ≡ Ok x) × Unit {0}
unfolding by_test
reads-by true v w c = fq-reads v w c
reads-by false v w c = (is_bytes v, refl, tt)

pub xstats_laws : Laws IsBytes xstats_codec (CanonClass xstats)
unfolding by_test read_fq
xstats_laws = record {
  makes = λ x t f. IsBytes-xstats x t;
  typed = λ k v x w e. typed-by (is_fq_codel k) v x w e;
  back = λ k x t f. back-by (is_fq_codel k) k refl x t;
  same = λ k v x w e f. same-by (is_fq_codel k) v x w e;
  reads = λ k v w c. reads-by (is_fq_codel k) v w c;
}
