-- The laws of a table by the kind in force.
use Rattle.std.proofs.Common.{◌≡◌, ◌↔◌, ℕ, Bool, true, false, List, Ok, refl, sym, ap, subst, ◌∙◌, cond}
use Rattle.std.specs.Prelude.{MatchBool}
use Rattle.std.specs.Str.{bytes_eq}
use Rattle.std.proofs.lemmas.Slice.Eq.{bytes_eq-Decides}
use Rattle.nla_frames.specs.Fault.{Outcome, seen, read_as}
use Rattle.nla_frames.specs.Frame.{Frame, IsWireFrame}
use Rattle.nla_frames.specs.CanonList.{IsCanonAt}
use Rattle.nla_frames.specs.Codec.{Codec, Laws}
use Rattle.tc_meaning.specs.Tree.{Attribute, known, kept, other, of_kind}
use Rattle.tc_meaning.specs.Meaning.{raw_frames, kind_frames, raw_frame}
use Rattle.tc_meaning.proofs.Outcomes.{seen-ok, ok-seen, ok-same}

-- texts that the test finds equal
pub bytes_eq-is : (a b : List ℕ) → bytes_eq a b ≡ true → a ≡ b
bytes_eq-is a b e = (bytes_eq-Decides a b).0 e

pub bytes_eq-refl : (a : List ℕ) → bytes_eq a a ≡ true
bytes_eq-refl a = (bytes_eq-Decides a a).1 refl

-- the laws of a table by kind: an attribute of a kind is read under that kind alone
pub record KindLaws (c : Codec Frame Attribute) (Canon : IsCanonAt) : Type 0 where
  pub laws : Laws IsWireFrame c Canon
  pub reads_kind : (k : List ℕ) (f : Frame) (m : List ℕ) (x : Attribute) → c.read k f ≡ Ok (of_kind m x) → k ≡ m
  pub settled_kind : (k m : List ℕ) (x : Attribute) → c.Typed (of_kind m x) → c.Settled k (of_kind m x) → k ≡ m

-- no kind is known
pub unknown_kind : (Canon : IsCanonAt) → ((k : List ℕ) (f : Frame) → Canon k f) → KindLaws raw_frames Canon
unknown_kind Canon all = record {
  laws = record { makes = makes_raw; typed = typed_raw; back = back_raw; same = same_raw; reads = λ k f w c. (other f.word f.value, refl, w.frame.value) };
  reads_kind = λ k f m x e. absurd cc;
  settled_kind = λ k m x t s. elim t [ ];
}
  where
    makes_raw : (x : Attribute) → raw_frames.Typed x → raw_frames.Fits x → IsWireFrame (raw_frame x)
    makes_raw (other word value) t f = record { frame = record { word = t.0; value = f }; bytes = t.1 }
    makes_raw x t f = elim t [ ]

    typed_raw : (k : List ℕ) (f : Frame) (x : Attribute) → IsWireFrame f → read_as (other f.word f.value) ≡ Ok x → raw_frames.Typed x
    typed_raw k f x w e = subst raw_frames.Typed (ok-same (other f.word f.value) x e) (w.frame.word, w.bytes)

    back_raw : (k : List ℕ) (x : Attribute) → raw_frames.Typed x → raw_frames.Fits x
        → (read_as (other (raw_frame x).word (raw_frame x).value) ≡ Ok x) ↔ Unit {0}
    back_raw k (other word value) t f = (λ e. tt, λ s. refl)
    back_raw k x t f = elim t [ ]

    same_raw : (k : List ℕ) (f : Frame) (x : Attribute) → IsWireFrame f → read_as (other f.word f.value) ≡ Ok x → raw_frames.Fits x
        → (raw_frame x ≡ f) ↔ Canon k f
    same_raw k f x w e fits = (λ s. all k f, λ c. ap raw_frame (sym (ok-same (other f.word f.value) x e)))

-- a kind before the others
module _ (name : List ℕ) (own rest : Codec Frame Attribute) (CanonOwn CanonRest : IsCanonAt) (own_laws : Laws IsWireFrame own CanonOwn)
    (rest_laws : KindLaws rest CanonRest) where
  -- of another kind, or of none
  abbrev IsElsewhere : Attribute → Type 0
  IsElsewhere (of_kind m x) = bytes_eq m name ≡ false
  IsElsewhere _ = Unit {0}

  write-own : (x : Attribute) → (kind_frames name own rest).write (of_kind name x) ≡ own.write x
  write-own x = rw (bytes_eq-refl name) refl

  write-rest : (x : Attribute) → IsElsewhere x → (kind_frames name own rest).write x ≡ rest.write x
  write-rest (of_kind m x) h = rw h refl
  write-rest (known n content) h = refl
  write-rest (kept n word value) h = refl
  write-rest (other word value) h = refl

  typed-own : (x : Attribute) → own.Typed x → (kind_frames name own rest).Typed (of_kind name x)
  typed-own x t = rw (bytes_eq-refl name) t

  typed-rest : (x : Attribute) → IsElsewhere x → rest.Typed x → (kind_frames name own rest).Typed x
  typed-rest (of_kind m x) h t = rw h t
  typed-rest (known n content) h t = t
  typed-rest (kept n word value) h t = t
  typed-rest (other word value) h t = t

  fits-own : (x : Attribute) → (kind_frames name own rest).Fits (of_kind name x) ↔ own.Fits x
  fits-own x = rw (bytes_eq-refl name) (λ f. f, λ f. f)

  fits-rest : (x : Attribute) → IsElsewhere x → (kind_frames name own rest).Fits x ↔ rest.Fits x
  fits-rest (of_kind m x) h = rw h (λ f. f, λ f. f)
  fits-rest (known n content) h = (λ f. f, λ f. f)
  fits-rest (kept n word value) h = (λ f. f, λ f. f)
  fits-rest (other word value) h = (λ f. f, λ f. f)

  -- what is read under another kind is of another kind
  read-elsewhere : (k : List ℕ) (f : Frame) (x : Attribute) → bytes_eq k name ≡ false → rest.read k f ≡ Ok x → IsElsewhere x
  read-elsewhere k f (of_kind m x) h e = let same = rest_laws.reads_kind k f m x e in ap (λ (t : List ℕ). bytes_eq t name) (sym same) ∙ h
  read-elsewhere k f (known n content) h e = tt
  read-elsewhere k f (kept n word value) h e = tt
  read-elsewhere k f (other word value) h e = tt

  -- the reading, if it is known whether the kind is the first
  kind_by : Bool → List ℕ → Frame → Outcome Attribute
  kind_by b k f = cond b (seen (of_kind name) (own.read k f)) (rest.read k f)

  makes-kind : (x : Attribute) → (kind_frames name own rest).Typed x → (kind_frames name own rest).Fits x → IsWireFrame ((kind_frames name own rest).write x)
  makes-kind (of_kind m x) t f = go (bytes_eq m name) t f
    where
      go : (b : Bool) → MatchBool b (own.Typed x) (rest.Typed (of_kind m x)) → MatchBool b (own.Fits x) (rest.Fits (of_kind m x))
          → IsWireFrame (cond b (own.write x) (rest.write (of_kind m x)))
      go true t f = own_laws.makes x t f
      go false t f = rest_laws.laws.makes (of_kind m x) t f
  makes-kind (known n content) t f = rest_laws.laws.makes (known n content) t f
  makes-kind (kept n word value) t f = rest_laws.laws.makes (kept n word value) t f
  makes-kind (other word value) t f = rest_laws.laws.makes (other word value) t f

  typed-kind : (b : Bool) (k : List ℕ) (f : Frame) (x : Attribute) → bytes_eq k name ≡ b → IsWireFrame f → kind_by b k f ≡ Ok x
      → (kind_frames name own rest).Typed x
  unfolding kind_by
  typed-kind true k f x h w e =
      let r = seen-ok (of_kind name) (own.read k f) x e in
      subst (kind_frames name own rest).Typed r.2 (typed-own r.0 (own_laws.typed k f r.0 w r.1))
  typed-kind false k f x h w e = typed-rest x (read-elsewhere k f x h e) (rest_laws.laws.typed k f x w e)

  -- an attribute of a kind reads back, or not
  back-of_kind : (b d : Bool) (k m : List ℕ) (x : Attribute) → bytes_eq k name ≡ b → bytes_eq m name ≡ d → MatchBool d (own.Typed x) (rest.Typed (of_kind m x))
      → MatchBool d (own.Fits x) (rest.Fits (of_kind m x))
      → (kind_by b k (cond d (own.write x) (rest.write (of_kind m x))) ≡ Ok (of_kind m x))
      ↔ MatchBool d ((bytes_eq k name ≡ true) × own.Settled k x) (rest.Settled k (of_kind m x))
  unfolding kind_by
  back-of_kind true true k m x kb md t f = (from, to)
    where
      from : seen (of_kind name) (own.read k (own.write x)) ≡ Ok (of_kind m x) → (bytes_eq k name ≡ true) × own.Settled k x
      from e =
          let r = seen-ok (of_kind name) (own.read k (own.write x)) (of_kind m x) e in
          let same : r.0 ≡ x = cc r.2 in
          (kb, (own_laws.back k x t f).0 (r.1 ∙ ap (λ (y : Attribute). read_as y) same))

      to : (bytes_eq k name ≡ true) × own.Settled k x → seen (of_kind name) (own.read k (own.write x)) ≡ Ok (of_kind m x)
      to s = ok-seen (of_kind name) (own.read k (own.write x)) x ((own_laws.back k x t f).1 s.1)
          ∙ ap (λ (i : List ℕ). read_as (of_kind i x)) (sym (bytes_eq-is m name md))
  back-of_kind false true k m x kb md t f = (
    (λ e.
        let same = rest_laws.reads_kind k (own.write x) m x e in
        let h : false ≡ true = sym kb ∙ ap (λ (i : List ℕ). bytes_eq i name) same ∙ md in
        absurd cc),
    (λ s. let h : false ≡ true = sym kb ∙ s.0 in absurd cc),
  )
  back-of_kind true false k m x kb md t f = (
    (λ e.
        let r = seen-ok (of_kind name) (own.read k (rest.write (of_kind m x))) (of_kind m x) e in
        let same : name ≡ m = cc r.2 in
        let h : true ≡ false = sym (bytes_eq-refl name) ∙ ap (λ (i : List ℕ). bytes_eq i name) same ∙ md in
        absurd cc),
    (λ s.
        let same = rest_laws.settled_kind k m x t s in
        let h : true ≡ false = sym kb ∙ ap (λ (i : List ℕ). bytes_eq i name) same ∙ md in
        absurd cc),
  )
  back-of_kind false false k m x kb md t f = rest_laws.laws.back k (of_kind m x) t f

  -- any other attribute is read under the other kinds
  back-plain : (b : Bool) (k : List ℕ) (x : Attribute) → ((y : Attribute) → of_kind name y ≡ x → ⊥) → rest.Typed x → rest.Fits x
      → (kind_by b k (rest.write x) ≡ Ok x) ↔ MatchBool b ⊥ (rest.Settled k x)
  unfolding kind_by
  back-plain true k x not_own t f = (
    (λ e. let r = seen-ok (of_kind name) (own.read k (rest.write x)) x e in not_own r.0 r.2),
    (λ s. elim s [ ]),
  )
  back-plain false k x not_own t f = rest_laws.laws.back k x t f

  back-kind : (k : List ℕ) (x : Attribute) → (kind_frames name own rest).Typed x → (kind_frames name own rest).Fits x
      → ((kind_frames name own rest).read k ((kind_frames name own rest).write x) ≡ Ok x) ↔ (kind_frames name own rest).Settled k x
  unfolding kind_by
  back-kind k (of_kind m x) t f = back-of_kind (bytes_eq k name) (bytes_eq m name) k m x refl refl t f
  back-kind k (known n content) t f = back-plain (bytes_eq k name) k (known n content) (λ y e. cc e) t f
  back-kind k (kept n word value) t f = back-plain (bytes_eq k name) k (kept n word value) (λ y e. cc e) t f
  back-kind k (other word value) t f = back-plain (bytes_eq k name) k (other word value) (λ y e. cc e) t f

  same-kind : (b : Bool) (k : List ℕ) (f : Frame) (x : Attribute) → bytes_eq k name ≡ b → IsWireFrame f → kind_by b k f ≡ Ok x
      → (kind_frames name own rest).Fits x
      → ((kind_frames name own rest).write x ≡ f) ↔ MatchBool b (CanonOwn k f) (CanonRest k f)
  unfolding kind_by
  same-kind true k f x h w e fits =
      let r = seen-ok (of_kind name) (own.read k f) x e in
      let fits_own : own.Fits r.0 = (fits-own r.0).0 (subst (kind_frames name own rest).Fits (sym r.2) fits) in
      let law = own_laws.same k f r.0 w r.1 fits_own in
      let written : (kind_frames name own rest).write x ≡ own.write r.0 = ap (kind_frames name own rest).write (sym r.2) ∙ write-own r.0 in
      (λ s. law.0 (sym written ∙ s), λ c. written ∙ law.1 c)
  same-kind false k f x h w e fits =
      let away = read-elsewhere k f x h e in
      let law = rest_laws.laws.same k f x w e ((fits-rest x away).0 fits) in
      (λ s. law.0 (sym (write-rest x away) ∙ s), λ c. write-rest x away ∙ law.1 c)

  reads-kind : (b : Bool) (k : List ℕ) (f : Frame) → bytes_eq k name ≡ b → IsWireFrame f → MatchBool b (CanonOwn k f) (CanonRest k f)
      → (x : Attribute) × (kind_by b k f ≡ Ok x) × (kind_frames name own rest).Fits x
  unfolding kind_by
  reads-kind true k f h w c =
      let r = own_laws.reads k f w c in
      (of_kind name r.0, ok-seen (of_kind name) (own.read k f) r.0 r.1, (fits-own r.0).1 r.2)
  reads-kind false k f h w c =
      let r = rest_laws.laws.reads k f w c in
      (r.0, r.1, (fits-rest r.0 (read-elsewhere k f r.0 h r.1)).1 r.2)

  kind-is : (b : Bool) (k : List ℕ) (f : Frame) (m : List ℕ) (x : Attribute) → bytes_eq k name ≡ b → kind_by b k f ≡ Ok (of_kind m x) → k ≡ m
  unfolding kind_by
  kind-is true k f m x h e =
      let r = seen-ok (of_kind name) (own.read k f) (of_kind m x) e in
      let same : name ≡ m = cc r.2 in
      bytes_eq-is k name h ∙ same
  kind-is false k f m x h e = rest_laws.reads_kind k f m x e

  settled-is : (d : Bool) (k m : List ℕ) (x : Attribute) → bytes_eq m name ≡ d → MatchBool d (own.Typed x) (rest.Typed (of_kind m x))
      → MatchBool d ((bytes_eq k name ≡ true) × own.Settled k x) (rest.Settled k (of_kind m x)) → k ≡ m
  settled-is true k m x h t s = bytes_eq-is k name s.0 ∙ sym (bytes_eq-is m name h)
  settled-is false k m x h t s = rest_laws.settled_kind k m x t s

  pub kind_laws : KindLaws (kind_frames name own rest) (λ k f. MatchBool (bytes_eq k name) (CanonOwn k f) (CanonRest k f))
  unfolding kind_by
  kind_laws = record {
    laws = record {
      makes = makes-kind;
      typed = λ k f x w e. typed-kind (bytes_eq k name) k f x refl w e;
      back = back-kind;
      same = λ k f x w e fits. same-kind (bytes_eq k name) k f x refl w e fits;
      reads = λ k f w c. reads-kind (bytes_eq k name) k f refl w c;
    };
    reads_kind = λ k f m x e. kind-is (bytes_eq k name) k f m x refl e;
    settled_kind = λ k m x t s. settled-is (bytes_eq m name) k m x refl t s;
  }
