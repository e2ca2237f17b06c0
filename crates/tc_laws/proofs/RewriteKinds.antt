-- A table by the kind in force, written and read again.
use Rattle.std.proofs.Common.{◌≡◌, ◌↔◌, ℕ, ◌≤◌, Bool, true, false, List, [], Ok, cond, refl, sym, ap, subst, ◌∙◌, arith}
use Rattle.std.specs.List.{AllByRecursion}
use Rattle.std.specs.Prelude.{MatchBool}
use Rattle.std.specs.Str.{bytes_eq}
use Rattle.nla_frames.specs.Fault.{Outcome, seen, read_as}
use Rattle.nla_frames.specs.Frame.{Frame, IsWireFrame}
use Rattle.nla_frames.specs.CanonList.{IsCanonAt}
use Rattle.nla_frames.specs.Codec.{Codec}
use Rattle.tc_meaning.specs.Tree.{Attribute, known, kept, other, of_kind}
use Rattle.tc_meaning.specs.Meaning.{raw_frames, kind_frames}
use Rattle.tc_laws.specs.Loose.{Part, parts_in_kind}
use Rattle.tc_laws.specs.Norm.{in_kind}
use Rattle.tc_meaning.proofs.Outcomes.{seen-ok, ok-seen, ok-same}
use Rattle.tc_meaning.proofs.KindLaws.{KindLaws, bytes_eq-refl}
use Rattle.tc_laws.proofs.TrimLaws.{IsWhole}
use Rattle.tc_laws.proofs.RewriteValues.{RewriteLaws, IsSettledPart}
use Rattle.tc_laws.proofs.RewriteLists.{frame_size}

-- no kind is known
pub unknown_next : RewriteLaws IsWireFrame frame_size raw_frames (in_kind (λ name x. x)) (parts_in_kind (λ name x. []))
unknown_next = record {
  settled = settled_raw;
  again = again_raw;
  typed = typed_raw;
  fits = fits_raw;
  smaller = smaller_raw;
  same = same_raw;
  whole =
      whole_raw;
}
  where
    settled_raw : (k : List ℕ) (f : Frame) (x : Attribute) → IsWireFrame f → read_as (other f.word f.value) ≡ Ok x
        → Unit {0} ↔ AllByRecursion IsSettledPart (parts_in_kind (λ name y. []) x)
    settled_raw k f x w e = subst (λ (y : Attribute). Unit {0} ↔ AllByRecursion IsSettledPart (parts_in_kind (λ name z. []) y))
        (ok-same (other f.word f.value) x e) (λ s. tt, λ s. tt)

    again_raw : (k : List ℕ) (f : Frame) (x : Attribute) → IsWireFrame f → read_as (other f.word f.value) ≡ Ok x → raw_frames.Fits x
        → raw_frames.read k (raw_frames.write x) ≡ Ok (in_kind (λ name y. y) x)
    again_raw k f x w e fits = subst (λ (y : Attribute). raw_frames.read k (raw_frames.write y) ≡ Ok (in_kind (λ name z. z) y))
        (ok-same (other f.word f.value) x e) refl

    typed_raw : (x : Attribute) → raw_frames.Typed x → raw_frames.Typed (in_kind (λ name y. y) x)
    typed_raw (of_kind name x) t = t
    typed_raw x t = t

    fits_raw : (x : Attribute) → raw_frames.Fits x → raw_frames.Fits (in_kind (λ name y. y) x)
    fits_raw (of_kind name x) f = f
    fits_raw x f = f

    smaller_raw : (x : Attribute) → frame_size (raw_frames.write (in_kind (λ name y. y) x)) ≤ frame_size (raw_frames.write x)
    smaller_raw (of_kind name x) = omega arith
    smaller_raw x = omega arith

    same_raw : (x : Attribute) → raw_frames.Typed x → raw_frames.Fits x → raw_frames.write (in_kind (λ name y. y) x) ≡ raw_frames.write x
        → AllByRecursion IsWhole (parts_in_kind (λ name y. []) x)
    same_raw (of_kind name x) t f s = tt
    same_raw x t f s = tt

    whole_raw : (x : Attribute) → AllByRecursion IsWhole (parts_in_kind (λ name y. []) x) → raw_frames.write (in_kind (λ name y. y) x) ≡ raw_frames.write x
    whole_raw (of_kind name x) all = refl
    whole_raw x all = refl

-- a kind before the others
module _ (name : List ℕ) (own rest : Codec Frame Attribute) (CanonRest : IsCanonAt) (rest_laws : KindLaws rest CanonRest)
    (next : Attribute → Attribute) (parts : Attribute → List Part) (own_next : RewriteLaws IsWireFrame frame_size own next parts)
    (next' : List ℕ → Attribute → Attribute) (parts' : List ℕ → Attribute → List Part)
    (rest_next : RewriteLaws IsWireFrame frame_size rest (in_kind next') (parts_in_kind parts')) where
  -- the first kind, or another
  abbrev next_of : List ℕ → Attribute → Attribute
  next_of m x = cond (bytes_eq m name) (next x) (next' m x)

  abbrev parts_of : List ℕ → Attribute → List Part
  parts_of m x = cond (bytes_eq m name) (parts x) (parts' m x)

  -- the reading, if it is known whether the kind is the first
  kind_by : Bool → List ℕ → Frame → Outcome Attribute
  kind_by b k f = cond b (seen (of_kind name) (own.read k f)) (rest.read k f)

  -- what is read under another kind is of another kind
  elsewhere : (k : List ℕ) (f : Frame) (m : List ℕ) (x : Attribute) → bytes_eq k name ≡ false → rest.read k f ≡ Ok (of_kind m x) → bytes_eq m name ≡ false
  elsewhere k f m x h e = let same = rest_laws.reads_kind k f m x e in ap (λ (t : List ℕ). bytes_eq t name) (sym same) ∙ h

  settled-kind : (b : Bool) (k : List ℕ) (f : Frame) (x : Attribute) → bytes_eq k name ≡ b → IsWireFrame f → kind_by b k f ≡ Ok x
      → (kind_frames name own rest).Settled k x ↔ AllByRecursion IsSettledPart (parts_in_kind parts_of x)
  unfolding kind_by
  settled-kind true k f x h w e =
      let q = seen-ok (of_kind name) (own.read k f) x e in
      let law = own_next.settled k f q.0 w q.1 in
      subst (λ (y : Attribute). (kind_frames name own rest).Settled k y ↔ AllByRecursion IsSettledPart (parts_in_kind parts_of y)) q.2
      (rw (bytes_eq-refl name) (λ s. law.0 s.1, λ all. (h, law.1 all)))
  settled-kind false k f (of_kind m x) h w e = rw (elsewhere k f m x h e) (rest_next.settled k f (of_kind m x) w e)
  settled-kind false k f (known n content) h w e = rw h (rest_next.settled k f (known n content) w e)
  settled-kind false k f (kept n word value) h w e = rw h (rest_next.settled k f (kept n word value) w e)
  settled-kind false k f (other word value) h w e = rw h (rest_next.settled k f (other word value) w e)

  again-kind : (b : Bool) (k : List ℕ) (f : Frame) (x : Attribute) → bytes_eq k name ≡ b → IsWireFrame f → kind_by b k f ≡ Ok x
      → (kind_frames name own rest).Fits x
      → kind_by b k ((kind_frames name own rest).write x) ≡ Ok (in_kind next_of x)
  unfolding kind_by
  again-kind true k f x h w e fits =
      let q = seen-ok (of_kind name) (own.read k f) x e in
      let fits_there : (kind_frames name own rest).Fits (of_kind name q.0) = subst (kind_frames name own rest).Fits (sym q.2) fits in
      let fits_own : own.Fits q.0 = rw (bytes_eq-refl name) at fits_there in
      subst (λ (y : Attribute). seen (of_kind name) (own.read k ((kind_frames name own rest).write y)) ≡ Ok (in_kind next_of y)) q.2
      (rw (bytes_eq-refl name) (ok-seen (of_kind name) (own.read k (own.write q.0)) (next q.0) (own_next.again k f q.0 w q.1 fits_own)))
  again-kind false k f (of_kind m x) h w e fits =
      let away = elsewhere k f m x h e in
      let fits_rest : rest.Fits (of_kind m x) = rw away at fits in
      rw away (rest_next.again k f (of_kind m x) w e fits_rest)
  again-kind false k f (known n content) h w e fits = rest_next.again k f (known n content) w e fits
  again-kind false k f (kept n word value) h w e fits = rest_next.again k f (kept n word value) w e fits
  again-kind false k f (other word value) h w e fits = rest_next.again k f (other word value) w e fits

  typed-kind : (x : Attribute) → (kind_frames name own rest).Typed x → (kind_frames name own rest).Typed (in_kind next_of x)
  typed-kind (of_kind m x) t = go (bytes_eq m name) t
    where
      go : (b : Bool) → MatchBool b (own.Typed x) (rest.Typed (of_kind m x))
          → MatchBool b (own.Typed (cond b (next x) (next' m x))) (rest.Typed (of_kind m (cond b (next x) (next' m x))))
      go true t = own_next.typed x t
      go false t = rest_next.typed (of_kind m x) t
  typed-kind (known n content) t = rest_next.typed (known n content) t
  typed-kind (kept n word value) t = rest_next.typed (kept n word value) t
  typed-kind (other word value) t = rest_next.typed (other word value) t

  fits-kind : (x : Attribute) → (kind_frames name own rest).Fits x → (kind_frames name own rest).Fits (in_kind next_of x)
  fits-kind (of_kind m x) f = go (bytes_eq m name) f
    where
      go : (b : Bool) → MatchBool b (own.Fits x) (rest.Fits (of_kind m x))
          → MatchBool b (own.Fits (cond b (next x) (next' m x))) (rest.Fits (of_kind m (cond b (next x) (next' m x))))
      go true f = own_next.fits x f
      go false f = rest_next.fits (of_kind m x) f
  fits-kind (known n content) f = rest_next.fits (known n content) f
  fits-kind (kept n word value) f = rest_next.fits (kept n word value) f
  fits-kind (other word value) f = rest_next.fits (other word value) f

  -- an attribute of a kind as it is written, if it is known whether the kind is the first
  abbrev written_by : Bool → List ℕ → Attribute → Frame
  written_by b m x = cond b (own.write x) (rest.write (of_kind m x))

  smaller-kind : (x : Attribute) → frame_size ((kind_frames name own rest).write (in_kind next_of x)) ≤ frame_size ((kind_frames name own rest).write x)
  smaller-kind (of_kind m x) = go (bytes_eq m name)
    where
      go : (b : Bool) → frame_size (written_by b m (cond b (next x) (next' m x))) ≤ frame_size (written_by b m x)
      go true = own_next.smaller x
      go false = rest_next.smaller (of_kind m x)
  smaller-kind (known n content) = rest_next.smaller (known n content)
  smaller-kind (kept n word value) = rest_next.smaller (kept n word value)
  smaller-kind (other word value) = rest_next.smaller (other word value)

  same-kind : (x : Attribute) → (kind_frames name own rest).Typed x → (kind_frames name own rest).Fits x
      → (kind_frames name own rest).write (in_kind next_of x) ≡ (kind_frames name own rest).write x
      → AllByRecursion IsWhole (parts_in_kind parts_of x)
  same-kind (of_kind m x) t f s = go (bytes_eq m name) t f s
    where
      go : (b : Bool) → MatchBool b (own.Typed x) (rest.Typed (of_kind m x)) → MatchBool b (own.Fits x) (rest.Fits (of_kind m x))
          → written_by b m (cond b (next x) (next' m x)) ≡ written_by b m x → AllByRecursion IsWhole (cond b (parts x) (parts' m x))
      go true t f s = own_next.same x t f s
      go false t f s = rest_next.same (of_kind m x) t f s
  same-kind (known n content) t f s = tt
  same-kind (kept n word value) t f s = tt
  same-kind (other word value) t f s = tt

  whole-kind : (x : Attribute) → AllByRecursion IsWhole (parts_in_kind parts_of x)
      → (kind_frames name own rest).write (in_kind next_of x) ≡ (kind_frames name own rest).write x
  whole-kind (of_kind m x) all = go (bytes_eq m name) all
    where
      go : (b : Bool) → AllByRecursion IsWhole (cond b (parts x) (parts' m x)) → written_by b m (cond b (next x) (next' m x)) ≡ written_by b m x
      go true all = own_next.whole x all
      go false all = rest_next.whole (of_kind m x) all
  whole-kind (known n content) all = refl
  whole-kind (kept n word value) all = refl
  whole-kind (other word value) all = refl

  pub kind_next : RewriteLaws IsWireFrame frame_size (kind_frames name own rest) (in_kind (λ m x. cond (bytes_eq m name) (next x) (next' m x)))
      (parts_in_kind (λ m x. cond (bytes_eq m name) (parts x) (parts' m x)))
  unfolding kind_by
  kind_next = record {
    settled = λ k f x w e. settled-kind (bytes_eq k name) k f x refl w e;
    again = λ k f x w e fits. again-kind (bytes_eq k name) k f x refl w e fits;
    typed = typed-kind;
    fits = fits-kind;
    smaller = smaller-kind;
    same = same-kind;
    whole = whole-kind;
  }
