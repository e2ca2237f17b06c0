-- Frames are each read under the kind in force at their place exactly when they are read in turn, each under the kind that the frames before it leave. So reads
-- the function.
use Rattle.std.proofs.Common.{◌≡◌, ◌⊎◌, ℕ, zero, suc, List, [], ◌∷◌, ◌++◌, length, map, take, slice_get, Option, Some, None, Ok, Err, refl, sym, ap, subst}
use Rattle.std.proofs.Common.{arith, inl, inr}
use Rattle.nla_frames.specs.declared.error.DecodeError.{DecodeError}
use Rattle.nla_frames.specs.Fault.{Outcome, ◌>>=◌}
use Rattle.nla_frames.specs.Frame.{Frame}
use Rattle.nla_frames.specs.Cutting.{fault_at_end}
use Rattle.nla_frames.specs.Place.{Sets, kind_then}
use Rattle.nla_frames.specs.Reading.{Reads, before, read_each}
use Rattle.nla_frames.specs.ListGrammar.{ReadsAt, ReadEach}
use Rattle.nla_frames.proofs.Places.{kind_after, kind_after-InForce, InForce-kind_after}

-- each frame reads as the element under the kind that the frames before it leave
abbrev pub ReadInTurn : {X : Type 0} → Reads X → Sets Frame → List ℕ → List Frame → List X → Type 0
ReadInTurn reads sets kind [] [] = Unit {0}
ReadInTurn reads sets kind (f ∷ fs) (x ∷ xs) = (reads kind f ≡ Ok x) × ReadInTurn reads sets (kind_then sets kind f) fs xs
ReadInTurn reads sets kind _ _ = ⊥

-- the same, by its place
abbrev EachAfter : {X : Type 0} → Reads X → Sets Frame → List ℕ → List Frame → List X → Type 0
EachAfter reads sets first fs xs =
    (i : ℕ) (f : Frame) (x : _) → slice_get fs i ≡ Some f → slice_get xs i ≡ Some x → reads (kind_after sets first (take i fs)) f ≡ Ok x

-- the first refusal: of the fault after frames that are read, or of a frame among them
pub data Refused {X : Type 0} (reads : Reads X) (sets : Sets Frame) (first : List ℕ) : List Frame → Option DecodeError → DecodeError → Type 0 where
  at_end : (fs : List Frame) (xs : List X) (e : DecodeError) → ReadInTurn reads sets first fs xs → Refused reads sets first fs (Some e) e
  at_frame : (done : List Frame) (f : Frame) (more : List Frame) (xs : List X) (fault : Option DecodeError) (e : DecodeError)
      → ReadInTurn reads sets first done xs → reads (kind_after sets first done) f ≡ Err e → Refused reads sets first (done ++ f ∷ more) fault e

-- no values in front
before-nil : {X : Type 0} (r : Outcome (List X)) → before [] r ≡ r
before-nil (Ok xs) = refl
before-nil (Err e) = refl

-- one value in front of others
before-before : {X : Type 0} (x : X) (xs : List X) (r : Outcome (List X)) → before (x ∷ []) (before xs r) ≡ before (x ∷ xs) r
before-before x xs (Ok ys) = refl
before-before x xs (Err e) = refl

-- a value and others after it were read
first_read : {X : Type 0} (r : Outcome X) (others : Outcome (List X)) (xs : List X) → (r >>= λ x. before (x ∷ []) others) ≡ Ok xs
    → (x : X) × (ys : List X) × (r ≡ Ok x) × (others ≡ Ok ys) × (x ∷ ys ≡ xs)
first_read (Ok x) (Ok ys) xs e = (x, ys, refl, refl, cc)
first_read (Ok x) (Err d) xs e = absurd cc
first_read (Err d) others xs e = absurd cc

-- the value was refused, or the others were
first_refused : {X : Type 0} (r : Outcome X) (others : Outcome (List X)) (e : DecodeError) → (r >>= λ x. before (x ∷ []) others) ≡ Err e
    → (r ≡ Err e) ⊎ ((x : X) × (r ≡ Ok x) × (others ≡ Err e))
first_refused (Ok x) (Ok ys) e h = absurd cc
first_refused (Ok x) (Err d) e h = inr (x, refl, h)
first_refused (Err d) others e h = inl cc

module _ {X : Type 0} (reads : Reads X) (sets : Sets Frame) where
  -- ---- in turn and by place

  turn_from_each : (first : List ℕ) (fs : List Frame) (xs : List X) → length xs ≡ length fs → EachAfter reads sets first fs xs
      → ReadInTurn reads sets first fs xs
  turn_from_each first [] [] same each = tt
  turn_from_each first [] (x ∷ xs) same each = absurd (omega arith)
  turn_from_each first (f ∷ fs) [] same each = absurd (omega arith)
  turn_from_each first (f ∷ fs) (x ∷ xs) same each =
      (each 0 f x refl refl, turn_from_each (kind_then sets first f) fs xs (omega arith) (λ i g y e d. each (suc i) g y e d))

  each_from_turn : (first : List ℕ) (fs : List Frame) (xs : List X) → ReadInTurn reads sets first fs xs → EachAfter reads sets first fs xs
  each_from_turn first [] xs turn i f x e d = absurd cc
  each_from_turn first (g ∷ fs) [] turn i f x e d = absurd cc
  each_from_turn first (g ∷ fs) (y ∷ xs) turn zero f x e d = cc turn.0
  each_from_turn first (g ∷ fs) (y ∷ xs) turn (suc i) f x e d = each_from_turn (kind_then sets first g) fs xs turn.1 i f x e d

  -- they are as many as the elements
  as_many : (first : List ℕ) (fs : List Frame) (xs : List X) → ReadInTurn reads sets first fs xs → length xs ≡ length fs
  as_many first [] [] turn = refl
  as_many first [] (x ∷ xs) turn = elim turn [ ]
  as_many first (f ∷ fs) [] turn = elim turn [ ]
  as_many first (f ∷ fs) (x ∷ xs) turn = ap suc (as_many (kind_then sets first f) fs xs turn.1)

  -- frames that are each read at their place are read in turn
  pub ReadInTurn-ReadEach : (first : List ℕ) (fs : List Frame) (xs : List X) → ReadEach reads sets first fs xs → ReadInTurn reads sets first fs xs
  ReadInTurn-ReadEach first fs xs each = turn_from_each first fs xs each.as_many at
    where
      at : EachAfter reads sets first fs xs
      at i f x e d =
          let here = each.each i f x e d in
          rw (kind_after-InForce sets first (take i fs) here.kind here.in_force) here.is_read

  -- frames that are read in turn are each read at their place
  pub ReadEach-ReadInTurn : (first : List ℕ) (fs : List Frame) (xs : List X) → ReadInTurn reads sets first fs xs → ReadEach reads sets first fs xs
  ReadEach-ReadInTurn first fs xs turn = record { as_many = as_many first fs xs turn; each = at }
    where
      at : (i : ℕ) (f : Frame) (x : X) → slice_get fs i ≡ Some f → slice_get xs i ≡ Some x → ReadsAt reads sets first (take i fs) f x
      at i f x e d = record {
        kind = kind_after sets first (take i fs);
        in_force = InForce-kind_after sets first (take i fs);
        is_read = each_from_turn first fs xs turn i f x e d;
      }

  -- ---- in turn and as the function reads

  -- frames that are read, and what is read after them
  pub read_each-ReadInTurn : (first : List ℕ) (fs : List Frame) (xs : List X) (items : List (Outcome Frame)) → ReadInTurn reads sets first fs xs
      → read_each reads sets first (map Ok fs ++ items) ≡ before xs (read_each reads sets (kind_after sets first fs) items)
  unfolding read_each
  read_each-ReadInTurn first [] [] items turn = sym (before-nil (read_each reads sets first items))
  read_each-ReadInTurn first [] (x ∷ xs) items turn = elim turn [ ]
  read_each-ReadInTurn first (f ∷ fs) [] items turn = elim turn [ ]
  read_each-ReadInTurn first (f ∷ fs) (x ∷ xs) items turn =
      let kind = kind_then sets first f in
      rw (turn.0, read_each-ReadInTurn kind fs xs items turn.1) (before-before x xs (read_each reads sets (kind_after sets kind fs) items))

  -- what is read, is read in turn and has no fault at its end
  pub ReadInTurn-read_each : (first : List ℕ) (fs : List Frame) (fault : Option DecodeError) (xs : List X)
      → read_each reads sets first (map Ok fs ++ fault_at_end fault) ≡ Ok xs
      → (fault ≡ None) × ReadInTurn reads sets first fs xs
  unfolding read_each
  ReadInTurn-read_each first [] None [] e = (refl, tt)
  ReadInTurn-read_each first [] None (x ∷ xs) e = absurd cc
  ReadInTurn-read_each first [] (Some d) xs e = absurd cc
  ReadInTurn-read_each first (f ∷ fs) fault xs e =
      let r = first_read (reads first f) (read_each reads sets (kind_then sets first f) (map Ok fs ++ fault_at_end fault)) xs e in
      let others = ReadInTurn-read_each (kind_then sets first f) fs fault r.1 r.3 in
      (others.0, subst (λ ys. ReadInTurn reads sets first (f ∷ fs) ys) r.4 (r.2, others.1))

  -- a frame that is read, in front
  Refused-cons : (first : List ℕ) (f : Frame) (x : X) (fs : List Frame) (fault : Option DecodeError) (e : DecodeError) → reads first f ≡ Ok x
      → Refused reads sets (kind_then sets first f) fs fault e
      → Refused reads sets first (f ∷ fs) fault e
  Refused-cons first f x fs fault e is (at_end gs xs d turn) = at_end (f ∷ gs) (x ∷ xs) d (is, turn)
  Refused-cons first f x fs fault e is (at_frame done g more xs c d turn refused) = at_frame (f ∷ done) g more (x ∷ xs) c d (is, turn) refused

  -- what is refused, is refused at a first place
  pub Refused-read_each : (first : List ℕ) (fs : List Frame) (fault : Option DecodeError) (e : DecodeError)
      → read_each reads sets first (map Ok fs ++ fault_at_end fault) ≡ Err e
      → Refused reads sets first fs fault e
  unfolding read_each
  Refused-read_each first [] None e h = absurd cc
  Refused-read_each first [] (Some d) e h = let same : d ≡ e = cc in rw same (at_end [] [] e tt)
  Refused-read_each first (f ∷ fs) fault e h =
      let kind = kind_then sets first f in
      let others = read_each reads sets kind (map Ok fs ++ fault_at_end fault) in
      go others (λ d. Refused-read_each kind fs fault e d) (first_refused (reads first f) others e h)
    where
      go : (others : Outcome (List X)) → (others ≡ Err e → Refused reads sets (kind_then sets first f) fs fault e)
          → ((reads first f ≡ Err e) ⊎ ((x : X) × (reads first f ≡ Ok x) × (others ≡ Err e)))
          → Refused reads sets first (f ∷ fs) fault e
      go others later (inl refused) = at_frame [] f fs [] fault e tt refused
      go others later (inr r) = Refused-cons first f r.0 fs fault e r.1 (later r.2)
