-- The law of lists: `read_list` is the grammar of lists that are read.
use Rattle.std.proofs.Common.{◌≡◌, ◌⊎◌, ℕ, List, [], ◌∷◌, ◌++◌, map, Option, Some, None, Ok, Err, refl, ap, subst, ◌∙◌, append-nil, append_assoc, inl, inr}
use Rattle.std.proofs.lemmas.List.{map-append}
use Rattle.nla_frames.specs.declared.error.DecodeError.{DecodeError}
use Rattle.nla_frames.specs.declared.error.DecodeError.TheVariants.{OutOfMemory}
use Rattle.nla_frames.specs.Fault.{Outcome}
use Rattle.nla_frames.specs.Value.{IsBytes}
use Rattle.nla_frames.specs.Frame.{Frame}
use Rattle.nla_frames.specs.Grammar.{Begins, AreFramesAndRest, IsBroken, CutsUp}
use Rattle.nla_frames.specs.Cutting.{Cutting, before_cut, cut, items_of, fault_at_end}
use Rattle.nla_frames.specs.Place.{Sets}
use Rattle.nla_frames.specs.Reading.{Reads, before, read_each, read_list}
use Rattle.nla_frames.specs.ListGrammar.{ReadEach, ListReads, StartsWith, HasFaultyFrame, IsListFault, HasOneOutcome}
use Rattle.nla_frames.proofs.CuttingLaws.{cuts, cut-is, cut-Begins, cut-Ends, cut-IsBroken, cut-AreFramesAndRest}
use Rattle.nla_frames.proofs.CutFrames.{cut_not_memory}
use Rattle.nla_frames.proofs.Places.{kind_after, kind_after-InForce, InForce-kind_after}
use Rattle.nla_frames.proofs.ReadEach.{ReadInTurn-ReadEach, ReadEach-ReadInTurn, read_each-ReadInTurn, ReadInTurn-read_each, Refused, at_end, at_frame}
use Rattle.nla_frames.proofs.ReadEach.{Refused-read_each}

-- a frame that is at the front is cut first
cut-StartsWith : (rest : List ℕ) (f : Frame) → StartsWith rest f → (c : Cutting) × (cut rest ≡ before_cut f c)
cut-StartsWith rest f (inl ends) = (_, cut-Ends rest f ends)
cut-StartsWith rest f (inr begins) = (_, cut-Begins rest f begins.0 begins.1)

-- a frame in front of others is padded in full
Begins-CutsUp : (bytes : List ℕ) (f g : Frame) (fs : List Frame) (fault : Option DecodeError) → CutsUp bytes (f ∷ g ∷ fs) fault
    → (after : List ℕ) × Begins bytes f after × CutsUp after (g ∷ fs) fault
Begins-CutsUp bytes f g fs None c = c
Begins-CutsUp bytes f g fs (Some e) c = (c.1.0, c.1.1, (c.0, c.1.2, c.2))

-- the first frame is at the front
StartsWith-CutsUp : (bytes : List ℕ) (f : Frame) (more : List Frame) (fault : Option DecodeError) → CutsUp bytes (f ∷ more) fault → StartsWith bytes f
StartsWith-CutsUp bytes f [] None c = inl c
StartsWith-CutsUp bytes f (g ∷ more) None c = inr (c.0, c.1)
StartsWith-CutsUp bytes f more (Some e) c = inr (c.1.0, c.1.1)

-- any frame is at the front of what follows the frames before it
AreFramesAndRest-CutsUp : (bytes : List ℕ) (done : List Frame) (f : Frame) (more : List Frame) (fault : Option DecodeError)
    → CutsUp bytes (done ++ f ∷ more) fault
    → (rest : List ℕ) × AreFramesAndRest bytes done rest × StartsWith rest f
AreFramesAndRest-CutsUp bytes [] f more fault c = (bytes, refl, StartsWith-CutsUp bytes f more fault c)
AreFramesAndRest-CutsUp bytes (d ∷ []) f more fault c =
    let front = Begins-CutsUp bytes d f more fault c in
    (front.0, (front.0, front.1, refl), StartsWith-CutsUp front.0 f more fault front.2)
AreFramesAndRest-CutsUp bytes (d ∷ g ∷ done) f more fault c =
    let front = Begins-CutsUp bytes d g (done ++ f ∷ more) fault c in
    let later = AreFramesAndRest-CutsUp front.0 (g ∷ done) f more fault front.2 in
    (later.0, (front.0, front.1, later.1), later.2)

module _ {X : Type 0} (reads : Reads X) (sets : Sets Frame) where
  -- ---- what meets the grammar is what is read

  -- what is read after frames that are padded in full and read
  pub read_list-AreFramesAndRest : (first : List ℕ) (bytes : List ℕ) (fs : List Frame) (rest : List ℕ) (xs : List X) → AreFramesAndRest bytes fs rest
      → ReadEach reads sets first fs xs
      → read_list reads sets first bytes ≡ before xs (read_list reads sets (kind_after sets first fs) rest)
  unfolding read_list
  read_list-AreFramesAndRest first bytes fs rest xs c each =
      let others = cut rest in
      let items : items_of (cut bytes) ≡ map Ok fs ++ items_of others =
      ap items_of (cut-AreFramesAndRest bytes fs rest c) ∙ ap (λ (is : List (Outcome Frame)). is ++ fault_at_end others.fault) (map-append Ok fs others.frames)
      ∙ append_assoc (map Ok fs) (map Ok others.frames) (fault_at_end others.fault) in
      ap (read_each reads sets first) items ∙ read_each-ReadInTurn reads sets first fs xs (items_of others) (ReadInTurn-ReadEach reads sets first fs xs each)

  -- what is read of a broken frame is its fault
  pub read_list-IsBroken : (kind : List ℕ) (rest : List ℕ) (e : DecodeError) → IsBroken rest e → read_list reads sets kind rest ≡ Err e
  unfolding read_list read_each
  read_list-IsBroken kind rest e b = ap (λ (c : Cutting). read_each reads sets kind (items_of c)) (cut-IsBroken rest e b)

  -- what is read of a frame that is refused, and of whatever follows it, is that fault
  pub read_list-StartsWith : (kind : List ℕ) (rest : List ℕ) (f : Frame) (e : DecodeError) → StartsWith rest f → reads kind f ≡ Err e
      → read_list reads sets kind rest ≡ Err e
  unfolding read_list read_each
  read_list-StartsWith kind rest f e starts refused =
      let c = cut-StartsWith rest f starts in
      ap (λ (d : Cutting). read_each reads sets kind (items_of d)) c.1 ∙ rw refused refl

  -- a reading of the grammar
  pub read_list-ListReads : (first : List ℕ) (bytes : List ℕ) (xs : List X) → ListReads reads sets first bytes xs → read_list reads sets first bytes ≡ Ok xs
  unfolding read_list read_each
  read_list-ListReads first bytes xs (fs, frames, each) =
      ap (λ (c : Cutting). read_each reads sets first (items_of c)) (cut-is bytes fs None frames)
      ∙ read_each-ReadInTurn reads sets first fs xs [] (ReadInTurn-ReadEach reads sets first fs xs each)
      ∙ ap (λ (ys : List X). Ok ys) (append-nil xs)

  -- a fault of the grammar
  pub read_list-IsListFault : (first : List ℕ) (bytes : List ℕ) (e : DecodeError) → IsListFault reads sets first bytes e
      → read_list reads sets first bytes ≡ Err e
  read_list-IsListFault first bytes e fault =
      read_list-AreFramesAndRest first bytes fault.frames fault.rest fault.values fault.cut fault.are_read ∙ ap (before fault.values) (go fault.fault)
    where
      go : (IsBroken fault.rest e ⊎ HasFaultyFrame reads sets first fault.frames fault.rest e)
          → read_list reads sets (kind_after sets first fault.frames) fault.rest ≡ Err e
      go (inl broken) = read_list-IsBroken (kind_after sets first fault.frames) fault.rest e broken
      go (inr faulty) = rw (kind_after-InForce sets first fault.frames faulty.kind faulty.in_force)
          (read_list-StartsWith faulty.kind fault.rest faulty.frame e faulty.starts faulty.is_refused)

  -- ---- what is read meets the grammar

  -- what is read is a reading of the grammar
  pub ListReads-read_list : (first : List ℕ) (bytes : List ℕ) (xs : List X) → IsBytes bytes → read_list reads sets first bytes ≡ Ok xs
      → ListReads reads sets first bytes xs
  unfolding read_list
  ListReads-read_list first bytes xs is e =
      let frames = (cut bytes).frames in
      let turn = ReadInTurn-read_each reads sets first frames (cut bytes).fault xs e in (
        frames,
        subst (λ (fault : Option DecodeError). CutsUp bytes (cut bytes).frames fault) turn.0 (cuts bytes is),
        ReadEach-ReadInTurn reads sets first frames xs turn.1,
      )

  -- a first refusal among what is cut is a fault of the grammar
  IsListFault-Refused : (first : List ℕ) (bytes : List ℕ) (fs : List Frame) (fault : Option DecodeError) (e : DecodeError) → CutsUp bytes fs fault
      → Refused reads sets first fs fault e → IsListFault reads sets first bytes e
  IsListFault-Refused first bytes fs fault e c (at_end gs xs d turn) = record {
    frames = fs;
    rest = c.0;
    values = xs;
    cut = c.1;
    are_read = ReadEach-ReadInTurn reads sets first fs xs turn;
    fault = inl c.2;
  }
  IsListFault-Refused first bytes fs fault e c (at_frame done f more xs d b turn refused) =
      let place = AreFramesAndRest-CutsUp bytes done f more fault c in
      record {
        frames = done;
        rest = place.0;
        values = xs;
        cut = place.1;
        are_read = ReadEach-ReadInTurn reads sets first done xs turn;
        fault = inr (record {
          frame = f;
          kind = kind_after sets first done;
          starts = place.2;
          in_force = InForce-kind_after sets first done;
          is_refused =
              refused;
        });
      }

  -- what is refused has that fault in the grammar
  pub IsListFault-read_list : (first : List ℕ) (bytes : List ℕ) (e : DecodeError) → IsBytes bytes → read_list reads sets first bytes ≡ Err e
      → IsListFault reads sets first bytes e
  unfolding read_list
  IsListFault-read_list first bytes e is h =
      let c = cut bytes in
      IsListFault-Refused first bytes c.frames c.fault e (cuts bytes is) (Refused-read_each reads sets first c.frames c.fault e h)

  -- ---- the law

  -- `read_list` gives the reading or the fault that the grammar gives
  pub one_outcome : (first : List ℕ) (bytes : List ℕ) → IsBytes bytes → HasOneOutcome reads sets first bytes (read_list reads sets first bytes)
  one_outcome first bytes is = record {
    reading = λ xs. (ListReads-read_list first bytes xs is, read_list-ListReads first bytes xs);
    fault = λ e. (IsListFault-read_list first bytes e is, read_list-IsListFault first bytes e);
  }

  -- if no frame is refused because memory ran out, no list is
  pub read_list_not_memory : (first : List ℕ) (bytes : List ℕ) → ((kind : List ℕ) (f : Frame) → reads kind f ≡ Err OutOfMemory → ⊥)
      → read_list reads sets first bytes ≡ Err OutOfMemory → ⊥
  unfolding read_list
  read_list_not_memory first bytes never h =
      let c = cut bytes in
      go c.frames c.fault OutOfMemory (Refused-read_each reads sets first c.frames c.fault OutOfMemory h) (cut_not_memory bytes) refl
    where
      go : (fs : List Frame) (fault : Option DecodeError) (e : DecodeError) → Refused reads sets first fs fault e → (fault ≡ Some OutOfMemory → ⊥)
          → e ≡ OutOfMemory → ⊥
      go fs fault e (at_end gs xs d turn) cut_never same = cut_never (ap (λ (x : DecodeError). Some x) same)
      go fs fault e (at_frame done f more xs d b turn refused) cut_never same =
          never (kind_after sets first done) f (refused ∙ ap (λ (x : DecodeError). Err x) same)
