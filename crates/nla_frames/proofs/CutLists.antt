-- Frames that are cut already, each read under one kind, in the words of the grammar.
use Rattle.std.proofs.Common.{◌≡◌, ℕ, List, [], ◌∷◌, ◌++◌, Option, None, Ok, Err, refl, append-nil}
use Rattle.nla_frames.specs.declared.error.DecodeError.{DecodeError}
use Rattle.nla_frames.specs.Fault.{Outcome}
use Rattle.nla_frames.specs.Frame.{Frame}
use Rattle.nla_frames.specs.Reading.{Reads, read_each, whole, keep}
use Rattle.nla_frames.specs.ListGrammar.{ReadEach, IsFirstRefusal}
use Rattle.nla_frames.proofs.Places.{kind_after}
use Rattle.nla_frames.proofs.ReadEach.{ReadEach-ReadInTurn, ReadInTurn-read_each, Refused, at_end, at_frame, Refused-read_each}

-- where nothing sets a kind, the first stays
stays : (kind : List ℕ) (fs : List Frame) → kind_after keep kind fs ≡ kind
stays kind [] = refl
stays kind (f ∷ fs) = stays kind fs

module _ {X : Type 0} (reads : Reads X) (kind : List ℕ) (fs : List Frame) where
  -- nothing comes after the frames
  ended : (outcome : Outcome (List X)) → read_each reads keep kind (whole fs) ≡ outcome → read_each reads keep kind (whole fs ++ []) ≡ outcome
  ended outcome is = rw append-nil is

  -- what is read, each frame is
  pub each_read : (xs : List X) → read_each reads keep kind (whole fs) ≡ Ok xs → ReadEach reads keep kind fs xs
  each_read xs is = ReadEach-ReadInTurn reads keep kind fs xs (ReadInTurn-read_each reads keep kind fs None xs (ended (Ok xs) is)).1

  -- what is refused, a first frame is
  pub first_of_frames : (e : DecodeError) → read_each reads keep kind (whole fs) ≡ Err e → IsFirstRefusal reads kind fs e
  first_of_frames e is = go fs None e refl (Refused-read_each reads keep kind fs None e (ended (Err e) is))
    where
      go : (gs : List Frame) (fault : Option DecodeError) (d : DecodeError) → fault ≡ None → Refused reads keep kind gs fault d → IsFirstRefusal reads kind gs d
      go gs fault d none (at_end hs xs c turn) = absurd (cc none)
      go gs fault d none (at_frame done f more xs c b turn refused) = record {
        before = done;
        frame = f;
        after = more;
        values = xs;
        parts = refl;
        are_read = ReadEach-ReadInTurn reads keep kind done xs turn;
        is_refused = rw (stays kind done) at refused;
      }
