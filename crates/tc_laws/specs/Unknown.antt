-- Inserting a frame of a type that the message's table doesn't have, among frames that are padded in full.
use Rattle.std.specs.Prelude.{◌≡◌, ℕ, Bool, true, List, [], ◌∷◌, ◌++◌, ◌&&◌, not, ◌==◌, length, take, drop}
use Rattle.nla_frames.specs.Frame.{Frame, type_of}
use Rattle.tc_canon.specs.Descriptor.{Rows, others, types, unread, options, is_within}
use Rattle.tc_meaning.specs.Tree.{other}
use Rattle.tc_meaning.specs.Message.{Message}
use Rattle.tc_laws.specs.Order.{InFull}

-- the type is in no row
abbrev pub is_outside : ℕ → Rows → Bool
is_outside n others = true
is_outside n (types first last flags class rows) = not (is_within first last n) && is_outside n rows
is_outside n (unread m class rows) = not (n == m) && is_outside n rows
is_outside n (options m kinds rows) = not (n == m) && is_outside n rows

-- a list with one element more at a place
abbrev pub put_in : {X : Type 0} → ℕ → X → List X → List X
put_in n x xs = take n xs ++ x ∷ drop n xs

-- a message with the frame, kept raw, at a place among its attributes
abbrev pub with_other : ℕ → Frame → Message → Message
with_other n f m = record { header = m.header; body = put_in n (other f.word f.value) m.body }

-- the bytes read as this message; if they are a header of this size and frames that are padded in full, they may have
-- one more frame of a type outside the table, anywhere: it is kept raw there, and all else reads as before
abbrev pub TakesUnknown : ℕ → Rows → (List ℕ → Message → Type 0) → List ℕ → Message → Type 0
TakesUnknown size rows ReadsAs bytes m =
    (head front one back : List ℕ) (fs : List Frame) (f : Frame) (gs : List Frame)
    → bytes ≡ head ++ (front ++ back) → length head ≡ size
    → InFull front fs → InFull one (f ∷ []) → InFull back gs → is_outside (type_of f.word) rows ≡ true
    → ReadsAs (head ++ (front ++ (one ++ back))) (with_other (length fs) f m)

-- such a frame can be inserted into any bytes that read as a message
abbrev pub KeepsUnknown : ℕ → Rows → (List ℕ → Message → Type 0) → Type 0
KeepsUnknown size rows ReadsAs = (bytes : List ℕ) (m : Message) → ReadsAs bytes m → TakesUnknown size rows ReadsAs bytes m
