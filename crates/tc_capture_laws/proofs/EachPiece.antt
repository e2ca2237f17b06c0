-- Properties of the pieces of a file, one piece at a time.
use Rattle.std.proofs.Common.{◌≡◌, ℕ, zero, suc, ◌<◌, ◌≤◌, List, [], ◌∷◌, length, take, drop, Ok, Err, Bool, true, false, refl, arith}
use Rattle.std.specs.Prelude.{nat_lt, nat_le, ◌&&◌, if◌then◌else◌}
use Rattle.std.proofs.lemmas.Bool.{ltb-true, leb-true}
use Rattle.std.proofs.lemmas.List.{length-drop}
use Rattle.tc_capture.specs.declared.error.CaptureError.{CaptureError}
use Rattle.tc_capture.specs.declared.error.CaptureError.TheVariants.{Short, MessageTooShort, NotPcap, NoByteOrder, BlockLength, BlockEnd, BodyTooShort}
use Rattle.tc_capture.specs.declared.error.CaptureError.TheVariants.{NoInterface, TooManyInterfaces}
use Rattle.tc_capture.specs.Outcome.{Outcome}
use Rattle.tc_capture.specs.Front.{Front}
use Rattle.tc_capture.specs.Capture.{State, next_piece}
use Rattle.tc_capture_laws.specs.Fronts.{IsFront}
use Rattle.tc_capture_laws.specs.Pieces.{read, skipped, Piece, passed, left_over, unread, piece_and_more, pieces_up_to, pieces_in}
use Rattle.tc_capture_laws.proofs.FrontPieces.{front-is}

module _ (most : ℕ) (P : List ℕ → List Piece → Type 0) (ended : P [] [])
    (one : (s : State) (bytes : List ℕ) (next : Front × State) (more : List Piece) → IsFront (take most bytes) next.0
    → P (drop next.0.used bytes) more → P bytes (record { what = read next.0.packet; bytes = take next.0.used bytes } ∷ more))
    (over : (needed : ℕ) (bytes : List ℕ) (more : List Piece) → most < needed → needed ≤ length bytes
    → P (drop needed bytes) more → P bytes (record { what = skipped; bytes = take needed bytes } ∷ more))
    (stop : (e : CaptureError) (bytes : List ℕ) → 0 < length bytes → P bytes (left_over e bytes)) where
  module _ (n : ℕ) (bytes : List ℕ) (some : 0 < length bytes) (few : length bytes ≤ suc n) where
    module _ (go : List ℕ → List Piece) (later : (after : List ℕ) → length after ≤ n → P after (go after)) where
      after : (k : ℕ) → 0 < k → P (drop k bytes) (go (drop k bytes))
      after k taken = later (drop k bytes) (omega (arith, length-drop k bytes))

      passed-is : (needed left : ℕ) (a b : Bool) → nat_lt most needed ≡ a → nat_le needed (length bytes) ≡ b
          → P bytes (if a && b then passed go needed bytes else left_over (Short needed (length bytes)) bytes)
      passed-is needed left false b long here = stop (Short needed (length bytes)) bytes some
      passed-is needed left true false long here = stop (Short needed (length bytes)) bytes some
      passed-is needed left true true long here =
          let taken : most < needed = ltb-true most needed long in
          over needed bytes (go (drop needed bytes)) taken (leb-true needed (length bytes) here) (after needed (omega arith))

      unread-is : (e : CaptureError) → P bytes (unread most go bytes e)
      unread-is (Short needed left) = passed-is needed left (nat_lt most needed) (nat_le needed (length bytes)) refl refl
      unread-is (MessageTooShort long) = stop (MessageTooShort long) bytes some
      unread-is NotPcap = stop NotPcap bytes some
      unread-is NoByteOrder = stop NoByteOrder bytes some
      unread-is (BlockLength long) = stop (BlockLength long) bytes some
      unread-is (BlockEnd long end) = stop (BlockEnd long end) bytes some
      unread-is (BodyTooShort needed left) = stop (BodyTooShort needed left) bytes some
      unread-is (NoInterface interface) = stop (NoInterface interface) bytes some
      unread-is TooManyInterfaces = stop TooManyInterfaces bytes some

    front-and-more : (go : State → List ℕ → List Piece) (s : State) (found : Outcome (Front × State)) → next_piece s (take most bytes) ≡ found
        → ((t : State) (after : List ℕ) → length after ≤ n → P after (go t after)) → P bytes (piece_and_more most go s bytes found)
    front-and-more go s (Ok next) is later =
        let front = front-is s (take most bytes) next is in
        one s bytes next (go next.1 (drop next.0.used bytes)) front (after (go next.1) (later next.1) next.0.used front.some)
    front-and-more go s (Err e) is later = unread-is (go s) (later s) e

  each-up_to : (n : ℕ) (s : State) (bytes : List ℕ) → length bytes ≤ n → P bytes (pieces_up_to n most s bytes)
  unfolding pieces_up_to
  each-up_to zero s [] few = ended
  each-up_to zero s (b ∷ bytes) few = absurd (omega arith)
  each-up_to (suc n) s [] few = ended
  each-up_to (suc n) s (b ∷ bytes) few =
      front-and-more n (b ∷ bytes) (omega arith) few (pieces_up_to n most) s (next_piece s (take most (b ∷ bytes))) refl
      (λ t after less. each-up_to n t after less)

  pub each-piece : (s : State) (bytes : List ℕ) → P bytes (pieces_in most s bytes)
  unfolding pieces_in
  each-piece s bytes = each-up_to (length bytes) s bytes (omega arith)
