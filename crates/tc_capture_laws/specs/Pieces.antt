-- Reading a file piece by piece, from its front to its end. A reader keeps a limited number of bytes at the front of
-- the rest; a longer piece is skipped.
use Rattle.std.specs.Prelude.{◌<◌, ◌≤◌, ⊤, ℕ, zero, suc, List, [], ◌∷◌, length, take, drop, Option, Ok, Err, ◌&&◌, nat_lt, nat_le, option_map, if◌then◌else◌}
use Rattle.std.specs.List.{flat_map}
use Rattle.tc_capture.specs.declared.error.CaptureError.{CaptureError}
use Rattle.tc_capture.specs.declared.error.CaptureError.TheVariants.{Short}
use Rattle.tc_capture.specs.Outcome.{Outcome}
use Rattle.tc_capture.specs.Packet.{Captured}
use Rattle.tc_capture.specs.Front.{Front}
use Rattle.tc_capture.specs.Capture.{State, capture_at, next_piece}

-- a piece that is read, with its packet, if any; one that is too long; or the rest, if the file can't be read further
pub data What : Type 0 where
  read : Outcome (Option Captured) → What
  skipped : What
  rest : CaptureError → What

pub record Piece : Type 0 where
  pub what : What
  pub bytes : List ℕ

-- n bytes are skipped
abbrev pub passed : (List ℕ → List Piece) → ℕ → List ℕ → List Piece
passed go needed bytes = record { what = skipped; bytes = take needed bytes } ∷ go (drop needed bytes)

abbrev pub left_over : CaptureError → List ℕ → List Piece
left_over e bytes = record { what = rest e; bytes = bytes } ∷ []

-- if no piece is read: one that is longer than the limit is skipped, if all of it is there; otherwise reading ends
abbrev pub unread : ℕ → (List ℕ → List Piece) → List ℕ → CaptureError → List Piece
unread most go bytes (Short needed left) =
    if nat_lt most needed && nat_le needed (length bytes) then passed go needed bytes else left_over (Short needed (length bytes)) bytes
unread most go bytes e = left_over e bytes

-- the piece at the front before those of what follows it
abbrev pub piece_and_more : ℕ → (State → List ℕ → List Piece) → State → List ℕ → Outcome (Front × State) → List Piece
piece_and_more most go s bytes (Ok next) = record { what = read next.0.packet; bytes = take next.0.used bytes } ∷ go next.1 (drop next.0.used bytes)
piece_and_more most go s bytes (Err e) = unread most (go s) bytes e

-- at most n of them
unfoldable pub pieces_up_to : ℕ → ℕ → State → List ℕ → List Piece
pieces_up_to zero most s bytes = []
pieces_up_to (suc n) most s [] = []
pieces_up_to (suc n) most s (b ∷ bytes) = piece_and_more most (pieces_up_to n most) s (b ∷ bytes) (next_piece s (take most (b ∷ bytes)))

-- the pieces of the rest of a file, for a reader that keeps this many bytes; a piece has at least one byte
unfoldable pub pieces_in : ℕ → State → List ℕ → List Piece
pieces_in most s bytes = pieces_up_to (length bytes) most s bytes

-- the pieces of a file, if it is a capture
abbrev pub pieces_of : ℕ → List ℕ → Option (List Piece)
pieces_of most file = option_map (λ s. pieces_in most s file) (capture_at (take 4 file))

-- one after the other
abbrev pub joined : List Piece → List ℕ
joined pieces = flat_map (λ (p : Piece). p.bytes) pieces

-- a piece that is read has at most this many bytes, and one that is skipped has more
abbrev pub HasLength : ℕ → What → ℕ → Type 0
HasLength most (read packet) n = n ≤ most
HasLength most skipped n = most < n
HasLength most (rest e) n = ⊤
