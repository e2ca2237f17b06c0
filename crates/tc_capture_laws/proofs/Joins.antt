-- The pieces of a file, joined, are the file.
use Rattle.std.proofs.Common.{◌≡◌, ℕ, ◌<◌, List, [], ◌∷◌, ◌++◌, All, length, take, drop, refl, ap, ◌∙◌, arith}
use Rattle.std.proofs.lemmas.List.{append-nil, length-take, take-append-drop}
use Rattle.std.proofs.lemmas.List.Elements.{All-nil, All-cons}
use Rattle.tc_capture.specs.declared.error.CaptureError.{CaptureError}
use Rattle.tc_capture.specs.Capture.{State}
use Rattle.tc_capture_laws.specs.Pieces.{HasLength, read, skipped, rest, Piece, pieces_in, joined}
use Rattle.tc_capture_laws.proofs.EachPiece.{each-piece}

-- the front of some bytes, before what is joined of the rest
step : (k : ℕ) (bytes after : List ℕ) → after ≡ drop k bytes → take k bytes ++ after ≡ bytes
step k bytes after is = ap (λ (rest : List ℕ). take k bytes ++ rest) is ∙ take-append-drop k bytes

pub pieces_in-joins : (most : ℕ) (s : State) (bytes : List ℕ) → joined (pieces_in most s bytes) ≡ bytes
pieces_in-joins most s bytes =
    each-piece most (λ (bytes : List ℕ) (found : List Piece). joined found ≡ bytes) refl
    (λ s bytes next more front later. step next.0.used bytes (joined more) later)
    (λ needed bytes more long here later. step needed bytes (joined more) later)
    (λ e bytes some. append-nil bytes) s bytes

-- a piece has bytes
abbrev pub HasBytes : Piece → Type 0
HasBytes p = 0 < length p.bytes

pub pieces_in-have_bytes : (most : ℕ) (s : State) (bytes : List ℕ) → All HasBytes (pieces_in most s bytes)
pieces_in-have_bytes most s bytes =
    each-piece most (λ (bytes : List ℕ) (found : List Piece). All HasBytes found) (All-nil HasBytes)
    (λ s bytes next more front later.
    let some = front.some in
    let within = front.within in
    All-cons HasBytes _ more (omega (arith, length-take next.0.used bytes, length-take most bytes)) later)
    (λ needed bytes more long here later. All-cons HasBytes _ more (omega (arith, length-take needed bytes)) later)
    (λ e bytes some. All-cons HasBytes _ [] some (All-nil HasBytes)) s bytes

-- a piece that is read is kept, and one that is passed over is too long for that
abbrev pub IsOfLength : ℕ → Piece → Type 0
IsOfLength most p = HasLength most p.what (length p.bytes)

pub pieces_in-lengths : (most : ℕ) (s : State) (bytes : List ℕ) → All (IsOfLength most) (pieces_in most s bytes)
pieces_in-lengths most s bytes =
    each-piece most (λ (bytes : List ℕ) (found : List Piece). All (IsOfLength most) found) (All-nil (IsOfLength most))
    (λ s bytes next more front later.
    let within = front.within in
    All-cons (IsOfLength most) (record { what = read next.0.packet; bytes = take next.0.used bytes }) more
    (omega (arith, length-take next.0.used bytes, length-take most bytes)) later)
    (λ needed bytes more long here later.
    All-cons (IsOfLength most) (record { what = skipped; bytes = take needed bytes }) more (omega (arith, length-take needed bytes)) later)
    (λ e bytes some. All-cons (IsOfLength most) (record { what = rest e; bytes = bytes }) [] tt (All-nil (IsOfLength most))) s bytes

-- what is left is the last piece
abbrev pub IsLast : List Piece → Type 0
IsLast found = (front after : List Piece) (e : CaptureError) (p : Piece) → found ≡ front ++ p ∷ after → p.what ≡ rest e → after ≡ []

last-more : (q : Piece) (more : List Piece) → ((e : CaptureError) → q.what ≡ rest e → ⊥) → IsLast more → IsLast (q ∷ more)
last-more q more not later [] after e p is what =
    let same : q ≡ p = cc in
    absurd (not e (ap (λ (x : Piece). x.what) same ∙ what))
last-more q more not later (x ∷ front) after e p is what = later front after e p (cc) what

last-one : (q : Piece) → IsLast (q ∷ [])
last-one q [] after e p is what = cc
last-one q (x ∷ []) after e p is what = absurd cc
last-one q (x ∷ y ∷ front) after e p is what = absurd cc

pub pieces_in-last : (most : ℕ) (s : State) (bytes : List ℕ) → IsLast (pieces_in most s bytes)
pieces_in-last most s bytes =
    each-piece most (λ (bytes : List ℕ) (found : List Piece). IsLast found) none
    (λ s bytes next more front later. last-more (record { what = read next.0.packet; bytes = take next.0.used bytes }) more (λ e is. absurd cc) later)
    (λ needed bytes more long here later. last-more (record { what = skipped; bytes = take needed bytes }) more (λ e is. absurd cc) later)
    (λ e bytes some. last-one (record { what = rest e; bytes = bytes })) s bytes
  where
    none : IsLast []
    none [] after e p is what = absurd cc
    none (x ∷ front) after e p is what = absurd cc
