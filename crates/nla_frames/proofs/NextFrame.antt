-- `next_frame` finds the frame at the front, or the broken one.
use Rattle.std.proofs.Common.{◌≡◌, ◌⊎◌, ℕ, ◌+◌, ◌^◌, ◌<◌, ◌≤◌, List, [], ◌++◌, length, take, drop, Ok, Err, refl, sym, ap, ap₂, subst, ◌∙◌, arith, inl, inr}
use Rattle.std.proofs.Common.{append_assoc, take-add}
use Rattle.std.proofs.lemmas.Bool.{cases_lt, lt-ltb, le-ltb}
use Rattle.std.proofs.lemmas.List.{length-take, length-drop, take-append-drop, take-take, drop_all}
use Rattle.nla_frames.specs.declared.error.DecodeError.{DecodeError}
use Rattle.nla_frames.specs.declared.error.DecodeError.TheVariants.{FrameHeaderShort, FrameTooLong, FrameTooShort, OutOfMemory}
use Rattle.nla_frames.specs.Fault.{Outcome}
use Rattle.nla_frames.specs.Value.{IsBytes, le_bytes, le_value}
use Rattle.nla_frames.specs.Frame.{Frame, IsWireFrame, padding, header}
use Rattle.nla_frames.specs.Grammar.{length_at, IsBroken}
use Rattle.nla_frames.specs.Cutting.{frame_of_length, next_frame}
use Rattle.nla_frames.proofs.Bytes.{le_bytes-le_value, le_value_below, IsBytes-take, IsBytes-drop}
use Rattle.nla_frames.proofs.Front.{Front}

-- what the tests find, one after the other
data Finds (bytes : List ℕ) : Outcome (Frame × List ℕ) → Type 0 where
  header_short : length bytes < 4 → Finds bytes (Err (FrameHeaderShort (length bytes)))
  too_long : 4 ≤ length bytes → length bytes < length_at bytes → Finds bytes (Err (FrameTooLong (length_at bytes) (length bytes)))
  too_short : 4 ≤ length bytes → length_at bytes ≤ length bytes → length_at bytes < 4 → Finds bytes (Err (FrameTooShort (length_at bytes)))
  whole : 4 ≤ length_at bytes → length_at bytes ≤ length bytes
      → Finds bytes (Ok (frame_of_length (length_at bytes) bytes, drop (padding (length_at bytes)) (drop (length_at bytes) bytes)))

-- the tests find what `next_frame` answers
Finds-next_frame : (bytes : List ℕ) → Finds bytes (next_frame bytes)
unfolding next_frame
Finds-next_frame bytes = first (cases_lt (length bytes) 4)
  where
    third : 4 ≤ length bytes → length_at bytes ≤ length bytes → ((length_at bytes < 4) ⊎ (4 ≤ length_at bytes)) → Finds bytes (next_frame bytes)
    third h k (inl l) = rw (le-ltb (length bytes) 4 h, le-ltb (length bytes) (length_at bytes) k, lt-ltb (length_at bytes) 4 l) (too_short h k l)
    third h k (inr l) = rw (le-ltb (length bytes) 4 h, le-ltb (length bytes) (length_at bytes) k, le-ltb (length_at bytes) 4 l) (whole l k)

    second : 4 ≤ length bytes → ((length bytes < length_at bytes) ⊎ (length_at bytes ≤ length bytes)) → Finds bytes (next_frame bytes)
    second h (inl k) = rw (le-ltb (length bytes) 4 h, lt-ltb (length bytes) (length_at bytes) k) (too_long h k)
    second h (inr k) = third h k (cases_lt (length_at bytes) 4)

    first : ((length bytes < 4) ⊎ (4 ≤ length bytes)) → Finds bytes (next_frame bytes)
    first (inl h) = rw (lt-ltb (length bytes) 4 h) (header_short h)
    first (inr h) = second h (cases_lt (length bytes) (length_at bytes))

-- the same of its answer under another name
Finds-is : (bytes : List ℕ) (outcome : Outcome (Frame × List ℕ)) → next_frame bytes ≡ outcome → Finds bytes outcome
Finds-is bytes outcome e = subst (λ (o : Outcome (Frame × List ℕ)). Finds bytes o) e (Finds-next_frame bytes)

-- a refusal is a broken frame, where bytes are left
IsBroken-Finds : (bytes : List ℕ) (e : DecodeError) → 0 < length bytes → Finds bytes (Err e) → IsBroken bytes e
IsBroken-Finds bytes e some (header_short h) = (refl, some, h)
IsBroken-Finds bytes e some (too_long h k) = (refl, h, refl, k)
IsBroken-Finds bytes e some (too_short h k l) = (h, refl, k, l)

-- what is refused is broken in that way
pub IsBroken-next_frame : (bytes : List ℕ) (e : DecodeError) → 0 < length bytes → next_frame bytes ≡ Err e → IsBroken bytes e
IsBroken-next_frame bytes e some is = IsBroken-Finds bytes e some (Finds-is bytes (Err e) is)

-- a broken frame is refused
pub next_frame-IsBroken : (bytes : List ℕ) (e : DecodeError) → IsBroken bytes e → next_frame bytes ≡ Err e
unfolding next_frame
next_frame-IsBroken bytes (FrameHeaderShort left) b = rw (lt-ltb (length bytes) 4 (omega arith), b.0) refl
next_frame-IsBroken bytes (FrameTooLong long left) b =
    rw (b.0, b.2, le-ltb (length bytes) 4 (omega arith), lt-ltb (length bytes) (length_at bytes) (omega arith)) refl
next_frame-IsBroken bytes (FrameTooShort long) b =
    rw (b.1, le-ltb (length bytes) 4 b.0, le-ltb (length bytes) (length_at bytes) (omega arith), lt-ltb (length_at bytes) 4 (omega arith)) refl
next_frame-IsBroken bytes _ b = elim b [ ]

-- a broken frame has a byte at least
pub length-IsBroken : (bytes : List ℕ) (e : DecodeError) → IsBroken bytes e → 0 < length bytes
length-IsBroken bytes (FrameHeaderShort left) b = omega arith
length-IsBroken bytes (FrameTooLong long left) b = omega arith
length-IsBroken bytes (FrameTooShort long) b = omega arith
length-IsBroken bytes _ b = elim b [ ]

-- what a frame at the front is
pub record IsNext (bytes : List ℕ) (next : Frame × List ℕ) : Type 0 where
  pub whole : length_at bytes ≤ length bytes
  pub long : 4 ≤ length_at bytes
  pub frame : frame_of_length (length_at bytes) bytes ≡ next.0
  pub rest : drop (padding (length_at bytes)) (drop (length_at bytes) bytes) ≡ next.1

is_next : (bytes : List ℕ) (next : Frame × List ℕ) → Finds bytes (Ok next) → IsNext bytes next
is_next bytes next (whole h k) = record { whole = k; long = h; frame = refl; rest = refl }

pub next_frame-is : (bytes : List ℕ) (next : Frame × List ℕ) → next_frame bytes ≡ Ok next → IsNext bytes next
next_frame-is bytes next e = is_next bytes next (Finds-is bytes (Ok next) e)

-- no test finds that memory ran out
no_memory : (bytes : List ℕ) → Finds bytes (Err OutOfMemory) → ⊥
no_memory bytes h = elim h [ ]

-- no frame is refused because memory ran out
pub next_frame_not_memory : (bytes : List ℕ) → next_frame bytes ≡ Err OutOfMemory → ⊥
next_frame_not_memory bytes e = no_memory bytes (Finds-is bytes (Err OutOfMemory) e)

-- a frame takes four bytes at least
shorter : (bytes : List ℕ) (f : Frame) (after : List ℕ) → Finds bytes (Ok (f, after)) → length after + 4 ≤ length bytes
shorter bytes f after (whole h k) = omega (arith, length-drop (padding (length_at bytes)) (drop (length_at bytes) bytes), length-drop (length_at bytes) bytes)

-- so what comes after it is shorter
pub length-next_frame : (bytes : List ℕ) (f : Frame) (after : List ℕ) → next_frame bytes ≡ Ok (f, after) → length after + 4 ≤ length bytes
length-next_frame bytes f after e = shorter bytes f after (Finds-is bytes (Ok (f, after)) e)

-- the header that was read is written so
header_is : (n : ℕ) (bytes : List ℕ) → IsBytes bytes → 4 ≤ length bytes → length_at bytes ≡ 4 + n → header n (le_value (take 2 (drop 2 bytes))) ≡ take 4 bytes
unfolding header
header_is n bytes is long e =
    let first : le_bytes 2 (le_value (take 2 bytes)) ≡ take 2 bytes =
    le_bytes-le_value 2 (take 2 bytes) (omega (arith, length-take 2 bytes)) (IsBytes-take 2 bytes is) in
    let second : le_bytes 2 (le_value (take 2 (drop 2 bytes))) ≡ take 2 (drop 2 bytes) =
    le_bytes-le_value 2 (take 2 (drop 2 bytes)) (omega (arith, length-take 2 (drop 2 bytes), length-drop 2 bytes))
    (IsBytes-take 2 (drop 2 bytes) (IsBytes-drop 2 bytes is)) in
    let first_so : le_bytes 2 (4 + n) ≡ take 2 bytes = subst (λ (k : ℕ). le_bytes 2 k ≡ take 2 bytes) e first in
    ap₂ (λ (a b : List ℕ). a ++ b) first_so second ∙ sym (take-add 2 2 bytes)

-- the frame of the first bytes is at the front
front_of : (long : ℕ) (bytes : List ℕ) → IsBytes bytes → length_at bytes ≡ long → 4 ≤ long → long ≤ length bytes
    → Front bytes (frame_of_length long bytes) (drop (padding long) (drop long bytes))
front_of long bytes is e h k =
    let value = drop 4 (take long bytes) in
    let rest = drop long bytes in
    let p = padding long in
    let n : long ≡ 4 + length value = omega (arith, length-drop 4 (take long bytes), length-take long bytes) in
    let same : padding (length value) ≡ padding long = omega arith in
    let whole : take 4 bytes ++ value ≡ take long bytes = rw (← take-take 4 long bytes h) (take-append-drop 4 (take long bytes)) in
    let below : le_value (take 2 bytes) < 256 ^ length (take 2 bytes) = le_value_below (take 2 bytes) (IsBytes-take 2 bytes is) in
    let two : length (take 2 bytes) ≡ 2 = omega (arith, length-take 2 bytes) in
    let below_word : le_value (take 2 (drop 2 bytes)) < 256 ^ length (take 2 (drop 2 bytes)) =
    le_value_below (take 2 (drop 2 bytes)) (IsBytes-take 2 (drop 2 bytes) (IsBytes-drop 2 bytes is)) in
    let two_word : length (take 2 (drop 2 bytes)) ≡ 2 = omega (arith, length-take 2 (drop 2 bytes), length-drop 2 bytes) in
    let long_below : le_value (take 2 bytes) < 65536 = rw two at below in
    let word_below : le_value (take 2 (drop 2 bytes)) < 65536 = rw two_word at below_word in
    let front : header (length value) (le_value (take 2 (drop 2 bytes))) ≡ take 4 bytes = header_is (length value) bytes is (omega arith) (e ∙ n) in
    record {
      frame = record { word = word_below; value = omega arith };
      pad = take p rest;
      within = rw same (omega (arith, length-take p rest));
      full_or_last = rw same (full_or_last p rest (cases_lt (length rest) p));
      parts = rw (front, take-append-drop p rest)
          (sym (sym (append_assoc (take 4 bytes) value rest) ∙ ap (λ (t : List ℕ). t ++ rest) whole ∙ take-append-drop long bytes));
    }
  where
    full_or_last : (p : ℕ) (rest : List ℕ) → ((length rest < p) ⊎ (p ≤ length rest)) → (length (take p rest) ≡ p) ⊎ (drop p rest ≡ [])
    full_or_last p rest (inl l) = inr (drop_all p rest (omega arith))
    full_or_last p rest (inr l) = inl (omega (arith, length-take p rest))

-- what is found is at the front
found_front : (bytes : List ℕ) (f : Frame) (after : List ℕ) → IsBytes bytes → Finds bytes (Ok (f, after)) → Front bytes f after
found_front bytes f after is (whole h k) = front_of (length_at bytes) bytes is refl h k

-- the next frame is at the front
pub Front-next_frame : (bytes : List ℕ) (f : Frame) (after : List ℕ) → IsBytes bytes → next_frame bytes ≡ Ok (f, after) → Front bytes f after
Front-next_frame bytes f after is e = found_front bytes f after is (Finds-is bytes (Ok (f, after)) e)

-- what is found are bytes
found_bytes : (bytes : List ℕ) (f : Frame) (after : List ℕ) → IsBytes bytes → Finds bytes (Ok (f, after)) → IsBytes f.value × IsBytes after
found_bytes bytes f after is (whole h k) = (
  IsBytes-drop 4 (take (length_at bytes) bytes) (IsBytes-take (length_at bytes) bytes is),
  IsBytes-drop (padding (length_at bytes)) (drop (length_at bytes) bytes) (IsBytes-drop (length_at bytes) bytes is),
)

-- the next frame's value and what comes after it are bytes
pub IsBytes-next_frame : (bytes : List ℕ) (f : Frame) (after : List ℕ) → IsBytes bytes → next_frame bytes ≡ Ok (f, after) → IsBytes f.value × IsBytes after
IsBytes-next_frame bytes f after is e = found_bytes bytes f after is (Finds-is bytes (Ok (f, after)) e)

-- the next frame could be on the wire
pub IsWireFrame-next_frame : (bytes : List ℕ) (f : Frame) (after : List ℕ) → IsBytes bytes → next_frame bytes ≡ Ok (f, after) → IsWireFrame f
IsWireFrame-next_frame bytes f after is e = record { frame = (Front-next_frame bytes f after is e).frame; bytes = (IsBytes-next_frame bytes f after is e).0 }
