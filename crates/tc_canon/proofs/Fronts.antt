-- A frame that is padded with zeros at the front of bytes, compared with the cutting of frames.
use Rattle.std.proofs.Common.{◌≡◌, ℕ, suc, ◌+◌, ◌-◌, ◌*◌, ◌/◌, ◌%◌, ◌≤◌, ◌<◌, List, [], ◌∷◌, ◌++◌, length, take, drop, replicate, get_or, Ok, Err, refl, sym}
use Rattle.std.proofs.Common.{ap, ◌∙◌, arith, append_assoc, length-append, nat_lt, false}
use Rattle.std.proofs.lemmas.Bool.{le-ltb}
use Rattle.std.proofs.lemmas.List.{length-drop, length-replicate, take-append-drop, length-take-le, drop-take, drop-drop, take_at}
use Rattle.std.proofs.Math.Seq.{drop-append_seam, take-append_seam}
use Rattle.nla_frames.specs.declared.error.DecodeError.{DecodeError}
use Rattle.nla_frames.specs.Fault.{Outcome, read_as, refused}
use Rattle.nla_frames.specs.Value.{le_value}
use Rattle.nla_frames.specs.Frame.{Frame, header, padded, padding, frame_bytes}
use Rattle.nla_frames.specs.Grammar.{length_at}
use Rattle.nla_frames.specs.Buffer.{first_of}
use Rattle.nla_frames.specs.Cutting.{next_frame}
use Rattle.nla_frames.proofs.NextFrame.{next_frame-is}
use Rattle.tc_canon.specs.Front.{StartsPadded}

-- the header of the length and the word that four bytes make is these bytes
header-cells : (a b c d n : ℕ) → a < 256 → b < 256 → c < 256 → d < 256 → 4 + n ≡ a + 256 * b → header n (c + 256 * d) ≡ a ∷ b ∷ c ∷ d ∷ []
unfolding header
header-cells a b c d n below_a below_b below_c below_d long =
    let e0 : (4 + n) % 256 ≡ a = omega arith in
    let e1 : (4 + n) / 256 % 256 ≡ b = omega arith in
    let e2 : (c + 256 * d) % 256 ≡ c = omega arith in
    let e3 : (c + 256 * d) / 256 % 256 ≡ d = omega arith in
    rw (e0, e1, e2, e3) refl

-- the length and the word that a header's bytes make are its own
cells-length : (n : ℕ) → n ≤ 65531 → (4 + n) % 256 + 256 * ((4 + n) / 256 % 256 + 0) ≡ 4 + n
cells-length n short = omega arith

-- the same of a word
cells-word : (w : ℕ) → w < 65536 → w % 256 + 256 * (w / 256 % 256 + 0) ≡ w
cells-word w short = omega arith

-- the first four bytes are the header of the frame that they begin
front-cells : (bytes : List ℕ) (n : ℕ) → ((k : ℕ) → get_or bytes k 0 < 256) → 4 ≤ length bytes → 4 + n ≡ length_at bytes
    → take 4 bytes ≡ header n (le_value (take 2 (drop 2 bytes)))
front-cells [] n below long is = absurd (omega arith)
front-cells (a ∷ []) n below long is = absurd (omega arith)
front-cells (a ∷ b ∷ []) n below long is = absurd (omega arith)
front-cells (a ∷ b ∷ c ∷ []) n below long is = absurd (omega arith)
front-cells (a ∷ b ∷ c ∷ d ∷ rest) n below long is =
    let e : c + 256 * (d + 0) ≡ c + 256 * d = omega arith in
    rw e (sym (header-cells a b c d n (below 0) (below 1) (below 2) (below 3) (omega arith)))

-- what a frame at the front is
record IsFirst (bytes : List ℕ) (f : Frame) : Type 0 where
  whole : length_at bytes ≤ length bytes
  long : 4 ≤ length_at bytes
  word : le_value (take 2 (drop 2 bytes)) ≡ f.word
  value : drop 4 (take (length_at bytes) bytes) ≡ f.value

-- what the cutting of frames says of it
is_first : (bytes : List ℕ) (f : Frame) → read_as f ≡ first_of (next_frame bytes) → IsFirst bytes f
is_first bytes f e = go (next_frame bytes) refl e
  where
    go : (o : Outcome (Frame × List ℕ)) → next_frame bytes ≡ o → read_as f ≡ first_of o → IsFirst bytes f
    go (Err x) is same = absurd cc
    go (Ok next) is same =
        let n = next_frame-is bytes next is in
        let front : f ≡ next.0 = cc in
        record {
          whole = n.whole;
          long = n.long;
          word = ap (λ (x : Frame). x.word) (n.frame ∙ sym front);
          value = ap (λ (x : Frame). x.value) (n.frame ∙ sym front);
        }

-- its length
first-length : (bytes : List ℕ) (f : Frame) → IsFirst bytes f → 4 + length f.value ≡ length_at bytes
first-length bytes f first =
    let n : length (drop 4 (take (length_at bytes) bytes)) ≡ length f.value = ap length first.value in
    let m : length (drop 4 (take (length_at bytes) bytes)) ≡ length_at bytes - 4 =
    length-drop 4 (take (length_at bytes) bytes) ∙ ap (λ (x : ℕ). x - 4) (length-take-le (length_at bytes) bytes first.whole) in
    omega (arith, first.long)

-- the frame lies within the bytes
pub first-within : (bytes : List ℕ) (f : Frame) → read_as f ≡ first_of (next_frame bytes) → 4 + length f.value ≤ length bytes
first-within bytes f e =
    let first = is_first bytes f e in
    let long = first-length bytes f first in
    omega (arith, first.whole)

-- two bytes make a word
word-short : (bytes : List ℕ) → ((k : ℕ) → get_or bytes k 0 < 256) → le_value (take 2 (drop 2 bytes)) < 65536
word-short [] below = omega arith
word-short (a ∷ []) below = omega arith
word-short (a ∷ b ∷ []) below = omega arith
word-short (a ∷ b ∷ c ∷ []) below = let l : c < 256 = below 2 in omega arith
word-short (a ∷ b ∷ c ∷ d ∷ rest) below = let l : c < 256 = below 2 in let h : d < 256 = below 3 in omega arith

-- zeros after the frame make it one that is padded in full
pub padded-front : (bytes rest : List ℕ) (f : Frame) → ((k : ℕ) → get_or bytes k 0 < 256) → read_as f ≡ first_of (next_frame bytes) → length f.value ≤ 65531
    → drop (4 + length f.value) bytes ≡ replicate (padding (4 + length f.value)) 0 ++ rest → StartsPadded bytes f rest
unfolding frame_bytes header padded
padded-front bytes rest f below e short zeros =
    let first = is_first bytes f e in
    let n = length f.value in
    let long = first-length bytes f first in
    let head : take 4 bytes ≡ header n f.word = rw (← first.word) (front-cells bytes n below (omega (arith, first.whole, first.long)) long) in
    let value : take n (drop 4 bytes) ≡ f.value = sym (drop-take 4 n bytes) ∙ rw long first.value in
    let pads : padding (4 + n) ≡ padding n = omega arith in
    let tail : drop n (drop 4 bytes) ≡ replicate (padding n) 0 ++ rest = drop-drop n 4 bytes ∙ zeros ∙ ap (λ (x : ℕ). replicate x 0 ++ rest) pads in
    let body : drop 4 bytes ≡ (f.value ++ replicate (padding n) 0) ++ rest = sym (take-append-drop n (drop 4 bytes)) ∙ rw (value, tail, append_assoc) refl in
    record {
      frame = record { word = rw (← first.word) (word-short bytes below); value = short };
      parts = sym (take-append-drop 4 bytes) ∙ rw (head, body, append_assoc) refl;
    }

-- how many bytes there are
pub starts-length : (bytes after : List ℕ) (f : Frame) → StartsPadded bytes f after
    → length bytes ≡ 4 + length f.value + padding (length f.value) + length after
unfolding frame_bytes header padded
starts-length bytes after f starts =
    let n = length f.value in
    let zeros = replicate (padding n) 0 in
    let e : length bytes ≡ suc (suc (suc (suc (length ((f.value ++ zeros) ++ after))))) = ap length starts.parts in
    omega (arith, e, length-append (f.value ++ zeros) after, length-append f.value zeros, length-replicate {A = ℕ} (padding n) 0)

-- the frame lies within the bytes
starts-within : (bytes after : List ℕ) (f : Frame) → StartsPadded bytes f after → 4 + length f.value ≤ length bytes
starts-within bytes after f starts = omega (arith, starts-length bytes after f starts)

-- where these facts hold, the frame is the next one
next-is : (bytes : List ℕ) (n : ℕ) (f : Frame) → length_at bytes ≡ n → 4 ≤ n → n ≤ length bytes → le_value (take 2 (drop 2 bytes)) ≡ f.word
    → drop 4 (take n bytes) ≡ f.value → read_as f ≡ first_of (next_frame bytes)
unfolding next_frame
next-is bytes n f is long within word value =
    let a : nat_lt (length bytes) 4 ≡ false = le-ltb (length bytes) 4 (omega arith) in
    let b : nat_lt (length bytes) n ≡ false = le-ltb (length bytes) n within in
    let c : nat_lt n 4 ≡ false = le-ltb n 4 long in
    rw (is, a, b, c, word, value) refl

-- what starts with a frame that is padded in full has it at its front
pub front-padded : (bytes after : List ℕ) (f : Frame) → StartsPadded bytes f after → read_as f ≡ first_of (next_frame bytes)
unfolding next_frame frame_bytes header padded
front-padded bytes after f starts =
    let n = length f.value in
    let long : length_at bytes ≡ 4 + n = rw starts.parts (cells-length n starts.frame.value) in
    next-is bytes (4 + n) f long (omega arith) (starts-within bytes after f starts) (rw starts.parts (cells-word f.word starts.frame.word))
    (drop-take 4 n bytes ∙ rw (starts.parts, append_assoc) (take-append_seam f.value _))

-- what follows the value of a frame that is padded in full
after-value : (bytes after : List ℕ) (f : Frame) → StartsPadded bytes f after
    → drop (4 + length f.value) bytes ≡ replicate (padding (length f.value)) 0 ++ after
unfolding frame_bytes header padded
after-value bytes after f starts = sym (drop-drop (length f.value) 4 bytes) ∙ rw (starts.parts, append_assoc) (drop-append_seam f.value _)

-- ---- the steps of a split at the first frame

-- there is no frame
pub no-front : (bytes after : List ℕ) (f : Frame) (e : DecodeError) → refused e ≡ first_of (next_frame bytes) → StartsPadded bytes f after → ⊥
no-front bytes after f e none starts = let one = front-padded bytes after f starts in cc

-- the frame that is there is the one that is padded
same-front : (bytes after : List ℕ) (f g : Frame) → read_as f ≡ first_of (next_frame bytes) → StartsPadded bytes g after → f ≡ g
same-front bytes after f g is starts = let one = front-padded bytes after g starts in cc

-- a frame with its padding, cut off the front of bytes, has its padding at its end
pub pad-of-whole : (bytes whole pad : List ℕ) (n end : ℕ) → whole ≡ take end bytes → pad ≡ drop n whole → end ≡ n + padding n
    → pad ≡ take (padding n) (drop n bytes)
pad-of-whole bytes whole pad n end is_whole is_pad is_end = rw (is_pad, is_whole, is_end) (drop-take n (padding n) bytes)

-- and what follows it follows the padding
pub rest-of-whole : (bytes rest : List ℕ) (n end : ℕ) → rest ≡ drop end bytes → end ≡ n + padding n → rest ≡ drop (padding n) (drop n bytes)
rest-of-whole bytes rest n end is_rest is_end = rw (is_rest, is_end) (sym (drop-drop (padding n) n bytes))

module _ (bytes : List ℕ) (f : Frame) (n : ℕ) (back : List ℕ) (is : read_as f ≡ first_of (next_frame bytes)) (long : n ≡ 4 + length f.value)
    (is_back : back ≡ drop n bytes) where
  -- its padding, counted from its length and from its value's
  pads-of : padding n ≡ padding (length f.value)
  pads-of = omega arith

  -- too little is left for its padding
  pub no-room : (after : List ℕ) (g : Frame) → length back < padding n → StartsPadded bytes g after → ⊥
  no-room after g little starts =
      let same = same-front bytes after f g is starts in
      let n_bytes = starts-length bytes after f (rw same starts) in
      let n_back : length back ≡ length bytes - n = rw is_back (length-drop n bytes) in
      omega (arith, pads-of)

  -- its padding is zero
  pub splits : (pad rest : List ℕ) → ((k : ℕ) → get_or bytes k 0 < 256) → length f.value ≤ 65531 → padding n ≤ length back
      → pad ≡ take (padding n) back → rest ≡ drop (padding n) back → pad ≡ replicate (length pad) 0 → StartsPadded bytes f rest
  splits pad rest below short room is_pad is_rest all_zero =
      let n_pad : length pad ≡ padding n = rw is_pad (length-take-le (padding n) back room) in
      let zeros : pad ≡ replicate (padding n) 0 = rw (← n_pad) all_zero in
      let whole : back ≡ replicate (padding n) 0 ++ rest = sym (take-append-drop (padding n) back) ∙ rw (← is_pad, ← is_rest, zeros) refl in
      padded-front bytes rest f below is short (rw (← long) (sym is_back ∙ whole))

  -- its padding is something else
  pub no-zeros : (after pad : List ℕ) (g : Frame) → pad ≡ take (padding n) back → (pad ≡ replicate (length pad) 0 → ⊥) → StartsPadded bytes g after → ⊥
  no-zeros after pad g is_pad not starts =
      let same = same-front bytes after f g is starts in
      let rest : drop n bytes ≡ replicate (padding (length f.value)) 0 ++ after = rw long (after-value bytes after f (rw same starts)) in
      let whole : back ≡ replicate (padding n) 0 ++ after = is_back ∙ rest ∙ ap (λ (k : ℕ). replicate k 0 ++ after) (sym pads-of) in
      let front : pad ≡ replicate (padding n) 0 =
      is_pad ∙ rw whole (take_at (replicate (padding n) 0) after (padding n) (length-replicate {A = ℕ} (padding n) 0)) in
      not (front ∙ ap (λ (k : ℕ). replicate k 0) (sym (ap length front ∙ length-replicate (padding n) 0)))
