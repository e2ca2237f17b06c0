-- A frame that is at the front of bytes is the next one.
use Rattle.std.proofs.Common.{◌≡◌, ◌⊎◌, ℕ, min, ◌+◌, ◌*◌, ◌/◌, ◌^◌, ◌<◌, ◌≤◌, false, ltb, List, [], ◌++◌, length, take, drop, Ok, refl, sym, subst, ◌∙◌, arith, inl, inr}
use Rattle.std.proofs.Common.{append_assoc}
use Rattle.std.proofs.lemmas.Bool.{le-ltb, cases_lt}
use Rattle.std.proofs.lemmas.List.{append-nil, length-append, take_at, drop_at, drop_all, drop-drop}
use Rattle.nla_frames.specs.Value.{le_value}
use Rattle.nla_frames.specs.Frame.{Frame, IsFrame, padding, header}
use Rattle.nla_frames.specs.Grammar.{Begins, Ends, length_at}
use Rattle.nla_frames.specs.Cutting.{frame_of_length, next_frame}

-- the first frame and what comes after it; its padding is full, or cut short where nothing comes after it
pub record Front (bytes : List ℕ) (f : Frame) (after : List ℕ) : Type 0 where
  pub frame : IsFrame f
  pub pad : List ℕ
  pub within : length pad ≤ padding (length f.value)
  pub full_or_last : (length pad ≡ padding (length f.value)) ⊎ (after ≡ [])
  pub parts : bytes ≡ header (length f.value) f.word ++ (f.value ++ (pad ++ after))

-- a header has four bytes
pub length-header : (n word : ℕ) → length (header n word) ≡ 4
unfolding header
length-header n word = refl

-- the length at the front of a frame that can be written
pub length_at-header : (n word : ℕ) (after : List ℕ) → n ≤ 65531 → length_at (header n word ++ after) ≡ 4 + n
unfolding header
length_at-header n word after small = omega arith

-- the word at the front of a frame that can be written
pub word-header : (n word : ℕ) (after : List ℕ) → word < 2 ^ 16 → le_value (take 2 (drop 2 (header n word ++ after))) ≡ word
unfolding header
word-header n word after small = omega arith

-- what follows a frame and its padding, where both end
pub after_padding : (bytes : List ℕ) (long : ℕ) → long ≤ length bytes
    → drop (min (length bytes) ((long + 3) / 4 * 4)) bytes ≡ drop (padding long) (drop long bytes)
after_padding bytes long within = go (cases_lt (length bytes) (long + padding long))
  where
    go : ((length bytes < long + padding long) ⊎ (long + padding long ≤ length bytes))
        → drop (min (length bytes) ((long + 3) / 4 * 4)) bytes ≡ drop (padding long) (drop long bytes)
    go (inl cut) =
        let ends : min (length bytes) ((long + 3) / 4 * 4) ≡ length bytes = omega arith in
        rw (ends, drop-drop (padding long) long bytes) (drop_all (length bytes) bytes (omega arith)
        ∙ sym (drop_all (long + padding long) bytes (omega arith)))
    go (inr full) =
        let ends : min (length bytes) ((long + 3) / 4 * 4) ≡ long + padding long = omega arith in
        rw (ends, drop-drop (padding long) long bytes) refl

-- where the length at the front covers its header, and as many bytes are there, a frame is found
pub next_frame_long : (bytes : List ℕ) (long : ℕ) → length_at bytes ≡ long → 4 ≤ long → long ≤ length bytes
    → next_frame bytes ≡ Ok (frame_of_length long bytes, drop (padding long) (drop long bytes))
unfolding next_frame
next_frame_long bytes long e h k =
    let a : ltb (length bytes) 4 ≡ false = le-ltb (length bytes) 4 (omega arith) in
    let b : ltb (length bytes) long ≡ false = le-ltb (length bytes) long k in
    let c : ltb long 4 ≡ false = le-ltb long 4 h in
    rw (e, a, b, c) refl

-- four bytes, a value, and more
value_after : (head value more : List ℕ) (long : ℕ) → length head ≡ 4 → long ≡ 4 + length value → drop 4 (take long (head ++ (value ++ more))) ≡ value
value_after head value more long four e =
    let regrouped : head ++ (value ++ more) ≡ (head ++ value) ++ more = sym (append_assoc head value more) in
    let front : take long ((head ++ value) ++ more) ≡ head ++ value = take_at (head ++ value) more long (omega (arith, length-append head value)) in
    rw (regrouped, front) (drop_at head value 4 four)

-- what follows the value
rest_after : (head value more : List ℕ) (long : ℕ) → length head ≡ 4 → long ≡ 4 + length value → drop long (head ++ (value ++ more)) ≡ more
rest_after head value more long four e =
    let regrouped : head ++ (value ++ more) ≡ (head ++ value) ++ more = sym (append_assoc head value more) in
    rw regrouped (drop_at (head ++ value) more long (omega (arith, length-append head value)))

-- padding in full, or to the end
skip_padding : (pad after : List ℕ) (n : ℕ) → length pad ≤ n → (length pad ≡ n) ⊎ (after ≡ []) → drop n (pad ++ after) ≡ after
skip_padding pad after n within (inl full) = drop_at pad after n full
skip_padding pad after n within (inr last) =
    let all : drop n (pad ++ []) ≡ [] = drop_all n (pad ++ []) (omega (arith, length-append {A = ℕ} pad [])) in
    rw last all

-- a frame that is at the front is the next one
pub next_frame_at : (f : Frame) (pad after : List ℕ) → IsFrame f → length pad ≤ padding (length f.value)
    → (length pad ≡ padding (length f.value)) ⊎ (after ≡ [])
    → next_frame (header (length f.value) f.word ++ (f.value ++ (pad ++ after))) ≡ Ok (f, after)
next_frame_at f pad after is within ends =
    let v = f.value in
    let n = length f.value in
    let head = header n f.word in
    let more = pad ++ after in
    let bytes = head ++ (v ++ more) in
    let four : length head ≡ 4 = length-header n f.word in
    let enough : 4 + n ≤ length bytes = omega (arith, length-append head (v ++ more), length-append v more, four) in
    let found = next_frame_long bytes (4 + n) (length_at-header n f.word (v ++ more) is.value) (omega arith) enough in
    let word = word-header n f.word (v ++ more) is.word in
    let value = value_after head v more (4 + n) four refl in
    let rest = rest_after head v more (4 + n) four refl in
    let skipped : drop (padding (4 + n)) (pad ++ after) ≡ after =
    subst (λ k. drop k (pad ++ after) ≡ after) same_padding (skip_padding pad after (padding n) within ends) in
    found ∙ rw (word, value, rest, skipped) refl
  where
    same_padding : padding (length f.value) ≡ padding (4 + length f.value)
    same_padding = omega arith

-- the same of any front
pub next_frame-Front : (bytes : List ℕ) (f : Frame) (after : List ℕ) → Front bytes f after → next_frame bytes ≡ Ok (f, after)
next_frame-Front bytes f after front = rw front.parts (next_frame_at f front.pad after front.frame front.within front.full_or_last)

-- a frame with its full padding is at the front
pub Front-Begins : (bytes : List ℕ) (f : Frame) (after : List ℕ) → Begins bytes f after → Front bytes f after
Front-Begins bytes f after b = record { frame = b.frame; pad = b.pad; within = omega (arith, b.full); full_or_last = inl b.full; parts = b.parts }

-- and so does the last frame
pub Front-Ends : (bytes : List ℕ) (f : Frame) → Ends bytes f → Front bytes f []
Front-Ends bytes f e = record { frame = e.frame; pad = e.pad; within = e.short; full_or_last = inr refl; parts = rw append-nil e.parts }

-- a frame at the front with nothing after it is the last one
pub Ends-Front : (bytes : List ℕ) (f : Frame) → Front bytes f [] → Ends bytes f
Ends-Front bytes f front = record { frame = front.frame; pad = front.pad; short = front.within; parts = rw append-nil at front.parts }
