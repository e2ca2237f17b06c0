-- Frames as they are written.
use Rattle.std.proofs.Common.{◌≡◌, ℕ, ◌+◌, ◌-◌, ◌≤◌, List, ◌++◌, length, take, drop, [], sym, ◌∙◌, ap, subst, arith, length-drop}
use Rattle.std.proofs.lemmas.List.{take_at, drop_at, drop_all}
use Rattle.std.proofs.lemmas.Grind.{common_steps}
use Rattle.nla_frames.specs.Frame.{Frame, header, padded, frame_bytes}
use Rattle.nla_frames.specs.Emission.{Writes, HasRoom}
use Rattle.nla_frames.proofs.Front.{length-header}
use borrow.Rule.Slice.PartMut.{put_mid}

-- what is written after a front, and then the front
pub back_and_front : (front back old after new : List ℕ) (n : ℕ) → n ≡ length front → length front + length back ≤ length old
    → Writes back (take (length old - n) (drop n old)) after → Writes front (put_mid n (length old - n) old after) new → Writes (front ++ back) old new
back_and_front front back old after new n is room written_back written_front = grind (arith, common_steps)

-- a front that is written, and then what comes after it
pub front_and_back : (front back old now after : List ℕ) (n : ℕ) → n ≡ length front → length front + length back ≤ length old → Writes front old now
    → Writes back (take (length now - n) (drop n now)) after → Writes (front ++ back) old (put_mid n (length now - n) now after)
front_and_back front back old now after n is room written_front written_back =
    let same_length : length now ≡ length old = grind (arith, common_steps) in
    let whole : take n now ≡ front = rw written_front (take_at front _ n (sym is)) in
    let others : drop n now ≡ drop n old = rw written_front (drop_at front _ n (sym is) ∙ ap (λ k. drop k old) (sym is)) in
    let part : take (length now - n) (drop n now) ≡ drop n old = grind (arith, common_steps) in
    let nothing : drop (length now - n) (drop n now) ≡ [] = drop_all (length now - n) (drop n now) (omega (arith, length-drop n now)) in
    let then_back : after ≡ back ++ drop (length back) (drop n old) = subst (λ rest. Writes back rest after) part written_back in
    rw (whole, nothing, then_back) (grind (arith, common_steps))

-- a frame is written if its value is, with the padding, and then its header
pub frame_written : (f : Frame) (old after new : List ℕ) (len word : ℕ) → len ≡ length f.value → word ≡ f.word → HasRoom (frame_bytes f) old
    → Writes (padded f.value) (take (length old - 4) (drop 4 old)) after → Writes (header len word) (put_mid 4 (length old - 4) old after) new
    → Writes (frame_bytes f) old new
unfolding frame_bytes
frame_written f old after new len word is_len is_word room written_value written_header = grind (arith, common_steps, length-header, back_and_front)

pub ruleset parts = (common_steps, length-header)
