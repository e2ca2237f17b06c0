-- A frame in its place.
use Rattle.std.proofs.Common.{◌≡◌, ℕ, zero, suc, ◌+◌, ◌-◌, ◌/◌, ◌%◌, ◌<◌, ◌≤◌, List, [], ◌∷◌, ◌++◌, length, drop, take, replicate, Option, Some, None}
use Rattle.std.proofs.Common.{Result, Ok, Err, refl, sym, ap, ◌∙◌, arith, slice_set, ◌*◌}
use Rattle.std.specs.Prelude.{option_map, nat_le, true}
use Rattle.std.proofs.lemmas.Bool.{cond-true, le-leb}
use Rattle.forms_attributes.specs.AttributesMade.{framed_with, pad_or}
use Rattle.std.proofs.lemmas.List.{length-drop}
use Rattle.std.proofs.lemmas.Nat.{div-add-mod', mod-mul-add}
use Rattle.nla_frames.specs.Frame.{header}
use Rattle.forms_values.proofs.Search.{none_not_some}
use Rattle.forms_values.specs.Appended.{Appended}
use Rattle.forms_attributes.specs.Frames.{frame_bytes}
use Rattle.serde_json.specs.Data.{Data}
use Rattle.forms_values.specs.declared.maker.Stop.{Stop}
use Rattle.forms_values.proofs.Appending.{then_appended, appended_as}

-- bytes, and then bytes that may not exist
pub then_maybe : {T : Type 0} (a : List ℕ) (x : Option (List ℕ)) (old mid new : List ℕ) (r : Result T Stop) → Some (old ++ a) ≡ Some mid → Appended x mid new r
    → Appended (option_map (λ b. a ++ b) x) old new r
then_maybe a (Some b) old mid new r first second = then_appended a b old mid new r first second
then_maybe a None old mid new (Ok u) first second = absurd (none_not_some new second)
then_maybe a None old mid new (Err e) first second = λ not. refl

-- four bytes over those at a place
pub patched : (xs : List ℕ) (n a b c d : ℕ) → n + 4 ≤ length xs
    → slice_set (slice_set (slice_set (slice_set xs n a) (n + 1) b) (n + 2) c) (n + 3) d ≡ take n xs ++ (a ∷ b ∷ c ∷ d ∷ drop (n + 4) xs)
patched [] n a b c d h = absurd (omega (arith, h))
patched (w ∷ []) zero a b c d h = absurd (omega (arith, h))
patched (w ∷ x ∷ []) zero a b c d h = absurd (omega (arith, h))
patched (w ∷ x ∷ y ∷ []) zero a b c d h = absurd (omega (arith, h))
patched (w ∷ x ∷ y ∷ z ∷ xs) zero a b c d h = refl
patched (x ∷ xs) (suc n) a b c d h =
    let one : suc n + 1 ≡ suc (n + 1) = omega arith in
    let two : suc n + 2 ≡ suc (n + 2) = omega arith in
    let three : suc n + 3 ≡ suc (n + 3) = omega arith in
    let four : suc (n + 4) ≡ suc n + 4 = omega arith in
    ap (λ (i : ℕ). slice_set (slice_set (slice_set (slice_set (x ∷ xs) (suc n) a) i b) (suc n + 2) c) (suc n + 3) d) one
    ∙ ap (λ (i : ℕ). slice_set (slice_set (slice_set (slice_set (x ∷ xs) (suc n) a) (suc (n + 1)) b) i c) (suc n + 3) d) two
    ∙ ap (λ (i : ℕ). slice_set (slice_set (slice_set (slice_set (x ∷ xs) (suc n) a) (suc (n + 1)) b) (suc (n + 2)) c) i d) three
    ∙ ap (λ l. x ∷ l) (patched xs n a b c d (omega (arith, h)))
    ∙ ap (λ (i : ℕ). x ∷ (take n xs ++ (a ∷ b ∷ c ∷ d ∷ drop i (x ∷ xs)))) four

upper_byte : (m : ℕ) → m < 65536 → m / 256 ≡ m / 256 % 256
upper_byte m h =
    let whole = div-add-mod' m 256 in
    let lt : m / 256 < 256 = omega (arith, whole, h) in
    let nought : m / 256 ≡ 0 * 256 + m / 256 = omega arith in
    sym (ap (λ n. n % 256) nought ∙ mod-mul-add 0 256 (m / 256) lt)

frame_of : (v pad : List ℕ) (word : ℕ) → 4 + length v < 65536 → word < 65536
    → ((4 + length v) % 256 ∷ (4 + length v) / 256 ∷ word % 256 ∷ word / 256 ∷ (v ++ pad)) ≡ frame_bytes (record { word = word; value = v; pad = pad })
unfolding header
frame_of v pad word h k =
    ap (λ (n : ℕ). (4 + length v) % 256 ∷ n ∷ word % 256 ∷ word / 256 ∷ (v ++ pad)) (upper_byte (4 + length v) h)
    ∙ ap (λ (n : ℕ). (4 + length v) % 256 ∷ (4 + length v) / 256 % 256 ∷ word % 256 ∷ n ∷ (v ++ pad)) (upper_byte word k)

frame_maybe : (v : List ℕ) (word : ℕ) (x : Option (List ℕ)) → 4 + length v < 65536 → word < 65536
    → option_map (λ b. ((4 + length v) % 256 ∷ (4 + length v) / 256 ∷ word % 256 ∷ word / 256 ∷ v) ++ b) x
    ≡ option_map (λ pad. frame_bytes (record { word = word; value = v; pad = pad })) x
frame_maybe v word None h k = refl
frame_maybe v word (Some pad) h k = ap Some (frame_of v pad word h k)

pub framed_end : {T : Type 0} (old mid new : List ℕ) (start n l0 l1 w0 w1 word : ℕ) (x : Option (List ℕ)) (given : Option Data) (r : Result T Stop)
    → start + 4 ≤ length old → n ≡ length old - start → n ≤ 65535 → word < 65536 → l0 ≡ n % 256 → l1 ≡ n / 256 → w0 ≡ word % 256 → w1 ≡ word / 256
    → mid ≡ take start old ++ (l0 ∷ l1 ∷ w0 ∷ w1 ∷ drop (start + 4) old) → x ≡ pad_or (drop (start + 4) old) given → Appended x mid new r
    → Appended (framed_with word (drop (start + 4) old) given) (take start old) new r
framed_end old mid new start n l0 l1 w0 w1 word x given r enough is_n few small e0 e1 e2 e3 is_mid is_x h =
    let v = drop (start + 4) old in
    let following = length-drop (start + 4) old in
    let all : n ≡ 4 + length v = omega (arith, enough, is_n, following) in
    let short : 4 + length v < 65536 = omega (arith, all, few) in
    let fits : nat_le (length v) 65531 ≡ true = le-leb (length v) 65531 (omega (arith, short)) in
    let bytes = (4 + length v) % 256 ∷ (4 + length v) / 256 ∷ word % 256 ∷ word / 256 ∷ v in
    let exact : l0 ∷ l1 ∷ w0 ∷ w1 ∷ v ≡ bytes =
    ap (λ (k : ℕ). k ∷ l1 ∷ w0 ∷ w1 ∷ v) (e0 ∙ ap (λ (k : ℕ). k % 256) all)
    ∙ ap (λ (k : ℕ). (4 + length v) % 256 ∷ k ∷ w0 ∷ w1 ∷ v) (e1 ∙ ap (λ (k : ℕ). k / 256) all)
    ∙ ap (λ (k : ℕ). (4 + length v) % 256 ∷ (4 + length v) / 256 ∷ k ∷ w1 ∷ v) e2
    ∙ ap (λ (k : ℕ). (4 + length v) % 256 ∷ (4 + length v) / 256 ∷ word % 256 ∷ k ∷ v) e3 in
    let there : Some (take start old ++ bytes) ≡ Some mid = ap Some (ap (λ b. take start old ++ b) (sym exact) ∙ sym is_mid) in
    appended_as (option_map (λ b. bytes ++ b) x) (framed_with word v given) (take start old) new r
    (frame_maybe v word x short small
    ∙ ap (λ o. option_map (λ pad. frame_bytes (record { word = word; value = v; pad = pad })) o) is_x
    ∙ sym (cond-true (nat_le (length v) 65531) (option_map (λ pad. frame_bytes (record { word = word; value = v; pad = pad })) (pad_or v given)) None fits))
    (then_maybe bytes x (take start old) mid new r there h)

four_more : (m : ℕ) → (m + 4) % 4 ≡ m % 4
four_more m = omega arith

-- the padding after a payload, whose header has four bytes
pub pad_is : (old : List ℕ) (start n : ℕ) → start + 4 ≤ length old → n ≡ length old - start
    → Some (replicate {A = ℕ} ((4 - n % 4) % 4) 0) ≡ pad_or (drop (start + 4) old) None
pad_is old start n enough is_n =
    let following = length-drop (start + 4) old in
    let all : n ≡ length (drop (start + 4) old) + 4 = omega (arith, enough, is_n, following) in
    ap (λ (k : ℕ). Some (replicate {A = ℕ} ((4 - k) % 4) 0)) (ap (λ (k : ℕ). k % 4) all ∙ four_more (length (drop (start + 4) old)))
