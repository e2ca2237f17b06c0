-- Bytes below 256, and numbers as their bytes, little-endian.
use Rattle.std.proofs.Common.{◌≡◌, ℕ, zero, suc, ◌+◌, ◌*◌, ◌/◌, ◌%◌, ◌^◌, ◌<◌, List, [], ◌∷◌, ◌++◌, length, get_or, take, drop, replicate, refl, ap, arith}
use Rattle.std.proofs.Common.{pow-suc, Fits, w8}
use Rattle.std.proofs.lemmas.List.{get_or-drop}
use Rattle.nla_frames.specs.Value.{IsBytes, le_bytes, le_value}

-- the elements of a slice of `u8` are bytes
pub IsBytes-slice : (bytes : List ℕ) → ((i : ℕ) → Fits w8 (get_or bytes i 0)) → IsBytes bytes
IsBytes-slice bytes fits = record { each = λ i. omega (arith, fits i) }

-- no bytes
pub IsBytes-nil : IsBytes []
IsBytes-nil = record { each = λ i. omega arith }

-- one byte more in front
pub IsBytes-cons : (b : ℕ) (bytes : List ℕ) → b < 256 → IsBytes bytes → IsBytes (b ∷ bytes)
IsBytes-cons b bytes below h = record { each = at }
  where
    at : (i : ℕ) → get_or (b ∷ bytes) i 0 < 256
    at zero = below
    at (suc i) = h.each i

-- one byte less
pub IsBytes-tail : (b : ℕ) (bytes : List ℕ) → IsBytes (b ∷ bytes) → IsBytes bytes
IsBytes-tail b bytes h = record { each = λ i. h.each (suc i) }

-- bytes after bytes
pub IsBytes-append : (front after : List ℕ) → IsBytes front → IsBytes after → IsBytes (front ++ after)
IsBytes-append [] after h k = k
IsBytes-append (b ∷ front) after h k = IsBytes-cons b (front ++ after) (h.each 0) (IsBytes-append front after (IsBytes-tail b front h) k)

-- what is left of bytes
pub IsBytes-drop : (n : ℕ) (bytes : List ℕ) → IsBytes bytes → IsBytes (drop n bytes)
IsBytes-drop n bytes h = record { each = λ i. rw get_or-drop (h.each (n + i)) }

-- the first bytes
pub IsBytes-take : (n : ℕ) (bytes : List ℕ) → IsBytes bytes → IsBytes (take n bytes)
IsBytes-take zero bytes h = IsBytes-nil
IsBytes-take (suc n) [] h = IsBytes-nil
IsBytes-take (suc n) (b ∷ bytes) h = IsBytes-cons b (take n bytes) (h.each 0) (IsBytes-take n bytes (IsBytes-tail b bytes h))

-- one byte again and again
pub IsBytes-replicate : (n b : ℕ) → b < 256 → IsBytes (replicate n b)
IsBytes-replicate zero b h = IsBytes-nil
IsBytes-replicate (suc n) b h = IsBytes-cons b (replicate n b) h (IsBytes-replicate n b h)

-- a number's bytes
pub IsBytes-le_bytes : (n x : ℕ) → IsBytes (le_bytes n x)
IsBytes-le_bytes zero x = IsBytes-nil
IsBytes-le_bytes (suc n) x = IsBytes-cons (x % 256) (le_bytes n (x / 256)) (omega arith) (IsBytes-le_bytes n (x / 256))

-- a number has as many bytes as its width
pub length-le_bytes : (n x : ℕ) → length (le_bytes n x) ≡ n
length-le_bytes zero x = refl
length-le_bytes (suc n) x = ap suc (length-le_bytes n (x / 256))

-- a number of this width is that of its bytes
pub le_value-le_bytes : (n x : ℕ) → x < 256 ^ n → le_value (le_bytes n x) ≡ x
le_value-le_bytes zero x below = omega arith
le_value-le_bytes (suc n) x below =
    let more : x < 256 ^ n * 256 = rw pow-suc at below in
    let rest = le_value-le_bytes n (x / 256) (omega arith) in
    omega arith

-- the number that bytes make has their width
pub le_value_below : (bytes : List ℕ) → IsBytes bytes → le_value bytes < 256 ^ length bytes
le_value_below [] h = omega arith
le_value_below (b ∷ bytes) h = rw pow-suc (omega (arith, le_value_below bytes (IsBytes-tail b bytes h), h.each 0))

-- bytes are those of the number that they make
pub le_bytes-le_value : (n : ℕ) (bytes : List ℕ) → length bytes ≡ n → IsBytes bytes → le_bytes n (le_value bytes) ≡ bytes
le_bytes-le_value zero [] e h = refl
le_bytes-le_value zero (b ∷ bytes) e h = absurd (omega arith)
le_bytes-le_value (suc n) [] e h = absurd (omega arith)
le_bytes-le_value (suc n) (b ∷ bytes) e h =
    let first : (b + 256 * le_value bytes) % 256 ≡ b = omega (arith, h.each 0) in
    let others : (b + 256 * le_value bytes) / 256 ≡ le_value bytes = omega (arith, h.each 0) in
    rw (first, others) (ap (λ (t : List ℕ). b ∷ t) (le_bytes-le_value n bytes (omega arith) (IsBytes-tail b bytes h)))
