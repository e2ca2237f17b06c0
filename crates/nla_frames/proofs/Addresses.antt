-- The octets of an address that was built from them.
use Rattle.std.proofs.Common.{◌≡◌, ℕ, suc, ◌+◌, ◌*◌, ◌/◌, ◌%◌, ◌<◌, List, [], ◌∷◌, length, get_or, refl, arith}
use Rattle.std.specs.Net.Addr.{segments_of, octets_of}

-- two octets, joined to one number and split again
high_again : (a b : ℕ) → b < 256 → (a * 256 + b) / 256 ≡ a
high_again a b below = omega arith

low_again : (a b : ℕ) → b < 256 → (a * 256 + b) % 256 ≡ b
low_again a b below = omega arith

pub octets_again : (octets : List ℕ) → ((i : ℕ) → get_or octets i 0 < 256) → length octets % 2 ≡ 0 → octets_of (segments_of octets) ≡ octets
octets_again [] below even = refl
octets_again (a ∷ []) below even = absurd (omega arith)
octets_again (a ∷ b ∷ octets) below even =
    rw (high_again a b (below 1), low_again a b (below 1), octets_again octets (λ i. below (suc (suc i))) (omega arith)) refl
