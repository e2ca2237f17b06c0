-- Parsing texts.
use Rattle.std.specs.Prelude.{◌≡◌, ◌≢◌, ℕ, ◌^◌, ◌<◌, List, length, Option, Some, IfSome, MatchOption}
use Rattle.hex.specs.Hex.{IsBytes}
use Rattle.tc_texts.specs.Handle.{handle_text}
use Rattle.tc_texts.specs.Hex.{hex_text}

-- n octets
abbrev pub IsOctets : ℕ → List ℕ → Type 0
IsOctets n octets = (length octets ≡ n) × IsBytes octets

-- the n octets with this text, or `None` if no n octets have it
abbrev pub ReadsBack : (List ℕ → List ℕ) → ℕ → List ℕ → Option (List ℕ) → Type 0
ReadsBack text_of n text result =
    MatchOption result ((octets : List ℕ) → IsOctets n octets → text ≢ text_of octets)
    (λ octets. text ≡ text_of octets)

-- the handle with this text, or `None` if no handle has it
abbrev pub ReadsHandle : List ℕ → Option ℕ → Type 0
ReadsHandle text result =
    MatchOption result ((n : ℕ) → n < 2 ^ 32 → text ≢ handle_text n) (λ n. text ≡ handle_text n)

-- the text isn't the hex text of any bytes
abbrev pub IsNoHex : List ℕ → Type 0
IsNoHex text = (bytes : List ℕ) → IsBytes bytes → text ≢ hex_text bytes

-- different lists of n octets have different texts
abbrev pub IsInjective : (List ℕ → List ℕ) → ℕ → Type 0
IsInjective text_of n = (a b : List ℕ) → IsOctets n a → IsOctets n b → text_of a ≡ text_of b → a ≡ b

-- parsing the text of n octets returns the octets
abbrev pub GivesBack : (List ℕ → List ℕ) → ℕ → Type 0
GivesBack text_of n =
    (a : List ℕ) (r : Option (List ℕ)) → IsOctets n a → IfSome r (IsOctets n)
    → ReadsBack text_of n (text_of a) r → r ≡ Some a
