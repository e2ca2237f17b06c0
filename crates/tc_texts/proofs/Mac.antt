-- The text of a MAC address belongs to only one address.
use Rattle.std.proofs.Common.{◌≡◌, ℕ, List, [], ◌∷◌, length, get_or, Result, Ok, refl, sym, ap, ◌∙◌}
use Rattle.std.specs.Result.{result_unwrap_or}
use Rattle.std.proofs.lemmas.Slice.Eq.{text_from_reads}
use Rattle.hex.specs.Hex.{decode_sized}
use Rattle.hex.specs.declared.error.FromHexError.{FromHexError}
use Rattle.tc_texts.specs.Hex.{hex_text}
use Rattle.tc_texts.specs.Addresses.{mac_text}
use Rattle.tc_texts.specs.Reading.{IsOctets}
use Rattle.tc_texts.proofs.HexTexts.{decode_sized-hex_text}

six_items : (o : List ℕ) → length o ≡ 6 → o ≡ get_or o 0 0 ∷ get_or o 1 0 ∷ get_or o 2 0 ∷ get_or o 3 0 ∷ get_or o 4 0 ∷ get_or o 5 0 ∷ []
six_items o h = text_from_reads o _ h (refl, (refl, (refl, (refl, (refl, (refl, tt))))))

-- the digits of a text, without the colons
abbrev pub digits_of : List ℕ → List ℕ
digits_of t =
    get_or t 0 0 ∷ get_or t 1 0 ∷ get_or t 3 0 ∷ get_or t 4 0 ∷ get_or t 6 0 ∷ get_or t 7 0 ∷ get_or t 9 0
    ∷ get_or t 10 0 ∷ get_or t 12 0 ∷ get_or t 13 0 ∷ get_or t 15 0 ∷ get_or t 16 0 ∷ []

pub mac_digits : (text o : List ℕ) → IsOctets 6 o → text ≡ mac_text o → decode_sized (digits_of text) 6 ≡ Ok o
mac_digits text o h e =
    ap (λ (t : List ℕ). decode_sized (digits_of t) 6) e
    ∙ sym (ap (λ (t : List ℕ). decode_sized (hex_text t) 6) (six_items o h.0))
    ∙ decode_sized-hex_text o 6 h.0 h.1

pub ok_same : (a b : List ℕ) (r : Result (List ℕ) FromHexError) → r ≡ Ok a → r ≡ Ok b → a ≡ b
ok_same a b r ea eb = ap (λ (x : Result (List ℕ) FromHexError). result_unwrap_or x []) (sym ea ∙ eb)

pub mac_text-injective : (a b : List ℕ) → IsOctets 6 a → IsOctets 6 b → mac_text a ≡ mac_text b → a ≡ b
mac_text-injective a b ha hb e = ok_same a b _ (mac_digits (mac_text a) a ha refl) (mac_digits (mac_text a) b hb e)
