-- How known messages are written down: bytes as hex digits, messages whose header is zero.
use Rattle.std.proofs.Common.{◌≡◌, ℕ, ◌+◌, ◌*◌, ◌<◌, List, [], ◌∷◌, ◌++◌, Bool, true, false, refl, ltb}
use Rattle.std.proofs.lemmas.Bool.{ltb-true}
use Rattle.std.proofs.lemmas.List.Elements.{All-from_recursion}
use Rattle.std.proofs.lemmas.Str.Ascii.{IsAscii-from_all}
use Rattle.std.specs.Prelude.{codes, nat_lt, ◌%◌, ◌&&◌, if◌then◌else◌}
use Rattle.std.specs.List.{AllByRecursion}
use Rattle.std.specs.Str.{is_utf8}
use Rattle.std.proofs.lemmas.Str.{IsUtf8-from_ascii, is_utf8-from_IsUtf8}
use Rattle.nla_frames.specs.Frame.{header}
use Rattle.tc_meaning.specs.Tree.{plain, blank, Content, is_bytes, items, Attribute, known}
use Rattle.tc_meaning.specs.Tree.{of_kind, attributes_of}
use Rattle.tc_meaning.specs.Message.{Message}

abbrev digit : ℕ → ℕ
digit c = if nat_lt c 58 then c % 16 else c % 16 + 9

abbrev pub hex : List ℕ → List ℕ
hex (high ∷ low ∷ text) = (16 * digit high + digit low) ∷ hex text
hex _ = []

-- a message whose header is zero
abbrev pub tc : List Attribute → Message
tc body = record { header = plain 0 ∷ blank ∷ plain 0 ∷ plain 0 ∷ plain 0 ∷ plain 0 ∷ []; body = body }

abbrev pub tc_of : List ℕ → List ℕ
tc_of text = hex (codes "0000000000000000000000000000000000000000") ++ hex text

abbrev pub act : List Attribute → Message
act body = record { header = plain 0 ∷ blank ∷ []; body = body }

abbrev pub act_of : List ℕ → List ℕ
act_of text = hex (codes "00000000") ++ hex text

abbrev pub the_kind : List ℕ → Attribute
the_kind name = known 1 (is_bytes name)

abbrev pub a_list : ℕ → List Attribute → Attribute
a_list n xs = known n (items (attributes_of xs))

-- one option of a kind
abbrev pub one_option : List ℕ → ℕ → Content → Attribute
one_option name n content = a_list 2 (of_kind name (known n content) ∷ [])

-- a text of ASCII is UTF-8
abbrev pub below_128 : List ℕ → Bool
below_128 [] = true
below_128 (b ∷ bs) = ltb b 128 && below_128 bs

both : (x y : Bool) → (x && y) ≡ true → (x ≡ true) × (y ≡ true)
both true y e = (refl, e)
both false y e = absurd cc

each_below : (text : List ℕ) → below_128 text ≡ true → AllByRecursion (λ b. b < 128) text
each_below [] e = tt
each_below (b ∷ bs) e = let h = both (ltb b 128) (below_128 bs) e in (ltb-true b 128 h.0, each_below bs h.1)

pub utf8 : (text : List ℕ) → below_128 text ≡ true → is_utf8 text ≡ true
utf8 text e = is_utf8-from_IsUtf8 text (IsUtf8-from_ascii text (IsAscii-from_all text (All-from_recursion (λ b. b < 128) text (each_below text e))))
