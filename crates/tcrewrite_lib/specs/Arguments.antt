-- The program's arguments.
use Rattle.std.specs.Prelude.{◌≡◌, ℕ, List, [], ◌∷◌}
use Rattle.tc_capture.specs.Kind.{word_of}
use Rattle.tc_capture.specs.declared.kind.MessageType.{MessageType}
use Rattle.tc_capture.specs.declared.kind.MessageType.TheVariants.{Tc}

-- the arguments select a type of message: the first is the program's name; no word after it selects `tc`, and one word
-- selects the type that it names
abbrev pub HasMode : List (List ℕ) → MessageType → Type 0
HasMode [] mode = mode ≡ Tc
HasMode (name ∷ []) mode = mode ≡ Tc
HasMode (name ∷ word ∷ []) mode = word ≡ word_of mode
HasMode (name ∷ word ∷ more ∷ words) mode = ⊥
