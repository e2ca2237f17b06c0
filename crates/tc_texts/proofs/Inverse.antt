-- Parsing the text of a value returns the value, if no other value has the text.
use Rattle.std.proofs.Common.{ℕ, List, Some, None, refl, sym, ap}
use Rattle.tc_texts.specs.Reading.{IsInjective, GivesBack}

pub gives_back : (text_of : List ℕ → List ℕ) (n : ℕ) → IsInjective text_of n → GivesBack text_of n
gives_back text_of n same a None h typed read = absurd (read a h refl)
gives_back text_of n same a (Some b) h typed read = ap Some (sym (same a b h typed read))
