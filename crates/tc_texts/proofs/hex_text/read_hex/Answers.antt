use Rattle.std.proofs.Common.{sym, ap, ◌∙◌, true≢false, inl, inr}
use Rattle.tc_texts.specs.Hex.{has_capital}
use Rattle.tc_texts.proofs.HexTexts.{has_capital-hex_text, hex_text-decoded, not_hex}
use Rattle.tc_texts.proofs.hex_text.read_hex.Goals as goal

pub returns-then-has_capital : goal.returns-then-has_capital
returns-then-has_capital g c =
    λ bytes h e. true≢false (sym c.if-has_capital.true ∙ c.has_capital.ensures ∙ ap has_capital e ∙ has_capital-hex_text bytes h)

pub returns-in-Ok : goal.returns-in-Ok
returns-in-Ok g c = hex_text-decoded c.args.text.now c.in-Ok.bytes.items c.in-Ok.ensures.ok (sym c.has_capital.ensures ∙ c.if-has_capital.false)

pub returns-in-Err-OddLength : goal.returns-in-Err-OddLength
returns-in-Err-OddLength g c = elim c.in-Err-OddLength.ensures.err [ inl m ↦ cc m | inr h ↦ not_hex c.args.text.now _ h ]

pub returns-in-Err-InvalidStringLength : goal.returns-in-Err-InvalidStringLength
returns-in-Err-InvalidStringLength g c = elim c.in-Err-InvalidStringLength.ensures.err [ inl m ↦ cc m | inr h ↦ not_hex c.args.text.now _ h ]

pub returns-in-Err-InvalidHexCharacter : goal.returns-in-Err-InvalidHexCharacter
returns-in-Err-InvalidHexCharacter g c = elim c.in-Err-InvalidHexCharacter.ensures.err [ inl m ↦ cc m | inr h ↦ not_hex c.args.text.now _ h ]
