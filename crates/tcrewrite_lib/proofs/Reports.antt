-- Every text has one report.
use Rattle.std.proofs.Common.{◌≡◌, ◌⊎◌, ◌<◌, ◌≤◌, ℕ, List, length, Result, Ok, Err, refl, sym, ◌∙◌, arith, inl, inr}
use Rattle.std.proofs.lemmas.Bool.{cases_lt}
use Rattle.std.specs.Prelude.{codes}
use Rattle.hex.specs.Hex.{decode_of}
use Rattle.hex.specs.declared.error.FromHexError.{FromHexError}
use Rattle.nla_frames.specs.Codec.{IsWireBytes}
use Rattle.nla_frames.specs.Reading.{keep}
use Rattle.tc_canon.specs.Layouts.{tc_header, action_message_header}
use Rattle.tc_canon.specs.Tables.Messages.{attributes, action_message_attributes}
use Rattle.tc_meaning.specs.Own.{kind_of_attribute}
use Rattle.tc_meaning.specs.Message.{Message}
use Rattle.tc_meaning.specs.Whole.{Correspond}
use Rattle.tc_meaning.proofs.MessageTheorems.{tc_correspond, action_correspond}
use Rattle.tc_meaning.proofs.Decidable.{Decidable}
use Rattle.tc_meaning.proofs.FitTests.{decidable_fits}
use Rattle.tc_meaning.proofs.SettledTests.{decidable_settled}
use Rattle.tcrewrite_lib.specs.Text.{most_text, without_spaces}
use Rattle.tcrewrite_lib.specs.Report.{Report, one_line, words_of, ReportsDecoded, IsReport}
use Rattle.tc_capture.specs.declared.kind.MessageType.{MessageType}
use Rattle.tc_capture.specs.declared.kind.MessageType.TheVariants.{Tc, Action}
use Rattle.tcrewrite_lib.proofs.Decoding.{wire_decoded}
use Rattle.tcrewrite_lib.proofs.Outcomes as outcomes

-- the laws of a mode's messages, and the tests of what fits and what is settled
laws : (mode : MessageType) (bytes : List ℕ) → IsWireBytes bytes → Correspond (words_of mode) bytes
laws Tc = tc_correspond
laws Action = action_correspond

fits : (mode : MessageType) (m : Message) → Decidable ((words_of mode).Fits m)
fits Tc = decidable_fits tc_header attributes
fits Action = decidable_fits action_message_header action_message_attributes

settled : (mode : MessageType) (m : Message) → Decidable ((words_of mode).Settled m)
settled Tc = decidable_settled tc_header attributes kind_of_attribute
settled Action = decidable_settled action_message_header action_message_attributes keep

-- a text of a length that is read, without its spaces, decoded
module _ (mode : MessageType) (text : List ℕ) (short : length text ≤ most_text) where
  some_of_decoded : (decoded : Result (List ℕ) FromHexError) → decode_of (without_spaces text) ≡ decoded → (r : Report) × ReportsDecoded mode decoded r
  some_of_decoded (Ok bytes) is =
      outcomes.some_report (words_of mode) bytes (laws mode bytes (wire_decoded text bytes short is)) (fits mode) (settled mode)
  some_of_decoded (Err e) is = (one_line (codes "bad hex") 2, refl)

  one_of_decoded : (decoded : Result (List ℕ) FromHexError) → decode_of (without_spaces text) ≡ decoded
      → (r s : Report) → ReportsDecoded mode decoded r → ReportsDecoded mode decoded s → r ≡ s
  one_of_decoded (Ok bytes) is r s this that =
      outcomes.one_report (words_of mode) bytes (laws mode bytes (wire_decoded text bytes short is)) (fits mode) (settled mode) r s this that
  one_of_decoded (Err e) is r s this that = this ∙ sym that

some_of_length : (mode : MessageType) (text : List ℕ) → (most_text < length text) ⊎ (length text ≤ most_text) → (r : Report) × IsReport mode text r
some_of_length mode text (inl long) = (one_line (codes "too long") 2, inl (long, refl))
some_of_length mode text (inr short) =
    let some = some_of_decoded mode text short (decode_of (without_spaces text)) refl in
    (some.0, inr (short, some.1))

-- a text has a report
pub some_report : (mode : MessageType) (text : List ℕ) → (r : Report) × IsReport mode text r
some_report mode text = some_of_length mode text (cases_lt most_text (length text))

-- it has no other
pub one_report : (mode : MessageType) (text : List ℕ) (r s : Report) → IsReport mode text r → IsReport mode text s → r ≡ s
one_report mode text r s (inl this) (inl that) = this.1 ∙ sym that.1
one_report mode text r s (inl this) (inr that) = absurd (omega (arith, this.0, that.0))
one_report mode text r s (inr this) (inl that) = absurd (omega (arith, this.0, that.0))
one_report mode text r s (inr this) (inr that) = one_of_decoded mode text this.0 (decode_of (without_spaces text)) refl r s this.1 that.1
