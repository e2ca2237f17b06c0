-- Each plain value is encoded as its class says.
use Rattle.std.proofs.Common.{◌≡◌, ◌↔◌, ℕ, List, [], ◌∷◌, refl, arith, length-append}
use Rattle.tc_meaning.specs.Meaning.{class_codec, IsShort}
use Rattle.tc_values.specs.Inner.{Inner, IsInner}
use Rattle.tc_values.specs.Value.{value_class, value_content, value_bytes, ValueFits, TypedValue, SettledValue}
use Rattle.tc_values.specs.declared.value.Value.{Value}
use Rattle.tc_values.specs.declared.value.Value.TheVariants.{Presence, Truth, U8, U16, U32, U16Be, U32Be, Bits1, Bits3, Bits20, Octets4, Octets6, Octets8}
use Rattle.tc_values.specs.declared.value.Value.TheVariants.{Octets16, Bytes, Text, Warning, Kept, Nested}

module _ {N : Type 0} (inner : Inner N) (is : IsInner inner) where
  pub value_written : (v : Value N) → (class_codec (value_class inner v)).write (value_content inner v) ≡ value_bytes inner.bytes v
  value_written (Presence b) = refl
  value_written (Truth b) = refl
  value_written (U8 n) = refl
  value_written (U16 n) = refl
  value_written (U32 n) = refl
  value_written (U16Be n) = refl
  value_written (U32Be n) = refl
  value_written (Bits1 n) = refl
  value_written (Bits3 n) = refl
  value_written (Bits20 n) = refl
  value_written (Octets4 w) = refl
  value_written (Octets6 w) = refl
  value_written (Octets8 w) = refl
  value_written (Octets16 w) = refl
  value_written (Bytes w) = refl
  value_written (Text t) = refl
  value_written (Warning t) = refl
  value_written (Kept w) = refl
  value_written (Nested n) = is.bytes n

  pub value_fits : (v : Value N)
      → ValueFits inner.Fits v ↔ ((class_codec (value_class inner v)).Fits (value_content inner v)
      × IsShort ((class_codec (value_class inner v)).write (value_content inner v)))
  value_fits (Presence b) = (λ _. (tt, omega arith), λ _. tt)
  value_fits (Truth b) = (λ _. (tt, omega arith), λ _. tt)
  value_fits (U8 n) = (λ _. (tt, omega arith), λ _. tt)
  value_fits (U16 n) = (λ _. (tt, omega arith), λ _. tt)
  value_fits (U32 n) = (λ _. (tt, omega arith), λ _. tt)
  value_fits (U16Be n) = (λ _. (tt, omega arith), λ _. tt)
  value_fits (U32Be n) = (λ _. (tt, omega arith), λ _. tt)
  value_fits (Bits1 n) = (λ _. (tt, omega arith), λ _. tt)
  value_fits (Bits3 n) = (λ _. (tt, omega arith), λ _. tt)
  value_fits (Bits20 n) = (λ _. (tt, omega arith), λ _. tt)
  value_fits (Octets4 w) = (λ fits. (tt, fits), λ fits. fits.1)
  value_fits (Octets6 w) = (λ fits. (tt, fits), λ fits. fits.1)
  value_fits (Octets8 w) = (λ fits. (tt, fits), λ fits. fits.1)
  value_fits (Octets16 w) = (λ fits. (tt, fits), λ fits. fits.1)
  value_fits (Bytes w) = (λ fits. (tt, fits), λ fits. fits.1)
  value_fits (Text t) = (λ fits. (tt, omega (arith, fits, length-append t.now (0 ∷ []))), λ fits. omega (arith, fits.1, length-append t.now (0 ∷ [])))
  value_fits (Warning t) = (λ fits. (tt, fits), λ fits. fits.1)
  value_fits (Kept w) = (λ fits. (tt, fits), λ fits. fits.1)
  value_fits (Nested n) = is.fits n

  pub value_typed : (v : Value N) → TypedValue inner.Typed v → (class_codec (value_class inner v)).Typed (value_content inner v)
  value_typed (Presence b) typed = (refl, typed)
  value_typed (Truth b) typed = (refl, typed)
  value_typed (U8 n) typed = (refl, typed)
  value_typed (U16 n) typed = (refl, typed)
  value_typed (U32 n) typed = (refl, typed)
  value_typed (U16Be n) typed = (refl, typed)
  value_typed (U32Be n) typed = (refl, typed)
  value_typed (Bits1 n) typed = (refl, typed)
  value_typed (Bits3 n) typed = (refl, typed)
  value_typed (Bits20 n) typed = (refl, typed)
  value_typed (Octets4 w) typed = (refl, typed)
  value_typed (Octets6 w) typed = (refl, typed)
  value_typed (Octets8 w) typed = (refl, typed)
  value_typed (Octets16 w) typed = (refl, typed)
  value_typed (Bytes w) typed = (refl, typed)
  value_typed (Text t) typed = (refl, typed)
  value_typed (Warning t) typed = (refl, typed)
  value_typed (Kept w) typed = (refl, typed)
  value_typed (Nested n) typed = is.typed n typed

  pub value_settled : (kind : List ℕ) (v : Value N)
      → SettledValue inner.Settled kind v ↔ (class_codec (value_class inner v)).Settled kind (value_content inner v)
  value_settled kind (Presence b) = (λ settled. settled, λ settled. settled)
  value_settled kind (Truth b) = (λ settled. settled, λ settled. settled)
  value_settled kind (U8 n) = (λ settled. settled, λ settled. settled)
  value_settled kind (U16 n) = (λ settled. settled, λ settled. settled)
  value_settled kind (U32 n) = (λ settled. settled, λ settled. settled)
  value_settled kind (U16Be n) = (λ settled. settled, λ settled. settled)
  value_settled kind (U32Be n) = (λ settled. settled, λ settled. settled)
  value_settled kind (Bits1 n) = (λ settled. settled, λ settled. settled)
  value_settled kind (Bits3 n) = (λ settled. settled, λ settled. settled)
  value_settled kind (Bits20 n) = (λ settled. settled, λ settled. settled)
  value_settled kind (Octets4 w) = (λ settled. settled, λ settled. settled)
  value_settled kind (Octets6 w) = (λ settled. settled, λ settled. settled)
  value_settled kind (Octets8 w) = (λ settled. settled, λ settled. settled)
  value_settled kind (Octets16 w) = (λ settled. settled, λ settled. settled)
  value_settled kind (Bytes w) = (λ settled. settled, λ settled. settled)
  value_settled kind (Text t) = (λ settled. settled, λ settled. settled)
  value_settled kind (Warning t) = (λ settled. settled, λ settled. settled)
  value_settled kind (Kept w) = (λ settled. settled, λ settled. settled)
  value_settled kind (Nested n) = is.settled kind n
