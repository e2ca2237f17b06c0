-- The test of a text, compared with std's test of UTF-8.
use Rattle.std.proofs.Common.{◌≡◌, ℕ, List, Bool, true, false, refl, cond, get_or, Fits, w8}
use Rattle.std.specs.Str.{IsUtf8, is_utf8}
use Rattle.std.proofs.lemmas.Str.{IsUtf8-from_is_utf8, is_utf8-from_IsUtf8}
use Rattle.nla_frames.specs.declared.error.DecodeError.TheVariants.{NotUtf8}
use Rattle.nla_frames.specs.Fault.{read_as, refused}
use Rattle.nla_frames.specs.Value.{IsText, strip, text}
use Rattle.nla_frames.proofs.Bytes.{IsBytes-slice}

-- the bytes before the NUL are UTF-8
pub text-ok : (value front : List ℕ) → front ≡ strip value → IsUtf8 front → text value ≡ read_as front
text-ok value front is_front is_text = rw (← is_front, is_utf8-from_IsUtf8 front is_text) refl

-- they are not
pub text-err : (value front : List ℕ) → front ≡ strip value → (IsUtf8 front → ⊥) → text value ≡ refused NotUtf8
text-err value front is_front not = rw (← is_front) (go (is_utf8 front) refl)
  where
    go : (b : Bool) → is_utf8 front ≡ b → cond b (read_as front) (refused NotUtf8) ≡ refused NotUtf8
    go true e = absurd (not (IsUtf8-from_is_utf8 front e))
    go false e = refl

-- a `str` is UTF-8
pub IsText-slice : (text : List ℕ) → ((i : ℕ) → Fits w8 (get_or text i 0)) → IsUtf8 text → IsText text
IsText-slice text fits is_text = record { is_bytes = IsBytes-slice text fits; is_text = is_utf8-from_IsUtf8 text is_text }
