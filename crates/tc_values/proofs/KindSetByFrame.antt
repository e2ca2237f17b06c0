-- The kind that a frame of type 1 sets: its payload, if that is UTF-8.
use Rattle.std.proofs.Common.{◌≡◌, List, [], ℕ, Option, Some, refl}
use Rattle.std.specs.Str.{IsUtf8}
use Rattle.nla_frames.specs.declared.error.DecodeError.TheVariants.{NotUtf8}
use Rattle.nla_frames.specs.Fault.{Outcome, read_as, refused}
use Rattle.nla_frames.specs.Value.{strip, text}
use Rattle.nla_frames.specs.Frame.{Frame, type_of}
use Rattle.nla_frames.proofs.Texts.{text-ok, text-err}
use Rattle.tc_meaning.specs.OwnGrammar.{first_look}

-- a frame of type 1 whose payload is UTF-8
pub kind_found : (f : Frame) (bytes front kind : List ℕ) → type_of f.word ≡ 1 → bytes ≡ f.value → front ≡ strip bytes → IsUtf8 front → kind ≡ front
    → ◌≡◌ {A = Outcome (Option (List ℕ))} (read_as (Some kind)) (first_look [] f)
kind_found f bytes front kind one same is_front is_text is =
    let reads : text f.value ≡ read_as kind = rw (is, ← same) (text-ok bytes front is_front is_text) in
    rw (one, reads) refl

-- a frame of type 1 whose payload isn't UTF-8
pub kind_refused : (f : Frame) (bytes front : List ℕ) → type_of f.word ≡ 1 → bytes ≡ f.value → front ≡ strip bytes → (IsUtf8 front → ⊥)
    → ◌≡◌ {A = Outcome (Option (List ℕ))} (refused NotUtf8) (first_look [] f)
kind_refused f bytes front one same is_front not =
    let refuses : text f.value ≡ refused NotUtf8 = rw (← same) (text-err bytes front is_front not) in
    rw (one, refuses) refl
