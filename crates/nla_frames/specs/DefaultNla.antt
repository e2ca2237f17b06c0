-- The abstract value of an attribute that is kept raw.
use Rattle.std.specs.Prelude.{ℕ, ◌<◌, ◌≤◌, ◌^◌, List, length, Ok}
use Rattle.nla_frames.specs.Value.{IsBytes}
use Rattle.nla_frames.specs.Frame.{Frame}
use Rattle.nla_frames.specs.Codec.{Codec}
use Rattle.nla_frames.specs.declared.default_nla.DefaultNla.{DefaultNla}

module _ {A : Type 0} where
  -- its frame
  abbrev pub kept_frame : DefaultNla A → Frame
  kept_frame nla = record { word = nla.word; value = nla.value.items }

-- it is read and written unchanged
abbrev pub kept_codec : Codec Frame Frame
kept_codec = record {
  read = λ kind f. Ok f;
  write = λ f. f;
  Typed = λ f. (f.word < 2 ^ 16) × IsBytes f.value;
  Fits = λ f. length f.value ≤ 65531;
  Settled = λ kind f. Unit {0};
}

-- any frame is canonical
abbrev pub any_frame : List ℕ → Frame → Type 0
any_frame kind f = Unit {0}
