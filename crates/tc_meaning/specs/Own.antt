-- A list of frames that are read under the kind that they set themselves: the text of the one frame of type 1.
use Rattle.std.specs.Prelude.{◌≡◌, ℕ, suc, zero, List, [], ◌∷◌, Some, None, Ok, Err, ◌==◌, if◌then◌else◌}
use Rattle.std.specs.List.{AllByRecursion}
use Rattle.nla_frames.specs.declared.error.DecodeError.TheVariants.{MissingKind, DuplicateKind}
use Rattle.nla_frames.specs.Fault.{Outcome, seen, ◌>>=◌}
use Rattle.nla_frames.specs.Value.{text}
use Rattle.nla_frames.specs.Frame.{Frame, type_of}
use Rattle.nla_frames.specs.Cutting.{cut, items_of}
pub use Rattle.nla_frames.specs.Place.{Sets, kind_before, kinds_set}
use Rattle.nla_frames.specs.Reading.{Reads, keep, read_list}
use Rattle.nla_frames.specs.Emission.{list_bytes, ListFits}
use Rattle.nla_frames.specs.Codec.{Codec}
pub use Rattle.tc_canon.specs.Kind.{kind_of_frame}
use Rattle.tc_meaning.specs.Tree.{Attribute, known, is_bytes}

-- a text of type 1 sets the kind, as its frame does
abbrev pub kind_of_attribute : Sets Attribute
kind_of_attribute (known (suc zero) (is_bytes name)) = Some name
kind_of_attribute _ = None

-- the texts of all frames of type 1, up to a broken frame or one that has no text
unfoldable pub read_kinds : List (Outcome Frame) → Outcome (List (List ℕ))
read_kinds [] = Ok []
read_kinds (Err e ∷ items) = Err e
read_kinds (Ok f ∷ items) = if type_of f.word == 1 then (text f.value >>= λ kind. seen (λ kinds. kind ∷ kinds) (read_kinds items)) else read_kinds items

-- the only one
abbrev pub only_kind : List (List ℕ) → Outcome (List ℕ)
only_kind [] = Err MissingKind
only_kind (kind ∷ []) = Ok kind
only_kind _ = Err DuplicateKind

-- all frames are searched for the kind before the first is read
unfoldable pub read_own : {X : Type 0} → Reads X → List ℕ → Outcome (List X)
read_own reads bytes = read_kinds (items_of (cut bytes)) >>= only_kind >>= λ kind. read_list reads keep kind bytes

-- one kind is set, and each value is settled under it
abbrev pub SettledOwn : (List ℕ → Attribute → Type 0) → List Attribute → Type 0
SettledOwn Settled xs = (kind : List ℕ) × (kinds_set kind_of_attribute xs ≡ kind ∷ []) × AllByRecursion (Settled kind) xs

abbrev pub own_codec : Codec Frame Attribute → Codec (List ℕ) (List Attribute)
own_codec c = record {
  read = λ kind bytes. read_own c.read bytes;
  write = list_bytes c.write;
  Typed = AllByRecursion c.Typed;
  Fits = ListFits c.Fits c.write;
  Settled = λ kind xs. SettledOwn c.Settled xs;
}
