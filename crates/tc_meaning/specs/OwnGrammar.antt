-- The readings and faults of a list of frames that set their own kind, as the grammar of lists says. `own_grammar` in
-- src/laws.rt proves that `read_own` is this grammar.
use Rattle.std.specs.Prelude.{◌≡◌, ◌⊎◌, ℕ, List, [], ◌∷◌, Option, Some, None, Result, Ok, Err, if◌then◌else◌, ◌↔◌}
use Rattle.nla_frames.specs.declared.error.DecodeError.{DecodeError}
use Rattle.nla_frames.specs.declared.error.DecodeError.TheVariants.{MissingKind, DuplicateKind}
use Rattle.nla_frames.specs.Fault.{seen}
use Rattle.nla_frames.specs.Value.{text}
use Rattle.nla_frames.specs.Reading.{Reads, keep}
use Rattle.nla_frames.specs.ListGrammar.{ListReads, IsListFault}
use Rattle.tc_canon.specs.Kind.{is_kind_frame}
use Rattle.tc_meaning.specs.Own.{kinds_set}

-- the search for the kind: the text of a frame of type 1, and nothing for any other
abbrev pub first_look : Reads (Option (List ℕ))
first_look kind f = if is_kind_frame f then seen Some (text f.value) else Ok None

-- the texts that were found
abbrev pub kinds_found : List (Option (List ℕ)) → List (List ℕ)
kinds_found looks = kinds_set (λ look. look) looks

-- every frame of type 1 has a text, there is one such frame, and each frame is read under its text
pub record OwnReads {X : Type 0} (reads : Reads X) (bytes : List ℕ) (xs : List X) : Type 0 where
  pub looks : List (Option (List ℕ))
  pub own : List ℕ
  pub looked : ListReads first_look keep [] bytes looks
  pub one : kinds_found looks ≡ own ∷ []
  pub each : ListReads reads keep own bytes xs

-- the fault after the search: no kind, several kinds, or a fault of the list under the kind that was found
abbrev pub KindFault : {X : Type 0} → Reads X → List ℕ → List (List ℕ) → DecodeError → Type 0
KindFault reads bytes [] e = e ≡ MissingKind
KindFault reads bytes (own ∷ []) e = IsListFault reads keep own bytes e
KindFault reads bytes _ e = e ≡ DuplicateKind

-- the first fault: a fault of the search, which is a broken frame or one of type 1 that has no text; or the fault
-- after it
abbrev pub OwnFault : {X : Type 0} → Reads X → List ℕ → DecodeError → Type 0
OwnFault reads bytes e =
    IsListFault first_look keep [] bytes e
    ⊎ ((looks : List (Option (List ℕ))) × ListReads first_look keep [] bytes looks × KindFault reads bytes (kinds_found looks) e)

-- one reading and no fault, or no reading and one fault
pub record OneOwn {X : Type 0} (reads : Reads X) (bytes : List ℕ) (outcome : Result (List X) DecodeError) : Type 0 where
  pub reading : (xs : List X) → (outcome ≡ Ok xs) ↔ OwnReads reads bytes xs
  pub fault : (e : DecodeError) → (outcome ≡ Err e) ↔ OwnFault reads bytes e
