-- Exchanging two neighbouring frames of a list in which all frames are padded in full.
use Rattle.std.specs.Prelude.{◌≡◌, ℕ, zero, suc, List, [], ◌∷◌, ◌++◌, length, Ok}
use Rattle.nla_frames.specs.Frame.{Frame, type_of}
use Rattle.nla_frames.specs.Grammar.{AreFramesAndRest}
use Rattle.nla_frames.specs.Reading.{Reads}
use Rattle.tc_canon.specs.Descriptor.{own_list, every}
use Rattle.tc_canon.specs.Tables.Actions.{action_attributes}
use Rattle.tc_meaning.specs.Tree.{items, Attribute, known, attributes_of}
use Rattle.tc_meaning.specs.Meaning.{table_codec, by_type, rows_codec}

-- the bytes are these frames, each with its full padding, of any content
abbrev pub InFull : List ℕ → List Frame → Type 0
InFull bytes fs = AreFramesAndRest bytes fs []

-- the elements at a place and right after it, exchanged
abbrev pub exchanged : {X : Type 0} → ℕ → List X → List X
exchanged zero (x ∷ y ∷ xs) = y ∷ x ∷ xs
exchanged (suc n) (x ∷ xs) = x ∷ exchanged n xs
exchanged _ xs = xs

-- if neighbouring frames are exchanged with their padding, the bytes still read, with the two readings exchanged
abbrev pub Exchanges : {X : Type 0} → (List ℕ → List X → Type 0) → Type 0
Exchanges ReadsAs =
    (front one two back : List ℕ) (fs : List Frame) (f g : Frame) (gs : List Frame)
    → InFull front fs → InFull one (f ∷ []) → InFull two (g ∷ []) → InFull back gs
    → (xs : List _) → ReadsAs (front ++ (one ++ (two ++ back))) xs → ReadsAs (front ++ (two ++ (one ++ back))) (exchanged (length fs) xs)

-- the reading of an action from a frame of any type, and of an attribute of an action
abbrev pub read_action : Reads Attribute
read_action = (table_codec (every (own_list action_attributes))).read

abbrev pub read_action_attribute : Reads Attribute
read_action_attribute = (by_type (rows_codec action_attributes)).read

-- a frame of this word and value is read as an action with these attributes
abbrev pub ReadsAction : List ℕ → ℕ → List ℕ → List Attribute → Type 0
ReadsAction kind word value xs = read_action kind (record { word = word; value = value }) ≡ Ok (known (type_of word) (items (attributes_of xs)))
