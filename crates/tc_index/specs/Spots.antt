-- The attributes of a value, each before those nested in it, as depths and types.
use Rattle.std.specs.Prelude.{◌≡◌, ℕ, suc, List, [], ◌∷◌, ◌++◌, map, Result, Ok, Err}
use Rattle.nla_frames.specs.Frame.{type_of}
use Rattle.tc_meaning.specs.Tree.{Content, items, Attribute, known, kept, other, of_kind, Attributes, none, and}
use Rattle.tc_index.specs.declared.attribute.BrokenFrame.{BrokenFrame}
use Rattle.tc_index.specs.Attributes.{Item}

-- depth and type of an attribute
abbrev pub Spot : Type 0
Spot = ℕ × ℕ

abbrev mutual
  -- an attribute, then those nested in it
  pub spots_of : ℕ → Attribute → List Spot
  spots_of depth (known n content) = (depth, n) ∷ spots_within (suc depth) content
  spots_of depth (kept n word value) = (depth, n) ∷ []
  spots_of depth (other word value) = (depth, type_of word) ∷ []
  spots_of depth (of_kind name x) = spots_of depth x

  pub spots_within : ℕ → Content → List Spot
  spots_within depth (items xs) = spots_in depth xs
  spots_within depth _ = []

  pub spots_in : ℕ → Attributes → List Spot
  spots_in depth none = []
  spots_in depth (and x xs) = spots_of depth x ++ spots_in depth xs

-- depth and type of an item found in bytes
abbrev pub spot_of : Item → Result Spot BrokenFrame
spot_of (Ok p) = Ok (p.depth, type_of p.frame.word)
spot_of (Err broken) = Err broken

abbrev pub found : Spot → Result Spot BrokenFrame
found spot = Ok spot

-- the items are attributes at these spots, and no frame is malformed
abbrev pub AreAt : List Item → List Spot → Type 0
AreAt xs spots = map spot_of xs ≡ map found spots
