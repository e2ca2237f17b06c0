-- The attributes of a message with offsets and lengths, and an array of them.
use Rattle.std.specs.Prelude.{◌≡◌, ℕ, suc, ◌+◌, List, [], ◌∷◌, ◌++◌, length, take, drop, map, slice_set, Bool, true, false, Option, Some, Ok, Err}
use Rattle.tc_index.specs.declared.attribute.Node.{Node}
use Rattle.tc_index.specs.Attributes.{Item, tc_items, action_items}
use Rattle.tc_index.specs.Views.{NodeView, node_of, node_view}

-- the attributes before the first malformed frame
abbrev pub nodes_of : List Item → List NodeView
nodes_of [] = []
nodes_of (Ok p ∷ items) = node_of p ∷ nodes_of items
nodes_of (Err broken ∷ items) = []

abbrev pub tc_nodes : List ℕ → List NodeView
tc_nodes bytes = nodes_of (tc_items bytes)

abbrev pub action_nodes : List ℕ → List NodeView
action_nodes bytes = nodes_of (action_items bytes)

-- the first slots hold the attributes, as many as fit, and the others are unchanged
abbrev pub Fills : List NodeView → List Node → List Node → Type 0
Fills nodes old new = map node_view new ≡ take (length old) nodes ++ drop (length nodes) (map node_view old)

-- the same for slots of any type; `seen` is the attribute in a slot
abbrev pub FillsBy : {S : Type 0} → (S → Option NodeView) → List NodeView → List S → List S → Type 0
FillsBy seen nodes old new = map seen new ≡ take (length old) (map Some nodes) ++ drop (length nodes) (map seen old)

-- the slots after the attributes are unchanged
abbrev pub KeepsAfter : {S : Type 0} → List NodeView → List S → List S → Type 0
KeepsAfter nodes old new = drop (length nodes) new ≡ drop (length nodes) old

-- the elements in consecutive slots from an index on
abbrev pub filled : {X : Type 0} → ℕ → List X → List X → List X
filled n [] slots = slots
filled n (x ∷ xs) slots = filled (suc n) xs (slice_set slots n x)

-- no frame is malformed
abbrev pub is_whole : List Item → Bool
is_whole [] = true
is_whole (Ok p ∷ items) = is_whole items
is_whole (Err broken ∷ items) = false

-- the attributes among the items, up to the first malformed frame, are in the slots from `start` on; `n` is the index
-- after them
pub record Puts {S : Type 0} (seen : S → Option NodeView) (items : List Item) (start : ℕ) (old : List S) (n : ℕ) (new : List S) (whole : Bool) : Type 0 where
  pub count : n ≡ start + length (nodes_of items)
  pub slots : map seen new ≡ filled start (map Some (nodes_of items)) (map seen old)
  pub after : drop n new ≡ drop n old
  pub all : whole ≡ is_whole items
