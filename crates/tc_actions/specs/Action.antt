-- The abstract value of an action.
use Rattle.std.specs.Prelude.{◌≡◌, ℕ, List, [], ◌∷◌, ◌++◌, length, map}
use Rattle.nla_frames.specs.Frame.{Frame}
use Rattle.tc_canon.specs.Descriptor.{Table, every, own_list}
use Rattle.tc_canon.specs.Tables.Actions.{action_attributes}
use Rattle.tc_meaning.specs.Tree.{Attribute, known, items, attributes_of}
use Rattle.tc_laws.specs.Order.{InFull, exchanged, ReadsAction}
use Rattle.tc_actions.specs.ActionAttribute.{action_attribute}
use Rattle.tc_actions.specs.declared.actions.action.TcAction.{TcAction}

abbrev pub listed : {A : Type 0} → TcAction A → List Attribute
listed action = map action_attribute action.attributes.items

-- under the type of its frame, a list of attributes
abbrev pub tc_action : {A : Type 0} → TcAction A → Attribute
tc_action action = known action.tab (items (attributes_of (listed action)))

-- two actions hold the same: attributes that are equal one by one; they have nothing else but `tab`
abbrev pub SameAction : {A : Type 0} → TcAction A → TcAction A → Type 0
SameAction a b = (listed a ≡ listed b) × (a.attributes ≡ b.attributes → a ≡ b)

-- the table of a frame that is an action, whatever its type
abbrev pub an_action : Table
an_action = every (own_list action_attributes)

-- if a frame's value is frames that are each padded in full, exchanging two neighbours gives an action under the same
-- word, with the same attributes but for the two that are exchanged
abbrev pub KeepsOrder : Frame → List Attribute → Type 0
KeepsOrder f xs =
    (front one two back : List ℕ) (fs : List Frame) (g h : Frame) (gs : List Frame)
    → InFull front fs → InFull one (g ∷ []) → InFull two (h ∷ []) → InFull back gs → f.value ≡ front ++ (one ++ (two ++ back))
    → ReadsAction [] f.word (front ++ (two ++ (one ++ back))) (exchanged (length fs) xs)
