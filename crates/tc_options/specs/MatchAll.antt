-- The abstract value of an option of matchall.
use Rattle.std.specs.Prelude.{◌≡◌, map}
use Rattle.nla_frames.specs.DefaultNla.{kept_frame}
use Rattle.tc_meaning.specs.Tree.{Attribute, known, other, number, is_bytes, items, attributes_of}
use Rattle.tc_values.specs.Inner.{Inner}
use Rattle.tc_values.specs.Bodies.{items_of}
use Rattle.tc_values.specs.declared.body.Items.{Items}
use Rattle.tc_records.specs.Header.{handle_number}
use Rattle.tc_actions.specs.Action.{tc_action, an_action}
use Rattle.tc_actions.specs.declared.actions.action.TcAction.{TcAction}
use Rattle.tc_options.specs.declared.filters.matchall.TcFilterMatchAllOption.{TcFilterMatchAllOption}
use Rattle.tc_options.specs.declared.filters.matchall.TcFilterMatchAllOption.TheVariants.{ClassId, Action, Pnct, Flags, Other}

abbrev pub matchall_option : {A : Type 0} → TcFilterMatchAllOption A → Attribute
matchall_option (ClassId handle) = known 1 (number (handle_number handle))
matchall_option (Action actions) = known 2 (items (attributes_of (map tc_action actions.items)))
matchall_option (Pnct bytes) = known 4 (is_bytes bytes.items)
matchall_option (Flags n) = known 3 (number n)
matchall_option (Other nla) = other (kept_frame nla).word (kept_frame nla).value

-- two options hold the same: the same handle's number, actions that are equal one by one, the same bytes; one that
-- is kept raw the same word and payload; all others are equal
abbrev pub SameMatchAll : {A : Type 0} → TcFilterMatchAllOption A → TcFilterMatchAllOption A → Type 0
SameMatchAll (ClassId h) (ClassId k) = handle_number h ≡ handle_number k
SameMatchAll (Action v) (Action w) = map tc_action v.items ≡ map tc_action w.items
SameMatchAll (Pnct v) (Pnct w) = v.items ≡ w.items
SameMatchAll (Other x) (Other y) = kept_frame x ≡ kept_frame y
SameMatchAll a b = a ≡ b

-- actions as the value of an attribute
abbrev pub action_list : {A : Type 0} → Inner (Items (TcAction A))
action_list = items_of tc_action an_action
