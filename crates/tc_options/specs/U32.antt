-- The abstract value of an option of u32.
use Rattle.std.specs.Prelude.{◌≡◌, map}
use Rattle.nla_frames.specs.DefaultNla.{kept_frame}
use Rattle.tc_canon.specs.Descriptor.{selector}
use Rattle.tc_meaning.specs.Tree.{Attribute, known, other, number, is_bytes, items, attributes_of}
use Rattle.tc_meaning.specs.Content.{a_selector, selector_codec}
use Rattle.tc_values.specs.Inner.{Inner}
use Rattle.tc_values.specs.Bodies.{part_of, either}
use Rattle.tc_values.specs.declared.body.Items.{Items}
use Rattle.tc_values.specs.declared.body.Record.{Record}
use Rattle.tc_values.specs.declared.body.Either.{Either}
use Rattle.tc_records.specs.Header.{handle_number}
use Rattle.tc_records.specs.FilterFlags.{option_flags_word}
use Rattle.tc_records.specs.Selector.{selector_of}
use Rattle.tc_records.specs.declared.filters.u32_selector.TcU32Selector.{TcU32Selector}
use Rattle.tc_actions.specs.Action.{tc_action}
use Rattle.tc_actions.specs.declared.actions.action.TcAction.{TcAction}
use Rattle.tc_options.specs.MatchAll.{action_list}
use Rattle.tc_options.specs.declared.filters.cls_u32.TcFilterU32Option.{TcFilterU32Option}
use Rattle.tc_options.specs.declared.filters.cls_u32.TcFilterU32Option.TheVariants.{ClassId, Hash, Link, Divisor, Selector, Police, Action, Indev, Pnct, Mark}
use Rattle.tc_options.specs.declared.filters.cls_u32.TcFilterU32Option.TheVariants.{Flags, Other}

abbrev pub u32_option : {A : Type 0} → TcFilterU32Option A → Attribute
u32_option (ClassId handle) = known 1 (number (handle_number handle))
u32_option (Hash n) = known 2 (number n)
u32_option (Link n) = known 3 (number n)
u32_option (Divisor n) = known 4 (number n)
u32_option (Selector compared) = known 5 (a_selector.into (selector_of compared))
u32_option (Police bytes) = known 6 (is_bytes bytes.items)
u32_option (Action actions) = known 7 (items (attributes_of (map tc_action actions.items)))
u32_option (Indev bytes) = known 8 (is_bytes bytes.items)
u32_option (Pnct bytes) = known 9 (is_bytes bytes.items)
u32_option (Mark bytes) = known 10 (is_bytes bytes.items)
u32_option (Flags flags) = known 11 (number (option_flags_word flags))
u32_option (Other nla) = other (kept_frame nla).word (kept_frame nla).value

-- two options hold the same: the same handle's number, a selector with the same fields and keys, actions that are
-- equal one by one, the same bytes; one that is kept raw the same word and payload; all others are equal
abbrev pub SameU32 : {A : Type 0} → TcFilterU32Option A → TcFilterU32Option A → Type 0
SameU32 (ClassId h) (ClassId k) = handle_number h ≡ handle_number k
SameU32 (Selector s) (Selector t) = selector_of s ≡ selector_of t
SameU32 (Police v) (Police w) = v.items ≡ w.items
SameU32 (Action v) (Action w) = map tc_action v.items ≡ map tc_action w.items
SameU32 (Indev v) (Indev w) = v.items ≡ w.items
SameU32 (Pnct v) (Pnct w) = v.items ≡ w.items
SameU32 (Mark v) (Mark w) = v.items ≡ w.items
SameU32 (Other x) (Other y) = kept_frame x ≡ kept_frame y
SameU32 a b = a ≡ b

-- a selector as the value of an attribute
abbrev pub selector_part : {A : Type 0} → Inner (Record (TcU32Selector A))
selector_part = part_of selector_of a_selector selector_codec selector

-- nested values of the options
abbrev pub u32_body : {A : Type 0} → Inner (Either (Record (TcU32Selector A)) (Items (TcAction A)))
u32_body = either selector_part action_list
