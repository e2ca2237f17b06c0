-- A list that holds its own kind, as the value of an action.
use Rattle.std.proofs.Common.{◌≡◌, ℕ, ◌≤◌, ◌<◌, ◌^◌, Option, ◌↔◌, List, [], Bool, IsTrue, Ok, refl, sym, subst, ◌∙◌, map}
use Rattle.std.specs.List.{AllByRecursion}
use Rattle.nla_frames.specs.declared.error.DecodeError.{DecodeError}
use Rattle.nla_frames.specs.Fault.{Returns, refused}
use Rattle.nla_frames.specs.Frame.{Frame}
use Rattle.nla_frames.specs.Emission.{list_bytes, ListFits, NestedFits, Measures}
use Rattle.nla_frames.specs.OnlyKind.{SettledUnderOwn}
use Rattle.nla_frames.proofs.Outcomes.{Returns-err}
use Rattle.nla_frames.proofs.OwnKinds.{kinds_set-map}
use Rattle.tc_canon.specs.Descriptor.{table}
use Rattle.tc_canon.specs.Tables.Actions.{action_attributes}
use Rattle.tc_meaning.specs.Tree.{Attribute, known, items, attributes_of}
use Rattle.tc_meaning.specs.Own.{kind_of_attribute, read_own}
use Rattle.tc_meaning.specs.Meaning.{table_codec}
use Rattle.tc_meaning.proofs.Trees.{attributes_again}
use Rattle.tc_laws.specs.Order.{Exchanges, ReadsAction, read_action_attribute}
use Rattle.tc_actions.specs.ActionAttribute.{action_attribute}
use Rattle.tc_actions.specs.Action.{an_action, KeepsOrder}
use Rattle.tc_actions.specs.declared.actions.attribute.TcActionAttribute.{TcActionAttribute}

-- the fault of the list is that of the action
pub action_refused : (e : DecodeError) (f : Frame) → Returns (refused e) (read_own read_action_attribute f.value)
    → Returns (refused e) ((table_codec an_action).read [] f)
action_refused e f given = Returns-err e _ _ given (λ is. rw is refl)

-- an action that is read keeps the order of its frames
pub keeps_order : (f : Frame) (xs : List Attribute) → Exchanges (ReadsAction [] f.word) → read_own read_action_attribute f.value ≡ Ok xs → KeepsOrder f xs
keeps_order f xs law is front one two back fs g h gs p q r s same =
    let reads : ReadsAction [] f.word f.value xs = rw is refl in
    law front one two back fs g h gs p q r s xs (subst (λ v. ReadsAction [] f.word v xs) same reads)

-- the action fits if and only if its list does, and is as long
pub action_measured : (tab : ℕ) (xs : List Attribute) (len : Option ℕ)
    → Measures len (NestedFits (table_codec (table action_attributes)).Fits (table_codec (table action_attributes)).write xs)
    (list_bytes (table_codec (table action_attributes)).write xs)
    → Measures len ((table_codec an_action).Fits (known tab (items (attributes_of xs))))
    ((table_codec an_action).write (known tab (items (attributes_of xs)))).value
action_measured tab xs len is = rw attributes_again is

-- if the action fits, its list can be written
pub action_listed : (tab : ℕ) (xs : List Attribute) → (table_codec an_action).Fits (known tab (items (attributes_of xs)))
    → ListFits (table_codec (table action_attributes)).Fits (table_codec (table action_attributes)).write xs
action_listed tab xs fits = (rw attributes_again at fits).0

-- its value is the list's bytes
pub action_value : (tab : ℕ) (xs : List Attribute)
    → ((table_codec an_action).write (known tab (items (attributes_of xs)))).value ≡ list_bytes (table_codec (table action_attributes)).write xs
action_value tab xs = rw attributes_again refl

-- it is typed if the attributes of its list are
pub action_typed : (tab : ℕ) (xs : List Attribute) → tab < 256 ^ 2 → AllByRecursion (table_codec (table action_attributes)).Typed xs
    → (table_codec an_action).Typed (known tab (items (attributes_of xs)))
action_typed tab xs low typed = rw attributes_again (low, (refl, typed))

-- if the type has no flags, the list is settled under its own kind if and only if the action is
pub action_settled : {A : Type 0} (kind : List ℕ) (tab : ℕ) (list : List (TcActionAttribute A)) (b : Bool) → tab ≤ 0x3FFF
    → IsTrue b ↔ SettledUnderOwn action_attribute (table_codec (table action_attributes)).Settled (λ x. kind_of_attribute (action_attribute x)) list
    → IsTrue b ↔ (table_codec an_action).Settled kind (known tab (items (attributes_of (map action_attribute list))))
action_settled kind tab list b low settled =
    let same = kinds_set-map action_attribute kind_of_attribute list in
    rw attributes_again (
      λ yes. let s = settled.0 yes in (low, (s.0, same ∙ s.1, s.2)),
      λ s. settled.1 (s.1.0, sym same ∙ s.1.1, s.1.2),
    )
