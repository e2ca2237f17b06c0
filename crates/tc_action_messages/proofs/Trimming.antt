-- A value without warnings and masked numbers is unchanged when warnings are trimmed, and no part of it ends in a NUL.
use Rattle.std.proofs.Common.{◌≡◌, ℕ, Bool, true, false, ◌&&◌, List, [], ◌∷◌, map, cond, eqb, refl, ap, ap₂, ◌∙◌, codes}
use Rattle.std.specs.List.{flat_map}
use Rattle.std.proofs.lemmas.Bool.{and_parts}
use Rattle.tc_canon.specs.Descriptor.{Class, le, be, masked, array, raw, text, warning, presence, truth, fields, selector, pair, xstats, list_of, own_list}
use Rattle.tc_canon.specs.Descriptor.{table, by_kind, Rows, others, types, unread, options, is_within}
use Rattle.tc_canon.specs.Tables.Statistics.{stats2}
use Rattle.tc_canon.specs.Tables.Actions.{mirror_options, nat_options, tunnel_key_options, action_option_kinds, action_attributes}
use Rattle.tc_canon.specs.Tables.Messages.{action_message_attributes}
use Rattle.tc_meaning.specs.Tree.{Content, Attribute, known, kept, other, of_kind, items, attributes_of}
use Rattle.tc_meaning.specs.Meaning.{a_list}
use Rattle.tc_meaning.proofs.Trees.{attributes_again}
use Rattle.tc_laws.specs.Loose.{Part, parts_in_known, class_parts, table_parts, rows_parts, without_nuls}
use Rattle.tc_laws.specs.Norm.{on, in_known, trimmed_class, trimmed_table, trimmed_rows}
use Rattle.tc_actions.specs.Stats2.{tc_stats2}
use Rattle.tc_actions.specs.Mirror.{mirror_option}
use Rattle.tc_actions.specs.Nat.{nat_option}
use Rattle.tc_actions.specs.TunnelKey.{tunnel_key_option}
use Rattle.tc_actions.specs.ActionOption.{action_option}
use Rattle.tc_actions.specs.ActionAttribute.{action_attribute}
use Rattle.tc_actions.specs.Action.{an_action, tc_action}
use Rattle.tc_actions.specs.declared.actions.option.TcActionOption.{TcActionOption}
use Rattle.tc_actions.specs.declared.actions.option.TcActionOption.TheVariants as option
use Rattle.tc_actions.specs.declared.actions.attribute.TcActionAttribute.{TcActionAttribute}
use Rattle.tc_actions.specs.declared.actions.attribute.TcActionAttribute.TheVariants as attribute
use Rattle.tc_actions.specs.declared.actions.action.TcAction.{TcAction}
use Rattle.tc_action_messages.specs.ActionMessageAttribute.{action_message_attribute}
use Rattle.tc_action_messages.specs.declared.attribute.TcActionMessageAttribute.{TcActionMessageAttribute}
use Rattle.tc_action_messages.specs.declared.attribute.TcActionMessageAttribute.TheVariants.{Actions, Flags, RootCount, RootTimeDelta, RootExtWarnMsg, Other}

-- a value stays, and has no parts
pub record Stays {X : Type 0} (change : X → X) (parts : X → List Part) (x : X) : Type 0 where
  pub same : change x ≡ x
  pub none : parts x ≡ []

-- ---- rows whose contents are neither changed nor lists

abbrev is_flat_class : Class → Bool
is_flat_class (masked n bits) = false
is_flat_class warning = false
is_flat_class (list_of t) = false
is_flat_class (own_list rows) = false
is_flat_class _ = true

abbrev is_flat : Rows → Bool
is_flat others = true
is_flat (types first last flags class rows) = is_flat_class class && is_flat rows
is_flat (unread m class rows) = is_flat_class class && is_flat rows
is_flat (options m kinds rows) = false

flat_class : (class : Class) → is_flat_class class ≡ true → (x : Content) → Stays (trimmed_class without_nuls class) (class_parts class) x
flat_class (le n) flat x = record { same = refl; none = refl }
flat_class (be n) flat x = record { same = refl; none = refl }
flat_class (masked n bits) flat x = absurd cc
flat_class (array n) flat x = record { same = refl; none = refl }
flat_class raw flat x = record { same = refl; none = refl }
flat_class text flat x = record { same = refl; none = refl }
flat_class warning flat x = absurd cc
flat_class presence flat x = record { same = refl; none = refl }
flat_class truth flat x = record { same = refl; none = refl }
flat_class (fields layout) flat x = record { same = refl; none = refl }
flat_class selector flat x = record { same = refl; none = refl }
flat_class pair flat x = record { same = refl; none = refl }
flat_class xstats flat x = record { same = refl; none = refl }
flat_class (list_of t) flat x = absurd cc
flat_class (own_list rows) flat x = absurd cc

pick : (b : Bool) (this that : Content → Content) (ps qs : Content → List Part) (x : Content) → Stays this ps x → Stays that qs x
    → Stays (λ y. cond b (this y) (that y)) (λ y. cond b (ps y) (qs y)) x
pick true this that ps qs x a b = record { same = a.same; none = a.none }
pick false this that ps qs x a b = record { same = b.same; none = b.none }

flat_rows : (rows : Rows) → is_flat rows ≡ true → (n : ℕ) (x : Content) → Stays (trimmed_rows without_nuls rows n) (rows_parts rows n) x
flat_rows others flat n x = record { same = refl; none = refl }
flat_rows (types first last flags class rows) flat n x =
    let a = and_parts (is_flat_class class) (is_flat rows) flat in
    let s = pick (is_within first last n) (trimmed_class without_nuls class) (trimmed_rows without_nuls rows n) (class_parts class)
    (rows_parts rows n) x (flat_class class a.0 x) (flat_rows rows a.1 n x) in
    record { same = s.same; none = s.none }
flat_rows (unread m class rows) flat n x =
    let a = and_parts (is_flat_class class) (is_flat rows) flat in
    let s = pick (eqb n m) (trimmed_class without_nuls class) (trimmed_rows without_nuls rows n) (class_parts class) (rows_parts rows n) x
    (flat_class class a.0 x) (flat_rows rows a.1 n x) in
    record { same = s.same; none = s.none }
flat_rows (options m kinds rows) flat n x = absurd cc

-- an attribute by such rows
flat_attribute : (rows : Rows) → is_flat rows ≡ true → (x : Attribute) → Stays (in_known (trimmed_rows without_nuls rows)) (parts_in_known (rows_parts rows)) x
flat_attribute rows flat (known n content) = let s = flat_rows rows flat n content in record { same = ap (known n) s.same; none = s.none }
flat_attribute rows flat (kept n word value) = record { same = refl; none = refl }
flat_attribute rows flat (other word value) = record { same = refl; none = refl }
flat_attribute rows flat (of_kind name x) = record { same = refl; none = refl }

-- ---- lists

abbrev list_change : (Attribute → Attribute) → Content → Content
list_change change = on a_list (map change)

abbrev list_parts : (Attribute → List Part) → Content → List Part
list_parts parts x = flat_map parts (a_list.out x)

-- a list whose elements stay
list_stays : {T : Type 0} (see : T → Attribute) (change : Attribute → Attribute) (parts : Attribute → List Part) → ((x : T) → Stays change parts (see x))
    → (list : List T) → Stays (list_change change) (list_parts parts) (items (attributes_of (map see list)))
list_stays {T = T} see change parts each list = record {
  same = ap (λ (xs : List Attribute). items (attributes_of (map change xs))) (attributes_again (map see list))
      ∙ ap (λ (xs : List Attribute). items (attributes_of xs)) (all_same list);
  none = ap (flat_map parts) (attributes_again (map see list)) ∙ all_none list;
}
  where
    all_same : (xs : List T) → map change (map see xs) ≡ map see xs
    all_same [] = refl
    all_same (x ∷ xs) = ap₂ (λ (y : Attribute) (ys : List Attribute). y ∷ ys) (each x).same (all_same xs)

    all_none : (xs : List T) → flat_map parts (map see xs) ≡ []
    all_none [] = refl
    all_none (x ∷ xs) = rw ((each x).none) (all_none xs)

-- ---- actions

module _ {A : Type 0} where
  option_stays : (x : TcActionOption A)
      → Stays (trimmed_table without_nuls (by_kind action_option_kinds)) (table_parts (by_kind action_option_kinds)) (action_option x)
  option_stays (option.Mirror x) =
      let s = flat_attribute mirror_options refl (mirror_option x) in
      record { same = ap (of_kind (codes "mirred")) s.same; none = s.none }
  option_stays (option.Nat x) = let s = flat_attribute nat_options refl (nat_option x) in record { same = ap (of_kind (codes "nat")) s.same; none = s.none }
  option_stays (option.TunnelKey x) =
      let s = flat_attribute tunnel_key_options refl (tunnel_key_option x) in
      record { same = ap (of_kind (codes "tunnel_key")) s.same; none = s.none }
  option_stays (option.Other nla) = record { same = refl; none = refl }

  attribute_stays : (x : TcActionAttribute A)
      → Stays (in_known (trimmed_rows without_nuls action_attributes)) (parts_in_known (rows_parts action_attributes)) (action_attribute x)
  attribute_stays (attribute.Kind kind) = record { same = refl; none = refl }
  attribute_stays (attribute.Options list) =
      let s = list_stays action_option (trimmed_table without_nuls (by_kind action_option_kinds))
      (table_parts (by_kind action_option_kinds)) option_stays list.items in
      record { same = ap (known 2) s.same; none = s.none }
  attribute_stays (attribute.Index n) = record { same = refl; none = refl }
  attribute_stays (attribute.Stats list) =
      let s = list_stays tc_stats2 (trimmed_table without_nuls (table stats2)) (table_parts (table stats2))
      (λ x. flat_attribute stats2 refl (tc_stats2 x)) list.items in
      record { same = ap (known 4) s.same; none = s.none }
  attribute_stays (attribute.Cookie bytes) = record { same = refl; none = refl }
  attribute_stays (attribute.InHwCount n) = record { same = refl; none = refl }
  attribute_stays (attribute.Other nla) = record { same = refl; none = refl }

  action_stays : (x : TcAction A) → Stays (trimmed_table without_nuls an_action) (table_parts an_action) (tc_action x)
  action_stays x =
      let s = list_stays action_attribute (in_known (trimmed_rows without_nuls action_attributes))
      (parts_in_known (rows_parts action_attributes)) attribute_stays x.attributes.items in
      record { same = ap (known x.tab) s.same; none = s.none }

  -- an attribute that is no warning
  pub others_stay : (x : TcActionMessageAttribute A) → ((string : _) → x ≡ RootExtWarnMsg string → ⊥)
      → Stays (trimmed_table without_nuls (table action_message_attributes)) (table_parts (table action_message_attributes)) (action_message_attribute x)
  others_stay (Actions list) not =
      let s = list_stays tc_action (trimmed_table without_nuls an_action) (table_parts an_action) action_stays list.items in
      record { same = ap (known 1) s.same; none = s.none }
  others_stay (Flags flags) not = record { same = refl; none = refl }
  others_stay (RootCount n) not = record { same = refl; none = refl }
  others_stay (RootTimeDelta n) not = record { same = refl; none = refl }
  others_stay (RootExtWarnMsg string) not = absurd (not string refl)
  others_stay (Other nla) not = record { same = refl; none = refl }
