-- The abstract value of an attribute of an action.
use Rattle.std.specs.Prelude.{◌≡◌, map, string_bytes}
use Rattle.nla_frames.specs.DefaultNla.{kept_frame}
use Rattle.tc_canon.specs.Descriptor.{table, by_kind}
use Rattle.tc_canon.specs.Tables.Statistics.{stats2}
use Rattle.tc_canon.specs.Tables.Actions.{action_option_kinds}
use Rattle.tc_meaning.specs.Tree.{Attribute, known, other, number, is_bytes, items, attributes_of}
use Rattle.tc_values.specs.Inner.{Inner}
use Rattle.tc_values.specs.Bodies.{items_of, either}
use Rattle.tc_values.specs.declared.body.Items.{Items}
use Rattle.tc_values.specs.declared.body.Either.{Either}
use Rattle.tc_actions.specs.Stats2.{tc_stats2}
use Rattle.tc_actions.specs.ActionOption.{action_option}
use Rattle.tc_actions.specs.declared.stats.stats2.TcStats2.{TcStats2}
use Rattle.tc_actions.specs.declared.actions.option.TcActionOption.{TcActionOption}
use Rattle.tc_actions.specs.declared.actions.attribute.TcActionAttribute.{TcActionAttribute}
use Rattle.tc_actions.specs.declared.actions.attribute.TcActionAttribute.TheVariants.{Kind, Options, Index, Stats, Cookie, InHwCount, Other}

abbrev pub action_attribute : {A : Type 0} → TcActionAttribute A → Attribute
action_attribute (Kind kind) = known 1 (is_bytes (string_bytes kind))
action_attribute (Options options) = known 2 (items (attributes_of (map action_option options.items)))
action_attribute (Index n) = known 3 (number n)
action_attribute (Stats stats) = known 4 (items (attributes_of (map tc_stats2 stats.items)))
action_attribute (Cookie bytes) = known 6 (is_bytes bytes.items)
action_attribute (InHwCount n) = known 10 (number n)
action_attribute (Other nla) = other (kept_frame nla).word (kept_frame nla).value

-- two attributes hold the same: the same text or bytes, options or statistics that are equal one by one; one that
-- is kept raw the same word and payload; all others are equal
abbrev pub SameActionAttribute : {A : Type 0} → TcActionAttribute A → TcActionAttribute A → Type 0
SameActionAttribute (Kind s) (Kind t) = string_bytes s ≡ string_bytes t
SameActionAttribute (Options v) (Options w) = map action_option v.items ≡ map action_option w.items
SameActionAttribute (Stats v) (Stats w) = map tc_stats2 v.items ≡ map tc_stats2 w.items
SameActionAttribute (Cookie v) (Cookie w) = v.items ≡ w.items
SameActionAttribute (Other x) (Other y) = kept_frame x ≡ kept_frame y
SameActionAttribute a b = a ≡ b

-- nested values of the attributes
abbrev pub attribute_body : {A : Type 0} → Inner (Either (Items (TcActionOption A)) (Items (TcStats2 A)))
attribute_body = either (items_of action_option (by_kind action_option_kinds)) (items_of tc_stats2 (table stats2))
