-- The abstract value of a message's attribute.
use Rattle.std.specs.Prelude.{◌≡◌, ◌↔◌, ℕ, List, [], map, string_bytes}
use Rattle.nla_frames.specs.declared.error.DecodeError.{DecodeError}
use Rattle.nla_frames.specs.Codec.{Codec}
use Rattle.nla_frames.specs.Frame.{Frame}
use Rattle.nla_frames.specs.ListGrammar.{ListReads, IsListFault}
use Rattle.nla_frames.specs.DefaultNla.{kept_frame}
use Rattle.tc_canon.specs.Descriptor.{table, by_kind}
use Rattle.tc_canon.specs.Tables.Messages.{attributes}
use Rattle.tc_meaning.specs.Meaning.{table_codec}
use Rattle.tc_meaning.specs.Message.{kind_of_frame}
use Rattle.tc_meaning.specs.Tree.{Attribute, known, kept, other, record_of, number, flag, is_bytes, items, attributes_of}
use Rattle.tc_records.specs.Statistics.{stats_scalars}
use Rattle.tc_messages.specs.declared.attribute.TcAttribute.{TcAttribute}
use Rattle.tc_messages.specs.declared.attribute.TcAttribute.TheVariants.{Kind, Options, OptionsRaw, Stats, Xstats, Rate, Fcnt, Stats2, Stab, DumpInvisible}
use Rattle.tc_messages.specs.declared.attribute.TcAttribute.TheVariants.{Chain, HwOffload, Other}
use Rattle.tc_options.specs.Options.{tc_option}
use Rattle.tc_options.specs.declared.options.TcOption.{TcOption}
use Rattle.tc_canon.specs.Tables.Options.{option_kinds}
use Rattle.tc_records.specs.declared.stats.compat.TcStats.{TcStats}
use Rattle.tc_values.specs.Inner.{Inner}
use Rattle.tc_values.specs.Value.{value_bytes, ValueFits, TypedValue}
use Rattle.tc_values.specs.declared.value.Value.{Value}
use Rattle.tc_values.specs.Bodies.{items_of, either}
use Rattle.tc_canon.specs.Tables.Statistics.{stats2}
use Rattle.tc_values.specs.Records.{record_part}
use Rattle.tc_actions.specs.Xstats.{tc_xstats, xstats_part}
use Rattle.tc_actions.specs.Stats2.{tc_stats2}
use Rattle.tc_actions.specs.declared.stats.xstats.TcXstats.{TcXstats}
use Rattle.tc_actions.specs.declared.stats.stats2.TcStats2.{TcStats2}
use Rattle.tc_values.specs.declared.body.Items.{Items}
use Rattle.tc_values.specs.declared.body.Record.{Record}
use Rattle.tc_values.specs.declared.body.Either.{Either}
use Rattle.tc_canon.specs.Layouts.{stats}

abbrev pub tc_attribute : {A : Type 0} → TcAttribute A → Attribute
tc_attribute (Kind kind) = known 1 (is_bytes (string_bytes kind))
tc_attribute (Options options) = known 2 (items (attributes_of (map tc_option options.items)))
tc_attribute (OptionsRaw nla) = kept 2 (kept_frame nla).word (kept_frame nla).value
tc_attribute (Stats stats) = known 3 (record_of (stats_scalars stats))
tc_attribute (Xstats xstats) = known 4 (tc_xstats xstats)
tc_attribute (Rate bytes) = known 5 (is_bytes bytes.items)
tc_attribute (Fcnt bytes) = known 6 (is_bytes bytes.items)
tc_attribute (Stats2 stats) = known 7 (items (attributes_of (map tc_stats2 stats.items)))
tc_attribute (Stab bytes) = known 8 (is_bytes bytes.items)
tc_attribute (DumpInvisible is_set) = known 10 (flag is_set)
tc_attribute (Chain chain) = known 11 (number chain)
tc_attribute (HwOffload offload) = known 12 (number offload)
tc_attribute (Other nla) = other (kept_frame nla).word (kept_frame nla).value

-- two attributes hold the same: the same text or bytes, options or statistics that are equal; one that is kept raw
-- the same word and payload; all others are equal
abbrev pub SameAttribute : {A : Type 0} → TcAttribute A → TcAttribute A → Type 0
SameAttribute (Kind s) (Kind t) = string_bytes s ≡ string_bytes t
SameAttribute (Options v) (Options w) = map tc_option v.items ≡ map tc_option w.items
SameAttribute (OptionsRaw x) (OptionsRaw y) = kept_frame x ≡ kept_frame y
SameAttribute (Xstats x) (Xstats y) = tc_xstats x ≡ tc_xstats y
SameAttribute (Rate v) (Rate w) = v.items ≡ w.items
SameAttribute (Fcnt v) (Fcnt w) = v.items ≡ w.items
SameAttribute (Stats2 v) (Stats2 w) = map tc_stats2 v.items ≡ map tc_stats2 w.items
SameAttribute (Stab v) (Stab w) = v.items ≡ w.items
SameAttribute (Other x) (Other y) = kept_frame x ≡ kept_frame y
SameAttribute a b = a ≡ b

-- raw options, as any other raw attribute
abbrev pub as_other : Attribute → Attribute
as_other (kept n word value) = other word value
as_other x = x

-- how an attribute is read and written: by the table of the message's attributes
abbrev pub attribute_codec : Codec Frame Attribute
attribute_codec = table_codec (table attributes)

-- the bytes are frames, and each reads as its attribute under the last kind before it
abbrev pub ReadsAttributes : List ℕ → List Attribute → Type 0
ReadsAttributes = ListReads attribute_codec.read kind_of_frame []

-- the first fault of a list of attributes
abbrev pub AttributesFault : List ℕ → DecodeError → Type 0
AttributesFault = IsListFault attribute_codec.read kind_of_frame []

abbrev pub Nested : Type 0 → Type 0
Nested A = Either (Either (Items (TcOption A)) (Items (TcStats2 A))) (Either (Record TcStats) (Record (TcXstats A)))

-- nested values of attributes: options and statistics, as lists and as records
abbrev pub nested : {A : Type 0} → Inner (Nested A)
nested = either (either (items_of tc_option (by_kind option_kinds)) (items_of tc_stats2 (table stats2))) (either (record_part stats_scalars stats) xstats_part)

-- an attribute is written as this word and this value
pub record IsWritten {A : Type 0} (x : Attribute) (word : ℕ) (v : Value (Nested A)) : Type 0 where
  pub same_word : word ≡ (attribute_codec.write x).word
  pub bytes : value_bytes nested.bytes v ≡ (attribute_codec.write x).value
  pub fits : ValueFits nested.Fits v ↔ attribute_codec.Fits x
  pub typed : TypedValue nested.Typed v → attribute_codec.Typed x
