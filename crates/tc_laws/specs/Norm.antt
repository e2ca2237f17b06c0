-- The norm of a value: its masked numbers are masked, and its warnings end in no NUL.
use Rattle.std.specs.Prelude.{ℕ, ◌%◌, ◌^◌, List, map, ◌==◌, if◌then◌else◌}
use Rattle.std.specs.Str.{bytes_eq}
use Rattle.nla_frames.specs.Value.{strip}
use Rattle.tc_canon.specs.Descriptor.{Class, masked, warning, list_of, own_list, Table, table, every, by_kind, Rows, others, types, unread, options, Kinds}
use Rattle.tc_canon.specs.Descriptor.{unknown, kind, is_within}
use Rattle.tc_canon.specs.Tables.Messages.{attributes, action_message_attributes}
use Rattle.tc_meaning.specs.Tree.{Content, Attribute, known, of_kind}
use Rattle.tc_meaning.specs.Content.{Shape, a_number, some_bytes}
use Rattle.tc_meaning.specs.Meaning.{a_list}
use Rattle.tc_meaning.specs.Message.{Message}
use Rattle.tc_laws.specs.Loose.{without_nuls}

-- ---- a change of one part of a value

-- of the parts of a content
abbrev pub on : {X : Type 0} → Shape X → (X → X) → Content → Content
on shape change x = shape.into (change (shape.out x))

-- of the content of an attribute of a type; an attribute that is kept raw is unchanged
abbrev pub in_known : (ℕ → Content → Content) → Attribute → Attribute
in_known change (known n content) = known n (change n content)
in_known change x = x

-- of an attribute under a kind
abbrev pub in_kind : (List ℕ → Attribute → Attribute) → Attribute → Attribute
in_kind change (of_kind name x) = of_kind name (change name x)
in_kind change x = x

-- ---- with masked numbers masked, and warnings trimmed in a given way

module _ (trim : List ℕ → List ℕ) where
  abbrev mutual
    pub trimmed_class : Class → Content → Content
    trimmed_class (masked n bits) = on a_number (λ x. x % 2 ^ bits)
    trimmed_class warning = on some_bytes trim
    trimmed_class (list_of t) = on a_list (map (trimmed_table t))
    trimmed_class (own_list rows) = on a_list (map (in_known (trimmed_rows rows)))
    trimmed_class _ = λ x. x

    pub trimmed_table : Table → Attribute → Attribute
    trimmed_table (table rows) = in_known (trimmed_rows rows)
    trimmed_table (every class) = in_known (λ n. trimmed_class class)
    trimmed_table (by_kind kinds) = in_kind (trimmed_kinds kinds)

    -- a content under a type of these rows
    pub trimmed_rows : Rows → ℕ → Content → Content
    trimmed_rows others n x = x
    trimmed_rows (types first last flags class rows) n x = if is_within first last n then trimmed_class class x else trimmed_rows rows n x
    trimmed_rows (unread m class rows) n x = if n == m then trimmed_class class x else trimmed_rows rows n x
    trimmed_rows (options m kinds rows) n x = if n == m then on a_list (map (in_kind (trimmed_kinds kinds))) x else trimmed_rows rows n x

    -- an attribute under one of these kinds
    pub trimmed_kinds : Kinds → List ℕ → Attribute → Attribute
    trimmed_kinds unknown name x = x
    trimmed_kinds (kind own rows kinds) name x = if bytes_eq name own then in_known (trimmed_rows rows) x else trimmed_kinds kinds name x

  abbrev pub trimmed_message : Rows → Message → Message
  trimmed_message rows m = record { header = m.header; body = map (trimmed_table (table rows)) m.body }

-- ---- a message

-- every masked number masked, and no NUL at the end of a warning
abbrev pub norm : Rows → Message → Message
norm = trimmed_message without_nuls

-- the message with one NUL less at the end of each warning: the reading of the message's bytes
abbrev pub next : Rows → Message → Message
next = trimmed_message strip

abbrev pub norm_tc : Message → Message
norm_tc = norm attributes

abbrev pub norm_act : Message → Message
norm_act = norm action_message_attributes

abbrev pub next_act : Message → Message
next_act = next action_message_attributes
