-- Loose values: encoding would change them. Numbers are written masked, and the texts of warnings without a NUL; a
-- value is loose if one of these would not read back.
use Rattle.std.specs.Prelude.{ℕ, ◌-◌, ◌^◌, Bool, List, [], ◌∷◌, length, map, not, nat_lt, ◌==◌, if◌then◌else◌}
use Rattle.std.specs.Str.{bytes_eq}
use Rattle.std.specs.List.{flat_map, list_any}
use Rattle.nla_frames.specs.Value.{ends_in_nul}
use Rattle.tc_canon.specs.Descriptor.{Class, masked, warning, list_of, own_list, Table, table, every, by_kind, Rows, others, types, unread, options, Kinds}
use Rattle.tc_canon.specs.Descriptor.{unknown, kind, is_within}
use Rattle.tc_canon.specs.Tables.Messages.{attributes, action_message_attributes}
use Rattle.tc_meaning.specs.Tree.{Content, Attribute, known, of_kind}
use Rattle.tc_meaning.specs.Content.{a_number, some_bytes}
use Rattle.tc_meaning.specs.Meaning.{a_list}
use Rattle.tc_meaning.specs.Message.{Message}

pub data Part : Type 0 where
  -- a number, and how many of its bits are written
  masked_number : ℕ → ℕ → Part
  -- a text that is written without a NUL
  warning_text : List ℕ → Part

-- ---- the parts of a value

-- of the content of an attribute of a type; an attribute that is kept raw has none
abbrev pub parts_in_known : (ℕ → Content → List Part) → Attribute → List Part
parts_in_known parts (known n content) = parts n content
parts_in_known parts x = []

-- of an attribute under a kind
abbrev pub parts_in_kind : (List ℕ → Attribute → List Part) → Attribute → List Part
parts_in_kind parts (of_kind name x) = parts name x
parts_in_kind parts x = []

abbrev mutual
  pub class_parts : Class → Content → List Part
  class_parts (masked n bits) x = masked_number bits (a_number.out x) ∷ []
  class_parts warning x = warning_text (some_bytes.out x) ∷ []
  class_parts (list_of t) x = flat_map (table_parts t) (a_list.out x)
  class_parts (own_list rows) x = flat_map (parts_in_known (rows_parts rows)) (a_list.out x)
  class_parts _ x = []

  pub table_parts : Table → Attribute → List Part
  table_parts (table rows) = parts_in_known (rows_parts rows)
  table_parts (every class) = parts_in_known (λ n. class_parts class)
  table_parts (by_kind kinds) = parts_in_kind (kinds_parts kinds)

  -- of a content under a type of these rows
  pub rows_parts : Rows → ℕ → Content → List Part
  rows_parts others n x = []
  rows_parts (types first last flags class rows) n x = if is_within first last n then class_parts class x else rows_parts rows n x
  rows_parts (unread m class rows) n x = if n == m then class_parts class x else rows_parts rows n x
  rows_parts (options m kinds rows) n x = if n == m then flat_map (parts_in_kind (kinds_parts kinds)) (a_list.out x) else rows_parts rows n x

  -- of an attribute under one of these kinds
  pub kinds_parts : Kinds → List ℕ → Attribute → List Part
  kinds_parts unknown name x = []
  kinds_parts (kind own rows kinds) name x = if bytes_eq name own then parts_in_known (rows_parts rows) x else kinds_parts kinds name x

-- of a message
abbrev pub message_parts : Rows → Message → List Part
message_parts rows m = flat_map (table_parts (table rows)) m.body

-- ---- loose

-- a number out of its range, or a text that ends in a NUL
abbrev pub is_loose_part : Part → Bool
is_loose_part (masked_number bits x) = not (nat_lt x (2 ^ bits))
is_loose_part (warning_text t) = ends_in_nul t

abbrev pub is_loose : Rows → Message → Bool
is_loose rows m = list_any is_loose_part (message_parts rows m)

abbrev pub is_loose_tc : Message → Bool
is_loose_tc = is_loose attributes

abbrev pub is_loose_act : Message → Bool
is_loose_act = is_loose action_message_attributes

-- ---- how many NULs end a warning

-- a byte before a text without NULs at its end
abbrev pub before_text : ℕ → List ℕ → List ℕ
before_text b [] = if b == 0 then [] else b ∷ []
before_text b (c ∷ text) = b ∷ c ∷ text

-- a text without the NULs at its end
abbrev pub without_nuls : List ℕ → List ℕ
without_nuls [] = []
without_nuls (b ∷ text) = before_text b (without_nuls text)

-- the number of NULs at the end
abbrev pub trailing_nuls : List ℕ → ℕ
trailing_nuls text = length text - length (without_nuls text)

abbrev pub part_nuls : Part → ℕ
part_nuls (masked_number bits x) = 0
part_nuls (warning_text t) = trailing_nuls t

abbrev pub greater : ℕ → ℕ → ℕ
greater m n = if nat_lt m n then n else m

-- the greatest of some numbers, and 0 if there are none
abbrev pub greatest : List ℕ → ℕ
greatest [] = 0
greatest (n ∷ ns) = greater n (greatest ns)

-- the longest run of trailing NULs in a warning of the message
abbrev pub nuls : Rows → Message → ℕ
nuls rows m = greatest (map part_nuls (message_parts rows m))

abbrev pub nuls_act : Message → ℕ
nuls_act = nuls action_message_attributes
