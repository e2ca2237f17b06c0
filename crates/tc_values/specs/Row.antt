-- An attribute as a word (its `nla_type`) and a value, and how both follow from a row of its table.
use Rattle.std.specs.Prelude.{◌≡◌, ◌↔◌, ℕ, ◌<◌, ◌^◌, ◌+◌, Bool, true, false, List, Option, Some, None, ◌==◌, if◌then◌else◌}
use Rattle.nla_frames.specs.Frame.{type_of}
use Rattle.tc_canon.specs.Descriptor.{Class, Rows, others, types, unread, options, is_within, table}
use Rattle.tc_meaning.specs.Tree.{Attribute, known, other}
use Rattle.tc_values.specs.Inner.{Inner}
use Rattle.tc_meaning.specs.Meaning.{table_codec}
use Rattle.tc_values.specs.Value.{value_class, value_content, value_bytes, ValueFits, TypedValue, SettledAs}
use Rattle.tc_values.specs.declared.value.Value.{Value}
use Rattle.tc_values.specs.declared.value.Value.TheVariants.{Kept}

-- the table reads this type
abbrev pub reads_at : Rows → ℕ → Bool
reads_at others n = false
reads_at (types first last flags class rows) n = if is_within first last n then true else reads_at rows n
reads_at (unread m class rows) n = if n == m then false else reads_at rows n
reads_at (options m kinds rows) n = if n == m then true else reads_at rows n

-- the word and the class with which the table encodes an attribute of this type
abbrev pub written_at : Rows → ℕ → Option (ℕ × Class)
written_at others n = None
written_at (types first last flags class rows) n = if is_within first last n then Some (flags + n, class) else written_at rows n
written_at (unread m class rows) n = if n == m then Some (m, class) else written_at rows n
written_at (options m kinds rows) n = if n == m then None else written_at rows n

-- the attribute with this word and this value
abbrev pub attribute_of : {N : Type 0} → Inner N → ℕ → Value N → Attribute
attribute_of inner word (Kept v) = other word v.now
attribute_of inner word v = known (type_of word) (value_content inner v)

-- the table encodes an attribute of this type with this word and the value's class
abbrev pub IsRow : {N : Type 0} → Inner N → Rows → ℕ → Value N → Type 0
IsRow inner rows word (Kept v) = Unit {0}
IsRow inner rows word v = written_at rows (type_of word) ≡ Some (word, value_class inner v)

-- the word and the value of an attribute: its bytes, and that it fits, is typed and is settled, as its table says
pub record ShownAs {N : Type 0} (inner : Inner N) (rows : Rows) (x : Attribute) (word : ℕ) (v : Value N) : Type 0 where
  pub same_word : word ≡ ((table_codec (table rows)).write x).word
  pub bytes : value_bytes inner.bytes v ≡ ((table_codec (table rows)).write x).value
  pub fits : ValueFits inner.Fits v ↔ (table_codec (table rows)).Fits x
  pub typed : word < 2 ^ 16 → TypedValue inner.Typed v → (table_codec (table rows)).Typed x
  pub settled : (kind : List ℕ) → SettledAs inner.Settled (reads_at rows (type_of word)) kind v ↔ (table_codec (table rows)).Settled kind x
