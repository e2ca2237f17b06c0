-- Tests that tables must pass so that the laws are true for them.
use Rattle.std.specs.Prelude.{ℕ, ◌%◌, Bool, true, false, ◌&&◌, not, nat_lt, ◌==◌}
use Rattle.tc_canon.specs.Descriptor.{Class, text, list_of, own_list, Table, table, every, by_kind, Rows, others, types, unread, options, Kinds, unknown, kind}
use Rattle.tc_canon.specs.Descriptor.{is_within}

-- a type has fourteen bits
abbrev pub is_type : ℕ → Bool
is_type n = nat_lt n 0x4000

-- flags are the two high bits of a word
abbrev pub are_flags : ℕ → Bool
are_flags flags = (flags % 0x4000 == 0) && nat_lt flags 0x10000

-- no row has this type
abbrev pub is_free : ℕ → Rows → Bool
is_free n others = true
is_free n (types first last flags class rows) = not (is_within first last n) && is_free n rows
is_free n (unread m class rows) = is_free n rows
is_free n (options m kinds rows) = not (n == m) && is_free n rows

-- the first row is that of type 1, and its class is a text
abbrev pub starts_with_kind : Rows → Bool
starts_with_kind (types first last flags text rows) = is_within first last 1
starts_with_kind _ = false

abbrev mutual
  pub is_sound_class : Class → Bool
  is_sound_class (list_of t) = is_sound_table t
  is_sound_class (own_list rows) = starts_with_kind rows && is_sound_rows rows
  is_sound_class _ = true

  pub is_sound_table : Table → Bool
  is_sound_table (table rows) = is_sound_rows rows
  is_sound_table (every class) = is_sound_class class
  is_sound_table (by_kind kinds) = is_sound_kinds kinds

  -- types and flags are in range, and a type that is never read is in no other row
  pub is_sound_rows : Rows → Bool
  is_sound_rows others = true
  is_sound_rows (types first last flags class rows) = is_type last && (are_flags flags && (is_sound_class class && is_sound_rows rows))
  is_sound_rows (unread m class rows) = is_type m && (is_free m rows && (is_sound_class class && is_sound_rows rows))
  is_sound_rows (options m kinds rows) = is_type m && (is_sound_kinds kinds && is_sound_rows rows)

  pub is_sound_kinds : Kinds → Bool
  is_sound_kinds unknown = true
  is_sound_kinds (kind name rows kinds) = is_sound_rows rows && is_sound_kinds kinds
