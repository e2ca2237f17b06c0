-- It is decidable whether a message fits, whatever its tables are.
use Rattle.std.proofs.Common.{ℕ, ◌+◌, ◌^◌, List, [], length, Bool, true, false}
use Rattle.std.specs.Prelude.{◌==◌}
use Rattle.std.specs.Str.{bytes_eq}
use Rattle.nla_frames.specs.Frame.{Frame}
use Rattle.nla_frames.specs.Emission.{ListFits, list_bytes}
use Rattle.nla_frames.specs.Codec.{Codec, list_codec}
use Rattle.nla_frames.specs.Reading.{keep}
use Rattle.tc_canon.specs.Descriptor.{Class, le, be, masked, array, raw, text, warning, presence, truth, fields, selector, pair, xstats, list_of, own_list}
use Rattle.tc_canon.specs.Descriptor.{Table, table, every, by_kind, Rows, others, types, unread, options, Kinds, unknown, kind, is_within, Field}
use Rattle.tc_canon.specs.Layouts.{size_of}
use Rattle.tc_meaning.specs.Tree.{Content, Attribute, known, kept, other, of_kind, number_of}
use Rattle.tc_meaning.specs.Content.{via, a_selector, key_count}
use Rattle.tc_meaning.specs.Meaning.{a_list, raw_frame, IsShort, raw_frames, row_frames, every_frame, choose, by_type, kind_frames, class_codec, table_codec}
use Rattle.tc_meaning.specs.Meaning.{rows_codec, kinds_codec}
use Rattle.tc_meaning.specs.Message.{Message, FitsMessage}
use Rattle.tc_meaning.proofs.Decidable.{Decidable, decidable_always, decidable_never, decidable_le, decidable_lt, decidable_eq, decidable_both, decidable_as, decidable_each, decidable_match}

-- it is decidable which values fit
abbrev AllDecidable : {W X : Type 0} → Codec W X → Type 0
AllDecidable {X = X} c = (x : X) → Decidable (c.Fits x)

short_decidable : (value : List ℕ) → Decidable (IsShort value)
short_decidable value = decidable_le (length value) 65531

list_decidable : (c : Codec Frame Attribute) → AllDecidable c → (xs : List Attribute) → Decidable (ListFits c.Fits c.write xs)
list_decidable c each xs =
    decidable_as (λ h. record { each = h.0; whole = h.1 }, λ h. (h.each, h.whole))
    (decidable_both (decidable_each c.Fits each xs) (decidable_lt (length (list_bytes c.write xs)) (2 ^ 64)))

row_decidable : (word n : ℕ) (c : Codec (List ℕ) Content) → AllDecidable c → AllDecidable (row_frames word n c)
row_decidable word n c each (known m content) = decidable_both (each content) (short_decidable (c.write content))
row_decidable word n c each (kept m w value) = short_decidable value
row_decidable word n c each (other w value) = short_decidable value
row_decidable word n c each (of_kind name x) = short_decidable []

every_decidable : (c : Codec (List ℕ) Content) → AllDecidable c → AllDecidable (every_frame c)
every_decidable c each (known word content) = decidable_both (each content) (short_decidable (c.write content))
every_decidable c each (kept m w value) = decidable_never
every_decidable c each (other w value) = decidable_never
every_decidable c each (of_kind name x) = decidable_never

raw_decidable : AllDecidable raw_frames
raw_decidable x = short_decidable (raw_frame x).value

choose_decidable : {W X : Type 0} (b : Bool) (c d : Codec W X) → AllDecidable c → AllDecidable d → AllDecidable (choose b c d)
choose_decidable true c d this that = this
choose_decidable false c d this that = that

kind_decidable : (name : List ℕ) (own rest : Codec Frame Attribute) → AllDecidable own → AllDecidable rest → AllDecidable (kind_frames name own rest)
kind_decidable name own rest this that (of_kind m x) = decidable_match (bytes_eq m name) (this x) (that (of_kind m x))
kind_decidable name own rest this that (known m content) = that (known m content)
kind_decidable name own rest this that (kept m w value) = that (kept m w value)
kind_decidable name own rest this that (other w value) = that (other w value)

mutual
  class_decidable : (c : Class) → AllDecidable (class_codec c)
  class_decidable (le n) x = decidable_always
  class_decidable (be n) x = decidable_always
  class_decidable (masked n bits) x = decidable_always
  class_decidable (array n) x = decidable_always
  class_decidable raw x = decidable_always
  class_decidable text x = decidable_always
  class_decidable warning x = decidable_always
  class_decidable presence x = decidable_always
  class_decidable truth x = decidable_always
  class_decidable (fields layout) x = decidable_always
  class_decidable selector x = decidable_eq (key_count (a_selector.out x).head) (length (a_selector.out x).keys)
  class_decidable pair x = decidable_always
  class_decidable xstats x = decidable_always
  class_decidable (list_of t) x = list_decidable (table_codec t) (table_decidable t) (a_list.out x)
  class_decidable (own_list rows) x = list_decidable (by_type (rows_codec rows)) (λ y. rows_decidable rows (number_of y) y) (a_list.out x)

  table_decidable : (t : Table) → AllDecidable (table_codec t)
  table_decidable (table rows) = λ x. rows_decidable rows (number_of x) x
  table_decidable (every class) = every_decidable (class_codec class) (class_decidable class)
  table_decidable (by_kind kinds) = kinds_decidable kinds

  rows_decidable : (rows : Rows) (n : ℕ) → AllDecidable (rows_codec rows n)
  rows_decidable others n = raw_decidable
  rows_decidable (types first last flags class rows) n =
      choose_decidable (is_within first last n) _ _ (row_decidable (flags + n) n (class_codec class) (class_decidable class)) (rows_decidable rows n)
  rows_decidable (unread m class rows) n = choose_decidable (n == m) _ _ (row_decidable m m (class_codec class) (class_decidable class)) (rows_decidable rows n)
  rows_decidable (options m kinds rows) n =
      choose_decidable (n == m) _ _ (row_decidable m m (via a_list (list_codec keep keep (kinds_codec kinds)))
      (λ x. list_decidable (kinds_codec kinds) (kinds_decidable kinds) (a_list.out x))) (rows_decidable rows n)

  kinds_decidable : (kinds : Kinds) → AllDecidable (kinds_codec kinds)
  kinds_decidable unknown = raw_decidable
  kinds_decidable (kind name rows kinds) =
      kind_decidable name (by_type (rows_codec rows)) (kinds_codec kinds) (λ x. rows_decidable rows (number_of x) x) (kinds_decidable kinds)

-- it is decidable whether a message fits
pub decidable_fits : (layout : List Field) (rows : Rows) (m : Message) → Decidable (FitsMessage layout rows m)
decidable_fits layout rows m =
    decidable_as (λ h. record { body = h.0; whole = h.1 }, λ h. (h.body, h.whole))
    (decidable_both (list_decidable (table_codec (table rows)) (table_decidable (table rows)) m.body)
    (decidable_lt (size_of layout + length (list_bytes (table_codec (table rows)).write m.body)) (2 ^ 64)))
