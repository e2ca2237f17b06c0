-- It is decidable whether a message is settled, whatever its tables are.
use Rattle.std.proofs.Common.{◌≡◌, ℕ, ◌+◌, ◌^◌, List, [], ◌∷◌, length, take, Bool, true, false, refl}
use Rattle.std.specs.Prelude.{◌==◌}
use Rattle.std.specs.List.{AllByRecursion}
use Rattle.std.specs.Str.{bytes_eq}
use Rattle.nla_frames.specs.Frame.{Frame, type_of}
use Rattle.nla_frames.specs.Value.{strip, le_value}
use Rattle.nla_frames.specs.Place.{Sets, kind_then, kinds_set}
use Rattle.nla_frames.specs.Codec.{Codec, SettledEach, list_codec}
use Rattle.nla_frames.specs.Reading.{keep}
use Rattle.tc_canon.specs.Descriptor.{Class, le, be, masked, array, raw, text, warning, presence, truth, fields, selector, pair, xstats, list_of, own_list}
use Rattle.tc_canon.specs.Descriptor.{Table, table, every, by_kind, Rows, others, types, unread, options, Kinds, unknown, kind, is_within, is_known, Field}
use Rattle.tc_canon.specs.Descriptor.{named}
use Rattle.tc_meaning.specs.Tree.{Scalar, unnamed, Content, is_bytes, statistics, unknown_statistics, Attribute, known, kept, other, of_kind, number_of}
use Rattle.tc_meaning.specs.Layout.{has_name, SettledField, SettledFields}
use Rattle.tc_meaning.specs.Content.{via, a_number, some_bytes, a_flag, a_record, flags_pair, xstats_codec, is_fq_codel}
use Rattle.tc_meaning.specs.Own.{kind_of_attribute}
use Rattle.tc_meaning.specs.Meaning.{a_list, raw_frames, row_frames, options_frames, unread_frames, every_frame, choose, by_type, kind_frames, class_codec}
use Rattle.tc_meaning.specs.Meaning.{table_codec, rows_codec, kinds_codec}
use Rattle.tc_meaning.specs.Message.{Message, SettledWith}
use Rattle.tc_meaning.proofs.Decidable.{Decidable, decidable_always, decidable_never, decidable_true, decidable_false, decidable_le, decidable_lt, decidable_eq, decidable_same_bytes, decidable_both, decidable_as}
use Rattle.tc_meaning.proofs.Decidable.{decidable_each, decidable_match}

-- of a field, and of a record
decidable_field : (f : Field) (x : Scalar) → Decidable (SettledField f x)
decidable_field (named n names) (unnamed x) = decidable_false (has_name names x)
decidable_field f x = decidable_always

decidable_fields : (layout : List Field) (xs : List Scalar) → Decidable (SettledFields layout xs)
decidable_fields [] xs = decidable_always
decidable_fields (f ∷ layout) [] = decidable_always
decidable_fields (f ∷ layout) (x ∷ xs) = decidable_both (decidable_field f x) (decidable_fields layout xs)

-- it is decidable which values are settled under a kind
abbrev AllDecidable : {W X : Type 0} → Codec W X → Type 0
AllDecidable {X = X} c = (k : List ℕ) (x : X) → Decidable (c.Settled k x)

-- of a list, of which some set the kind
decidable_list : {X : Type 0} (Settled : List ℕ → X → Type 0) (sets : Sets X) → ((k : List ℕ) (x : X) → Decidable (Settled k x)) → (k : List ℕ) (xs : List X)
    → Decidable (SettledEach Settled sets k xs)
decidable_list Settled sets each k [] = decidable_always
decidable_list Settled sets each k (x ∷ xs) = decidable_both (each k x) (decidable_list Settled sets each (kind_then sets k x) xs)

-- of what is read under the only kind that is set
decidable_only : (P : List ℕ → Type 0) → ((k : List ℕ) → Decidable (P k)) → (kinds : List (List ℕ)) → Decidable ((k : List ℕ) × (kinds ≡ k ∷ []) × P k)
decidable_only P each [] = decidable_as (λ h. absurd h, λ h. absurd cc) decidable_never
decidable_only P each (k ∷ []) = decidable_as (λ h. (k, refl, h), λ h. let e : k ≡ h.0 = cc in rw e h.2) (each k)
decidable_only P each (k ∷ l ∷ kinds) = decidable_as (λ h. absurd h, λ h. absurd cc) decidable_never

raw_decidable : AllDecidable raw_frames
raw_decidable k x = decidable_always

row_decidable : (word n : ℕ) (c : Codec (List ℕ) Content) → AllDecidable c → AllDecidable (row_frames word n c)
row_decidable word n c each k (known m content) = each k content
row_decidable word n c each k x = decidable_never

options_decidable : (n : ℕ) (kinds : Kinds) (c : Codec (List ℕ) Content) → AllDecidable c → AllDecidable (options_frames n kinds c)
options_decidable n kinds c each k (known m content) = decidable_both (decidable_true (is_known kinds k)) (each k content)
options_decidable n kinds c each k (kept m word value) = decidable_both (decidable_false (is_known kinds k)) (decidable_eq (type_of word) n)
options_decidable n kinds c each k x = decidable_never

unread_decidable : (n : ℕ) (c : Codec (List ℕ) Content) → AllDecidable (unread_frames n c)
unread_decidable n c k (other word value) = decidable_always
unread_decidable n c k x = decidable_never

every_decidable : (c : Codec (List ℕ) Content) → AllDecidable c → AllDecidable (every_frame c)
every_decidable c each k (known word content) = decidable_both (decidable_le word 0x3FFF) (each k content)
every_decidable c each k x = decidable_never

choose_decidable : {W X : Type 0} (b : Bool) (c d : Codec W X) → AllDecidable c → AllDecidable d → AllDecidable (choose b c d)
choose_decidable true c d this that = this
choose_decidable false c d this that = that

kind_decidable : (name : List ℕ) (own rest : Codec Frame Attribute) → AllDecidable own → AllDecidable rest → AllDecidable (kind_frames name own rest)
kind_decidable name own rest this that k (of_kind m x) =
    decidable_match (bytes_eq m name) (decidable_both (decidable_true (bytes_eq k name)) (this k x)) (that k (of_kind m x))
kind_decidable name own rest this that k (known m content) = decidable_match (bytes_eq k name) decidable_never (that k (known m content))
kind_decidable name own rest this that k (kept m w value) = decidable_match (bytes_eq k name) decidable_never (that k (kept m w value))
kind_decidable name own rest this that k (other w value) = decidable_match (bytes_eq k name) decidable_never (that k (other w value))

xstats_decidable : AllDecidable xstats_codec
xstats_decidable k (statistics n xs) = decidable_true (is_fq_codel k)
xstats_decidable k (unknown_statistics value) =
    decidable_as (λ h. (h.0, h.1.0, h.1.1), λ h. (h.0, (h.1, h.2)))
    (decidable_both (decidable_true (is_fq_codel k)) (decidable_both (decidable_le 4 (length value)) (decidable_le 2 (le_value (take 4 value)))))
xstats_decidable k (is_bytes value) = decidable_false (is_fq_codel k)
xstats_decidable k x = decidable_never

mutual
  class_decidable : (c : Class) → AllDecidable (class_codec c)
  class_decidable (le n) k x = decidable_always
  class_decidable (be n) k x = decidable_always
  class_decidable (masked n bits) k x = decidable_lt (a_number.out x) (2 ^ bits)
  class_decidable (array n) k x = decidable_always
  class_decidable raw k x = decidable_always
  class_decidable text k x = decidable_always
  class_decidable warning k x = decidable_same_bytes (strip (some_bytes.out x)) (some_bytes.out x)
  class_decidable presence k x = decidable_true (a_flag.out x)
  class_decidable truth k x = decidable_always
  class_decidable (fields layout) k x = decidable_fields layout (a_record.out x)
  class_decidable selector k x = decidable_always
  class_decidable pair k x = decidable_fields flags_pair (a_record.out x)
  class_decidable xstats k x = xstats_decidable k x
  class_decidable (list_of t) k x = decidable_list (table_codec t).Settled keep (table_decidable t) k (a_list.out x)
  class_decidable (own_list rows) k x =
      decidable_only (λ j. AllByRecursion ((by_type (rows_codec rows)).Settled j) (a_list.out x))
      (λ j. decidable_each ((by_type (rows_codec rows)).Settled j) (λ y. rows_decidable rows (number_of y) j y) (a_list.out x))
      (kinds_set kind_of_attribute (a_list.out x))

  table_decidable : (t : Table) → AllDecidable (table_codec t)
  table_decidable (table rows) = λ k x. rows_decidable rows (number_of x) k x
  table_decidable (every class) = every_decidable (class_codec class) (class_decidable class)
  table_decidable (by_kind kinds) = kinds_decidable kinds

  rows_decidable : (rows : Rows) (n : ℕ) → AllDecidable (rows_codec rows n)
  rows_decidable others n = raw_decidable
  rows_decidable (types first last flags class rows) n =
      choose_decidable (is_within first last n) _ _ (row_decidable (flags + n) n (class_codec class) (class_decidable class)) (rows_decidable rows n)
  rows_decidable (unread m class rows) n = choose_decidable (n == m) _ _ (unread_decidable m (class_codec class)) (rows_decidable rows n)
  rows_decidable (options m kinds rows) n =
      choose_decidable (n == m) _ _
      (options_decidable m kinds (via a_list (list_codec keep keep (kinds_codec kinds)))
      (λ k x. decidable_list (kinds_codec kinds).Settled keep (kinds_decidable kinds) k (a_list.out x)))
      (rows_decidable rows n)

  kinds_decidable : (kinds : Kinds) → AllDecidable (kinds_codec kinds)
  kinds_decidable unknown = raw_decidable
  kinds_decidable (kind name rows kinds) =
      kind_decidable name (by_type (rows_codec rows)) (kinds_codec kinds) (λ k x. rows_decidable rows (number_of x) k x) (kinds_decidable kinds)

-- it is decidable whether a message is settled
pub decidable_settled : (layout : List Field) (rows : Rows) (sets : Sets Attribute) (m : Message) → Decidable (SettledWith layout rows sets m)
decidable_settled layout rows sets m =
    decidable_as (λ h. record { header = h.0; body = h.1 }, λ h. (h.header, h.body))
    (decidable_both (decidable_fields layout m.header) (decidable_list (table_codec (table rows)).Settled sets (table_decidable (table rows)) [] m.body))
