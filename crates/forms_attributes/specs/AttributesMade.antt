-- Lists of attributes: the bytes of each.
use Rattle.std.specs.Prelude.{Bool, List, None, Option, Some, [], codes, false, if◌then◌else◌, length, nat_le, option_and_then, option_map, true, unwrap_or, ℕ}
use Rattle.serde_json.specs.Data.{Data, Items, item, no_items}
use Rattle.serde_json.specs.Find.{as_number, as_u64, get}
use Rattle.forms_attributes.specs.Frames.{frame_bytes, zero_pad}
use Rattle.forms_attributes.specs.Kinds.{kind_named, kind_value}
use Rattle.forms_values.specs.Places.{form_of, layer_of, part_at, rows_under}
use Rattle.forms_values.specs.Raw.{hex_made, or_raw, raw_of}
use Rattle.forms_values.specs.Records.{joined}
use Rattle.forms_attributes.specs.Rows.{counts}
use Rattle.forms_values.specs.Search.{held}
use Rattle.forms_values.specs.Tables.{Row, Table}
use Rattle.forms_values.specs.declared.form.Form.{Form}

-- a word has two bytes
abbrev pub as_word : ℕ → Option ℕ
as_word n = if nat_le n 0xffff then Some n else None

abbrev pub word_made : Data → Option ℕ
word_made d = option_and_then as_word (option_and_then as_u64 (as_number d))

-- the nla_type in the member "word", or the row's
abbrev pub word_or : ℕ → Option Data → Option ℕ
word_or word None = Some word
word_or word (Some d) = word_made d

-- the padding in the member "pad", or zeros
abbrev pub pad_or : List ℕ → Option Data → Option (List ℕ)
pad_or value None = Some (zero_pad value)
pad_or value (Some d) = hex_made d

-- a frame of a value that fits
abbrev pub framed_with : ℕ → List ℕ → Option Data → Option (List ℕ)
framed_with word value given =
    if nat_le (length value) 65531
    then option_map (λ pad. frame_bytes (record { word = word; value = value; pad = pad })) (pad_or value given) else None

abbrev pub framed : Option ℕ → Option (List ℕ) → Data → Option (List ℕ)
framed (Some word) (Some value) d = framed_with word value (get (codes "pad") d)
framed word value d = None

abbrev pub other_made : Data → Data → Option (List ℕ)
other_made d x = framed (option_and_then word_made (get (codes "word") x)) (option_and_then hex_made (get (codes "value") x)) d

-- the bytes of all items, each under the kind so far
abbrev pub each_under : (List ℕ → Data → Option (List ℕ)) → Bool → List ℕ → Items → Option (List ℕ)
each_under One has kind no_items = Some []
each_under One has kind (item d ds) =
    joined (or_raw (raw_of d) (One (unwrap_or (kind_named has d) kind) d)) (each_under One has (unwrap_or (kind_named has d) kind) ds)

-- the value in a layer, or the value itself if the layer has no name
abbrev pub unlayered : List ℕ → Data → Option Data
unlayered [] d = Some d
unlayered name d = get name d

module _ (Inner : List ℕ → Form → Data → Option (List ℕ)) (rows : List Row) (has : Bool) where
  abbrev pub row_made : List ℕ → Data → Option (Row × Data) → Option (List ℕ)
  row_made kind d None = None
  row_made kind d (Some m) = framed (word_or m.0.word (get (codes "word") d)) (Inner kind m.0.form m.1) d

  abbrev pub by_row_made : List ℕ → Data → Option Data → Option (List ℕ)
  by_row_made kind d (Some x) = other_made d x
  by_row_made kind d None = row_made kind d (held (λ r. r.name) counts rows d)

  abbrev pub by_kind_made : List ℕ → Data → Option (List ℕ) → Option (List ℕ)
  by_kind_made kind d (Some t) = framed (word_or 1 (get (codes "word") d)) (kind_value t (get (codes "bare") d)) d
  by_kind_made kind d None = by_row_made kind d (get (codes "Other") d)

  abbrev pub attribute_made : List ℕ → Data → Option (List ℕ)
  attribute_made kind d = by_kind_made kind d (kind_named has d)

  -- an attribute in its layer
  abbrev pub layered_by : List ℕ → List ℕ → Data → Option (List ℕ)
  layered_by layer kind d = option_and_then (attribute_made kind) (unlayered layer d)

  -- an attribute in its layer, or in an indexed list one that holds this form
  abbrev pub listed_made : Option Form → List ℕ → List ℕ → Data → Option (List ℕ)
  listed_made None layer kind d = layered_by layer kind d
  listed_made (Some f) layer kind d =
      framed (option_and_then word_made (get (codes "tab") d)) (option_and_then (Inner kind f) (get (codes "attributes") d)) d

module _ (table : Table) (Inner : List ℕ → Form → Data → Option (List ℕ)) where
  abbrev pub indexed_made : ℕ → List ℕ → Data → Option (List ℕ)
  indexed_made i kind d =
      framed (option_and_then word_made (get (codes "tab") d)) (option_and_then (Inner kind (form_of i (part_at table i))) (get (codes "attributes") d)) d

  abbrev pub layered_made : ℕ → List ℕ → Data → Option (List ℕ)
  layered_made i kind d = layered_by Inner (rows_under table i kind) false (layer_of (part_at table i)) kind d

  -- an attribute of a list that has kinds
  abbrev pub kinded_made : ℕ → List ℕ → Data → Option (List ℕ)
  kinded_made i kind d = attribute_made Inner (rows_under table i kind) true kind d
