-- Records: fields, and the bytes after the last one; and elements of one form.
use Rattle.std.specs.Prelude.{Bool, List, None, Option, Some, [], bytes_eq, codes, drop, false, if◌then◌else◌, length, nat_le, not, replicate, suc}
use Rattle.std.specs.Prelude.{take, true, unwrap_or, zero, ℕ, ◌&&◌, ◌++◌, ◌-◌, ◌==◌, ◌∷◌}
use Rattle.serde_json.specs.Data.{Data, Items, Members, item, member, no_items, no_members}
use Rattle.serde_json.specs.Find.{get}
use Rattle.forms_values.specs.Raw.{hex, hex_made}
use Rattle.forms_values.specs.Tables.{Field, Table}
use Rattle.forms_values.specs.Widths.{field_width}
use Rattle.forms_values.specs.declared.form.Form.{Form}
use Rattle.forms_values.specs.declared.form.Form.TheVariants as form

-- a field of padding
abbrev pub is_pad : Form → Bool
is_pad (form.Pad n) = true
is_pad f = false

-- no field has this name
abbrev pub is_free : List ℕ → List Field → Bool
is_free name [] = true
is_free name (f ∷ fs) = not (bytes_eq name f.name) && is_free name fs

-- no two fields have one name
abbrev pub are_distinct : List Field → Bool
are_distinct [] = true
are_distinct (f ∷ fs) = is_free f.name fs && are_distinct fs

-- and no field is called raw or rest
abbrev pub names_distinct : List Field → Bool
names_distinct fs = is_free (codes "raw") fs && is_free (codes "rest") fs && are_distinct fs

-- the bytes of a field: its width, or all that is left
abbrev pub field_of : Option ℕ → List ℕ → List ℕ
field_of None b = b
field_of (Some w) b = take w b

abbrev pub after_field : Option ℕ → List ℕ → List ℕ
after_field None b = []
after_field (Some w) b = drop w b

abbrev pub zeros : Option ℕ → List ℕ
zeros w = replicate (unwrap_or w 0) 0

abbrev pub all_zero : List ℕ → Bool
all_zero [] = true
all_zero (x ∷ b) = x == 0 && all_zero b

-- as many zeros as the field has bytes
abbrev pub is_blank : Option ℕ → List ℕ → Bool
is_blank w b = length b == unwrap_or w 0 && all_zero b

-- n bytes are enough for the fields
abbrev pub are_enough : Table → ℕ → List Field → Bool
are_enough table n [] = true
are_enough table n (f ∷ fs) =
    let w = unwrap_or (field_width table f) 0 in nat_le w n && are_enough table (n - w) fs

-- the bytes after the last field
abbrev pub rest_member : List ℕ → Members
rest_member [] = no_members
rest_member b = member (codes "rest") (hex b) no_members

module _ (table : Table) (Inner : Form → List ℕ → Data) where
  -- a field, unless it is padding of zeros
  abbrev pub field_member : Field → List ℕ → Members → Members
  field_member f chunk after =
      if is_pad f.form && is_blank (field_width table f) chunk then after else member f.name (Inner f.form chunk) after

  -- the members of all fields
  abbrev pub members : List Field → List ℕ → Members
  members [] b = rest_member b
  members (f ∷ fs) b = field_member f (field_of (field_width table f) b) (members fs (after_field (field_width table f) b))

-- ---- elements

module _ (Inner : Form → List ℕ → Data) where
  -- elements of this form, each of w bytes
  abbrev pub elements : ℕ → Form → ℕ → List ℕ → Items
  elements n f w [] = no_items
  elements zero f w (x ∷ b) = item (Inner f (x ∷ b)) no_items
  elements (suc n) f w (x ∷ b) = item (Inner f (take w (x ∷ b))) (elements n f w (drop w (x ∷ b)))

  -- one element of any width, to the end
  abbrev pub elements_of : Form → Option ℕ → List ℕ → Items
  elements_of f None b = item (Inner f b) no_items
  elements_of f (Some w) b = elements (length b) f w b

-- ---- and back

-- both, concatenated, if both exist
abbrev pub joined : Option (List ℕ) → Option (List ℕ) → Option (List ℕ)
joined (Some a) (Some b) = Some (a ++ b)
joined a b = None

abbrev pub rest_made : Option Data → Option (List ℕ)
rest_made None = Some []
rest_made (Some d) = hex_made d

module _ (table : Table) (Inner : Form → Data → Option (List ℕ)) where
  -- a field of padding that JSON leaves out is zeros
  abbrev pub field_made : Field → Option Data → Option (List ℕ)
  field_made f None = if is_pad f.form then Some (zeros (field_width table f)) else None
  field_made f (Some d) = Inner f.form d

  abbrev pub fields_made : List Field → Data → Option (List ℕ)
  fields_made [] d = rest_made (get (codes "rest") d)
  fields_made (f ∷ fs) d = joined (field_made f (get f.name d)) (fields_made fs d)

-- one after the other
abbrev pub each_made : (Data → Option (List ℕ)) → Items → Option (List ℕ)
each_made One no_items = Some []
each_made One (item d ds) = joined (One d) (each_made One ds)
