-- The kind in force in a list: the text of an attribute of type 1, with or without a NUL at its end.
use Rattle.std.specs.Prelude.{Bool, List, None, Option, Some, [], codes, if◌then◌else◌, option_and_then, option_map, suc, true, unwrap_or, zero, ℕ}
use Rattle.std.specs.Prelude.{◌&&◌, ◌++◌, ◌==◌, ◌∷◌}
use Rattle.std.specs.Str.{is_utf8}
use Rattle.nla_frames.specs.Value.{strip}
use Rattle.serde_json.specs.Data.{Data, Items, item, no_items}
use Rattle.serde_json.specs.Find.{as_bool, as_str, get}
use Rattle.forms_attributes.specs.Frames.{PaddedFrame, after_first, front}
use Rattle.forms_attributes.specs.Rows.{type_of}

-- the text of a value: UTF-8 without one NUL at its end
abbrev pub kind_text : List ℕ → Option (List ℕ)
kind_text value = if is_utf8 (strip value) then Some (strip value) else None

-- the kind that a frame sets, in a list that has kinds: the text of a frame of type 1, whatever its flags
abbrev pub kind_in : Bool → PaddedFrame → Option (List ℕ)
kind_in has c = if has && type_of c.word == 1 then kind_text c.value else None

abbrev pub own_or : Option PaddedFrame → List ℕ → List ℕ
own_or None later = []
own_or (Some c) later = unwrap_or (kind_in true c) later

-- the first kind that a list sets; the empty text if it sets none
abbrev pub own_kind : ℕ → List ℕ → List ℕ
own_kind zero b = []
own_kind (suc n) b = own_or (front b) (own_kind n (after_first b))

-- ---- in JSON

-- the kind that an item names, in a list that has kinds
abbrev pub kind_named : Bool → Data → Option (List ℕ)
kind_named has d = if has then option_and_then as_str (get (codes "Kind") d) else None

abbrev pub own_kind_named : Items → List ℕ
own_kind_named no_items = []
own_kind_named (item d ds) = unwrap_or (kind_named true d) (own_kind_named ds)

-- a kind's text, with a NUL unless it is bare
abbrev pub kind_value : List ℕ → Option Data → Option (List ℕ)
kind_value t None = Some (t ++ 0 ∷ [])
kind_value t (Some d) = option_map (λ bare. if bare then t else t ++ 0 ∷ []) (as_bool d)
