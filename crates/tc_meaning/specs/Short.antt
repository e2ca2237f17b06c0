-- An attribute that fits has a value of at most 65531 bytes, for every table.
use Rattle.std.specs.Prelude.{ℕ, ◌+◌, Bool, true, false, List, MatchBool, ◌==◌, if◌then◌else◌}
use Rattle.std.specs.Str.{bytes_eq}
use Rattle.nla_frames.specs.Frame.{Frame}
use Rattle.nla_frames.specs.Reading.{keep}
use Rattle.nla_frames.specs.Codec.{Codec, list_codec}
use Rattle.tc_canon.specs.Descriptor.{Table, table, every, by_kind, Rows, others, types, unread, options, Kinds, unknown, kind, is_within}
use Rattle.tc_meaning.specs.Tree.{Content, Attribute, known, kept, other, of_kind, number_of}
use Rattle.tc_meaning.specs.Content.{via}
use Rattle.tc_meaning.specs.Meaning.{IsShort, a_list, choose, row_frames, unread_frames, every_frame, options_frames, class_codec, table_codec, rows_codec}
use Rattle.tc_meaning.specs.Meaning.{kinds_codec}

-- attributes that fit have a short value
abbrev pub MakesShort : Codec Frame Attribute → Type 0
MakesShort c = (x : Attribute) → c.Fits x → IsShort (c.write x).value

row_short : (word n : ℕ) (c : Codec (List ℕ) Content) → MakesShort (row_frames word n c)
row_short word n c (known m content) fits = fits.1
row_short word n c (kept m w value) fits = fits
row_short word n c (other w value) fits = fits
row_short word n c (of_kind name x) fits = fits

every_short : (c : Codec (List ℕ) Content) → MakesShort (every_frame c)
every_short c (known word content) fits = fits.1
every_short c (kept m w value) fits = absurd fits
every_short c (other w value) fits = absurd fits
every_short c (of_kind name x) fits = absurd fits

choose_short : (b : Bool) (chosen rest : Codec Frame Attribute) → MakesShort chosen → MakesShort rest → MakesShort (choose b chosen rest)
choose_short true chosen rest first second = first
choose_short false chosen rest first second = second

pub rows_short : (rows : Rows) (n : ℕ) → MakesShort (rows_codec rows n)
rows_short others n = λ x fits. fits
rows_short (types first last flags class rows) n =
    choose_short (is_within first last n) (row_frames (flags + n) n (class_codec class)) (rows_codec rows n) (row_short (flags + n) n (class_codec class))
    (rows_short rows n)
rows_short (unread m class rows) n =
    choose_short (n == m) (unread_frames m (class_codec class)) (rows_codec rows n) (row_short m m (class_codec class)) (rows_short rows n)
rows_short (options m kinds rows) n =
    let list = via a_list (list_codec keep keep (kinds_codec kinds)) in
    choose_short (n == m) (options_frames m kinds list) (rows_codec rows n) (row_short m m list) (rows_short rows n)

-- one of two frames; each has a short value if its attribute fits
pick_short : (b : Bool) (f g : Frame) (P Q : Type 0) → (P → IsShort f.value) → (Q → IsShort g.value) → MatchBool b P Q → IsShort (if b then f else g).value
pick_short true f g P Q first second fits = first fits
pick_short false f g P Q first second fits = second fits

pub kinds_short : (kinds : Kinds) → MakesShort (kinds_codec kinds)
kinds_short unknown x fits = fits
kinds_short (kind name rows kinds) (known m content) fits = kinds_short kinds (known m content) fits
kinds_short (kind name rows kinds) (kept m w value) fits = kinds_short kinds (kept m w value) fits
kinds_short (kind name rows kinds) (other w value) fits = kinds_short kinds (other w value) fits
kinds_short (kind name rows kinds) (of_kind m x) fits =
    pick_short (bytes_eq m name) _ _ _ _ (rows_short rows (number_of x) x) (kinds_short kinds (of_kind m x)) fits

pub table_short : (t : Table) → MakesShort (table_codec t)
table_short (table rows) = λ x. rows_short rows (number_of x) x
table_short (every class) = every_short (class_codec class)
table_short (by_kind kinds) = kinds_short kinds
