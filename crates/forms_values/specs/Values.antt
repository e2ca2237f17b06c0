-- Values whose form contains no other form: the JSON of their bytes, and back.
use Rattle.std.specs.Net.Addr.{octets_of}
use Rattle.std.specs.Net.Reader.{read_ipv4, read_ipv6}
use Rattle.std.specs.Prelude.{Bool, List, None, Option, Some, [], bytes_eq, codes, false, if◌then◌else◌, length, option_and_then, option_map, slice_index}
use Rattle.std.specs.Prelude.{take, true, ℕ, ◌&&◌, ◌++◌, ◌-◌, ◌==◌, ◌||◌, ◌∷◌}
use Rattle.std.specs.Str.{is_utf8}
use Rattle.hex.specs.Hex.{decode_sized}
use Rattle.nla_frames.specs.Value.{le_bytes, le_value}
use Rattle.serde_json.specs.Data.{Data, boolean, number, string}
use Rattle.serde_json.specs.Find.{as_bool, as_str}
use Rattle.tc_texts.specs.Addresses.{ipv4_text, ipv6_text, mac_text}
use Rattle.tc_texts.specs.Handle.{handle_of, handle_text}
use Rattle.forms_values.specs.Numbers.{bits_of, name_of, named_made, named_or, num, number_made, number_of}
use Rattle.forms_values.specs.Places.{names_of, part_at}
use Rattle.forms_values.specs.Raw.{decoded, hex, hex_made, of_length, one, raw, with_text}
use Rattle.forms_values.specs.Tables.{Table}
use Rattle.forms_values.specs.Widths.{number_width}
use Rattle.forms_values.specs.declared.form.Form.{Form}
use Rattle.forms_values.specs.declared.form.Form.TheVariants as form

-- the text before the NUL at the end, if it is UTF-8
abbrev pub text_in : List ℕ → Option (List ℕ)
text_in b =
    if bytes_eq (take (length b - 1) b ++ 0 ∷ []) b && is_utf8 (take (length b - 1) b) then Some (take (length b - 1) b) else None

-- a text, or raw bytes if there is none
abbrev pub text_or_raw : List ℕ → Option (List ℕ) → Data
text_or_raw b None = raw b
text_or_raw b (Some t) = string t

-- the JSON; bytes of another length are raw
abbrev pub plain_shown : Table → Form → List ℕ → Data
plain_shown table (form.Number k) b = if length b == number_width k then number (num k (bits_of k b)) else raw b
plain_shown table (form.Named k i) b =
    if length b == number_width k
    then named_or (names_of (part_at table i)) (bits_of k b) (one (codes "Other") (number (num k (bits_of k b))))
    (name_of (names_of (part_at table i)) (bits_of k b))
    else raw b
plain_shown table form.Handle b = if length b == 4 then string (handle_text (le_value b)) else raw b
plain_shown table form.Flag b = if length b == 0 then boolean true else raw b
plain_shown table form.Truth b = if bytes_eq b (0 ∷ []) || bytes_eq b (1 ∷ []) then boolean (slice_index b 0 == 1) else raw b
plain_shown table form.Text b = text_or_raw b (text_in b)
plain_shown table form.Bare b = if is_utf8 b then string b else raw b
plain_shown table form.Hex b = hex b
plain_shown table (form.Bytes n) b = if length b == n then hex b else raw b
plain_shown table (form.Pad n) b = if length b == n then hex b else raw b
plain_shown table form.Mac b = if length b == 6 then string (mac_text b) else raw b
plain_shown table form.Ipv4 b = if length b == 4 then string (ipv4_text b) else raw b
plain_shown table form.Ipv6 b = if length b == 16 then string (ipv6_text b) else raw b
plain_shown table f b = raw b

-- ---- and back

-- the digits of a MAC address, without its colons
abbrev pub mac_digits : List ℕ → List ℕ
mac_digits t =
    slice_index t 0 ∷ slice_index t 1 ∷ slice_index t 3 ∷ slice_index t 4 ∷ slice_index t 6 ∷ slice_index t 7 ∷ slice_index t 9
    ∷ slice_index t 10 ∷ slice_index t 12 ∷ slice_index t 13 ∷ slice_index t 15 ∷ slice_index t 16 ∷ []

-- the octets of an address, if it is written in the form that is shown
abbrev pub mac_of : List ℕ → Option (List ℕ)
mac_of text = with_text mac_text text (option_and_then (of_length 6) (decoded (decode_sized (mac_digits text) 6)))

abbrev pub ipv4_of : List ℕ → Option (List ℕ)
ipv4_of text = with_text ipv4_text text (option_and_then (of_length 4) (option_map (λ r. r.0) (read_ipv4 text)))

abbrev pub ipv6_of : List ℕ → Option (List ℕ)
ipv6_of text = with_text ipv6_text text (option_and_then (of_length 16) (option_map (λ r. octets_of r.0) (read_ipv6 text)))

-- `true` has no bytes, `false` can't be turned into bytes
abbrev pub flag_made : Bool → Option (List ℕ)
flag_made true = Some []
flag_made false = None

-- one byte
abbrev pub truth_made : Bool → List ℕ
truth_made true = 1 ∷ []
truth_made false = 0 ∷ []

-- the bytes that are made
abbrev pub plain_made : Table → Form → Data → Option (List ℕ)
plain_made table (form.Number k) d = number_made k d
plain_made table (form.Named k i) d = named_made k (option_and_then (number_of (names_of (part_at table i))) (as_str d)) d
plain_made table form.Handle d = option_map (le_bytes 4) (option_and_then handle_of (as_str d))
plain_made table form.Flag d = option_and_then flag_made (as_bool d)
plain_made table form.Truth d = option_map truth_made (as_bool d)
plain_made table form.Bare d = as_str d
plain_made table form.Text d = option_map (λ t. t ++ 0 ∷ []) (as_str d)
plain_made table form.Hex d = hex_made d
plain_made table (form.Bytes n) d = option_and_then (of_length n) (hex_made d)
plain_made table (form.Pad n) d = option_and_then (of_length n) (hex_made d)
plain_made table form.Mac d = option_and_then mac_of (as_str d)
plain_made table form.Ipv4 d = option_and_then ipv4_of (as_str d)
plain_made table form.Ipv6 d = option_and_then ipv6_of (as_str d)
plain_made table f d = None
