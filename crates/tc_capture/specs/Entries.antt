-- Lists of entries: the options of a pcapng block, and netlink attributes. An entry has a type and a length, two bytes
-- each, then the value, then padding up to a multiple of four bytes. The type 0 ends the list.
use Rattle.std.specs.Prelude.{ℕ, zero, suc, ◌+◌, ◌-◌, List, length, take, drop, Option, Some, None, nat_lt, ◌==◌, if◌then◌else◌}
use Rattle.byteorder.specs.Endian.{little_number}
use Rattle.tc_capture.specs.declared.entries.Entries.{Entries}
use Rattle.tc_capture.specs.declared.entries.Entries.TheVariants.{Options, Attributes}
use Rattle.tc_capture.specs.Order.{number}
use Rattle.tc_capture.specs.Message.{padding}

-- an option begins with its type, an attribute with its length
abbrev pub type_at : Entries → List ℕ → ℕ
type_at (Options order) bytes = number order 2 bytes
type_at Attributes bytes = little_number 2 (drop 2 bytes)

-- the length of the value of the entry at the front; the length of an attribute includes its four bytes of type and
-- length
abbrev pub value_len : Entries → List ℕ → ℕ
value_len (Options order) bytes = number order 2 (drop 2 bytes)
value_len Attributes bytes = little_number 2 bytes - 4

-- the length of the entry in bytes, without padding
abbrev pub entry_end : Entries → List ℕ → ℕ
entry_end entries bytes = 4 + value_len entries bytes

abbrev pub entry_value : Entries → List ℕ → List ℕ
entry_value entries bytes = drop 4 (take (entry_end entries bytes) bytes)

-- the bytes after it and its padding
abbrev pub after_entry : Entries → List ℕ → List ℕ
after_entry entries bytes = drop (padding (entry_end entries bytes)) (drop (entry_end entries bytes) bytes)

-- the value of the entry at the front if it has this type, and otherwise what is found after it
abbrev pub entry_or : Entries → ℕ → List ℕ → Option (List ℕ) → Option (List ℕ)
entry_or entries kind bytes later =
    if nat_lt (length bytes) 4 then None else
    if type_at entries bytes == 0 then None else
    if nat_lt (length bytes) (entry_end entries bytes) then None else
    if type_at entries bytes == kind then Some (entry_value entries bytes) else later

-- the value of the first entry of a type, among at most n entries
unfoldable pub entry_up_to : ℕ → Entries → ℕ → List ℕ → Option (List ℕ)
entry_up_to zero entries kind bytes = None
entry_up_to (suc n) entries kind bytes = entry_or entries kind bytes (entry_up_to n entries kind (after_entry entries bytes))

-- an entry has at least one byte, so there are no more entries than bytes
unfoldable pub entry_in : Entries → ℕ → List ℕ → Option (List ℕ)
entry_in entries kind bytes = entry_up_to (length bytes) entries kind bytes
