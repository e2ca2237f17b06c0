-- Messages as bytes: the fields of headers, and the attributes after them.
use Rattle.std.specs.Prelude.{ℕ, ◌==◌, ◌/◌, Bool, List, [], ◌∷◌, take, drop, Option, Some, None, Ok, Err, is_ok, if◌then◌else◌}
use Rattle.std.specs.List.{list_all}
use Rattle.nla_frames.specs.Fault.{Outcome}
use Rattle.nla_frames.specs.Frame.{Frame, type_of}
use Rattle.nla_frames.specs.Value.{le_value}
use Rattle.nla_frames.specs.Cutting.{cut, items_of}
use Rattle.tc_check.specs.declared.sort.Sort.{Sort}
use Rattle.tc_check.specs.declared.sort.Sort.TheVariants.{Qdisc, Class, Filter, Action, Chain}

-- ---- fields

-- the number of so many bytes at an offset, little-endian
abbrev pub number_at : ℕ → ℕ → List ℕ → ℕ
number_at width offset bytes = le_value (take width (drop offset bytes))

-- `struct nlmsghdr`: the length of the message, its type and its flags
abbrev pub length_field : List ℕ → ℕ
length_field message = number_at 4 0 message

abbrev pub type_field : List ℕ → ℕ
type_field message = number_at 2 4 message

abbrev pub flags_field : List ℕ → ℕ
flags_field message = number_at 2 6 message

-- `struct tcmsg` after it: the interface, the handle, the parent, and a number that differs by what the message is about
abbrev pub interface_field : List ℕ → ℕ
interface_field message = number_at 4 20 message

abbrev pub handle_field : List ℕ → ℕ
handle_field message = number_at 4 24 message

abbrev pub parent_field : List ℕ → ℕ
parent_field message = number_at 4 28 message

-- of a filter: its priority, and below that its protocol
abbrev pub priority_field : List ℕ → ℕ
priority_field message = number_at 4 32 message / 65536

-- ---- what messages are about

-- types go in fours: new, delete, get and set
abbrev pub sort_of : ℕ → Option Sort
sort_of type =
    if type / 4 == 9 then Some Qdisc else
    if type / 4 == 10 then Some Class else
    if type / 4 == 11 then Some Filter else
    if type / 4 == 12 then Some Action else
    if type / 4 == 25 then Some Chain else None

abbrev pub type_of_new : Sort → ℕ
type_of_new Qdisc = 36
type_of_new Class = 40
type_of_new Filter = 44
type_of_new Action = 48
type_of_new Chain = 100

-- the bytes before the attributes: 16 of `struct nlmsghdr`, and 4 of `struct tcamsg` or 20 of `struct tcmsg`
abbrev pub header_size : Sort → ℕ
header_size Action = 20
header_size _ = 36

-- ---- attributes

-- all bytes are whole attributes
abbrev pub is_list : List ℕ → Bool
is_list bytes = list_all is_ok (items_of (cut bytes))

-- the value of the last attribute of a type, which is the one that the kernel takes
abbrev pub last_value : ℕ → Option (List ℕ) → List (Outcome Frame) → Option (List ℕ)
last_value number found [] = found
last_value number found (Ok f ∷ items) = last_value number (if type_of f.word == number then Some f.value else found) items
last_value number found (Err e ∷ items) = last_value number found items

abbrev pub value_in : ℕ → List ℕ → Option (List ℕ)
value_in number bytes = last_value number None (items_of (cut bytes))
