-- The codec's check of the value of each attribute type.
use Rattle.std.specs.Prelude.{ℕ, zero, suc, List, [], ◌∷◌, length, ◌==◌, nat_le, nat_lt, Option, Some, None, if◌then◌else◌}
use Rattle.nla_frames.specs.declared.error.DecodeError.{DecodeError}
use Rattle.nla_frames.specs.declared.error.DecodeError.TheVariants.{BufferTooSmall}
use Rattle.nla_frames.specs.Value as plain
use Rattle.tc_canon.specs.Descriptor.{Class, le, be, masked, array, raw, text, warning, presence, truth, fields, selector, pair, xstats}
use Rattle.tc_canon.specs.Descriptor.{list_of, own_list, Rows, others, types, unread, options, is_within}
use Rattle.tc_canon.specs.Layouts.{size_of}
use Rattle.tc_meaning.specs.Content.{read_selector, read_xstats}
use Rattle.tc_faults.specs.declared.check.Check.{Check}
use Rattle.tc_faults.specs.declared.check.Check.TheVariants.{Any, Bytes, Fields, Text, Selector, Xstats, Action}
use Rattle.tc_faults.specs.Fault.{fault_of, action_fault}

-- the fault of a value that fails a check, under a kind
abbrev pub check_fault : Check → List ℕ → List ℕ → Option DecodeError
check_fault Any kind value = None
check_fault (Bytes n) kind value = fault_of (plain.exactly n value)
check_fault (Fields n) kind value = if nat_lt (length value) n then Some (BufferTooSmall (length value) n) else None
check_fault Text kind value = fault_of (plain.text value)
check_fault Selector kind value = fault_of (read_selector value)
check_fault Xstats kind value = fault_of (read_xstats kind value)
check_fault Action kind value = action_fault value

-- the check of a class
abbrev pub check_in : Class → Check
check_in (le n) = Bytes n
check_in (be n) = Bytes n
check_in (masked n bits) = Bytes n
check_in (array n) = Bytes n
check_in raw = Any
check_in text = Text
check_in warning = Text
check_in presence = Any
check_in truth = Bytes 1
check_in (fields fs) = Fields (size_of fs)
check_in selector = Selector
check_in pair = Bytes 8
check_in xstats = Xstats
check_in (list_of t) = Any
check_in (own_list rows) = Action

-- the check of a type, given the rows of its table
abbrev pub check_by : Rows → ℕ → Check
check_by others n = Any
check_by (types first last flags class rows) n = if is_within first last n then check_in class else check_by rows n
check_by (unread m class rows) n = if n == m then Any else check_by rows n
check_by (options m kinds rows) n = if n == m then Any else check_by rows n

-- the checks of a number of types from one on
abbrev pub checks_from : ℕ → ℕ → Rows → List Check
checks_from zero n rows = []
checks_from (suc more) n rows = check_by rows n ∷ checks_from more (suc n) rows

-- the higher of two
abbrev pub higher : ℕ → ℕ → ℕ
higher m n = if nat_le m n then n else m

-- the number of types, from 0 to the last in the rows
abbrev pub count_of : Rows → ℕ
count_of others = 0
count_of (types first last flags class rows) = higher (suc last) (count_of rows)
count_of (unread m class rows) = higher (suc m) (count_of rows)
count_of (options m kinds rows) = higher (suc m) (count_of rows)

-- the checks of all these types
abbrev pub checks_of : Rows → List Check
checks_of rows = checks_from (count_of rows) 0 rows
