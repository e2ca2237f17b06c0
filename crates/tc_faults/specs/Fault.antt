-- The faults of values.
use Rattle.std.specs.Prelude.{ℕ, zero, suc, List, Option, Some, None, Ok, Err}
use Rattle.nla_frames.specs.declared.error.DecodeError.{DecodeError}
use Rattle.nla_frames.specs.declared.error.DecodeError.TheVariants.{MissingKind, DuplicateKind}
use Rattle.nla_frames.specs.Fault.{Outcome, ◌>>=◌}
use Rattle.nla_frames.specs.Cutting.{cut, items_of}
use Rattle.tc_canon.specs.Descriptor.{Class, list_of, own_list}
use Rattle.tc_meaning.specs.Own.{read_kinds, only_kind}
use Rattle.tc_meaning.specs.Meaning.{class_codec}

-- the fault of an outcome, if it failed
abbrev pub fault_of : {X : Type 0} → Outcome X → Option DecodeError
fault_of (Ok x) = None
fault_of (Err e) = Some e

-- the fault of an action itself: a malformed frame or a kind that isn't UTF-8, then no kind or several
abbrev pub action_fault : List ℕ → Option DecodeError
action_fault value = fault_of (read_kinds (items_of (cut value)) >>= only_kind)

-- counting kinds: none, one, or several
abbrev pub one_more : ℕ → ℕ
one_more zero = 1
one_more (suc n) = 2

abbrev pub count_error : ℕ → Option DecodeError
count_error zero = Some MissingKind
count_error (suc zero) = None
count_error (suc (suc n)) = Some DuplicateKind

-- the fault of a value of this class under a kind; a list has none of its own, except the attributes of an action
abbrev pub value_fault : Class → List ℕ → List ℕ → Option DecodeError
value_fault (list_of t) kind value = None
value_fault (own_list rows) kind value = action_fault value
value_fault class kind value = fault_of ((class_codec class).read kind value)
