-- The bytes of raw buffers, including padding.
use Rattle.std.specs.Prelude.{ℕ, List, Ok, Err, length, take, nat_lt, if◌then◌else◌}
use Rattle.nla_frames.specs.declared.error.DecodeError.TheVariants.{BufferTooSmall}
use Rattle.nla_frames.specs.Fault.{Outcome, seen}
use Rattle.tc_canon.specs.Layouts.{size_of, selector_head}
use Rattle.tc_meaning.specs.Content.{read_selector}
use Rattle.tc_raw.specs.declared.generic.TcActionGenericBuffer.{TcActionGenericBuffer}
use Rattle.tc_raw.specs.declared.raw.Raw.{Raw}

-- the first n bytes, or `BufferTooSmall` if there are fewer
abbrev pub first_bytes : ℕ → List ℕ → Outcome (List ℕ)
first_bytes n bytes = if nat_lt (length bytes) n then Err (BufferTooSmall (length bytes) n) else Ok (take n bytes)

-- the bytes of a selector's head, or `SelectorShort` if its keys don't follow
abbrev pub checked_head : List ℕ → Outcome (List ℕ)
checked_head bytes = seen (λ selector. take (size_of selector_head) bytes) (read_selector bytes)

abbrev pub raw_bytes : {R : Type 0} {N : ℕ} → Raw R N → List ℕ
raw_bytes b = b.bytes

abbrev pub generic_bytes : TcActionGenericBuffer → List ℕ
generic_bytes b = b.bytes
