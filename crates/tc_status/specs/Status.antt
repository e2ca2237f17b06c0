-- Faults as numbers for C.
use Rattle.std.specs.Prelude.{ℕ}
use Rattle.nla_frames.specs.declared.error.DecodeError.{DecodeError}
use Rattle.nla_frames.specs.declared.error.DecodeError.TheVariants.{BufferTooSmall, FrameHeaderShort, FrameTooLong, FrameTooShort, WrongLength, NotUtf8}
use Rattle.nla_frames.specs.declared.error.DecodeError.TheVariants.{SelectorShort, XstatsShort, MissingKind, DuplicateKind, OutOfMemory}

-- the status of a fault
abbrev pub status_of : DecodeError → ℕ
status_of (BufferTooSmall len needed) = 1
status_of (FrameHeaderShort left) = 2
status_of (FrameTooLong length left) = 3
status_of (FrameTooShort length) = 4
status_of (WrongLength expected got) = 5
status_of NotUtf8 = 6
status_of (SelectorShort len needed) = 7
status_of (XstatsShort len) = 8
status_of MissingKind = 9
status_of DuplicateKind = 10
status_of OutOfMemory = 11

-- the numbers in a fault's fields
abbrev pub numbers_of : DecodeError → ℕ × ℕ
numbers_of (BufferTooSmall len needed) = (len, needed)
numbers_of (FrameHeaderShort left) = (left, 0)
numbers_of (FrameTooLong length left) = (length, left)
numbers_of (FrameTooShort length) = (length, 0)
numbers_of (WrongLength expected got) = (expected, got)
numbers_of NotUtf8 = (0, 0)
numbers_of (SelectorShort len needed) = (len, needed)
numbers_of (XstatsShort len) = (len, 0)
numbers_of MissingKind = (0, 0)
numbers_of DuplicateKind = (0, 0)
numbers_of OutOfMemory = (0, 0)
