-- The result of `vtc_next`.
use Rattle.std.specs.Prelude.{◌≡◌, ℕ, ◌+◌, ◌<◌, ◌≤◌, List, length, take, drop, Ok, Err}
use Rattle.nla_frames.specs.Fault.{Outcome}
use Rattle.nla_frames.specs.Frame.{Frame}
use Rattle.nla_frames.specs.Cutting.{next_frame}
use Rattle.tc_status.specs.Status.{status_of}
use Rattle.tc_ffi_index.specs.declared.next.VtcAttr.{VtcAttr}

-- the attribute has the frame's word, and offset and length of its value
pub record Shows (bytes : List ℕ) (a : VtcAttr) (f : Frame) : Type 0 where
  pub same_word : a.word ≡ f.word
  pub same_len : a.len ≡ length f.value
  pub value : take a.len (drop a.offset bytes) ≡ f.value

-- the frame is at offset `at`, its value after its header of 4 bytes, and the bytes after it begin at `next`
pub record Steps (bytes : List ℕ) (at next : ℕ) (a : VtcAttr) (found : Frame × List ℕ) : Type 0 where
  pub shown : Shows bytes a found.0
  pub offset : a.offset ≡ at + 4
  pub rest : drop next bytes ≡ found.1
  pub further : at < next
  pub inside : next ≤ length bytes

-- status 0 and a frame, or the status of the fault
abbrev pub NextsIs : List ℕ → ℕ → ℕ → VtcAttr → ℕ → Outcome (Frame × List ℕ) → Type 0
NextsIs bytes at next a status (Ok found) = (status ≡ 0) × Steps bytes at next a found
NextsIs bytes at next a status (Err e) = status ≡ status_of e

abbrev pub Nexts : List ℕ → ℕ → ℕ → VtcAttr → ℕ → Type 0
Nexts bytes at next a status = NextsIs bytes at next a status (next_frame (drop at bytes))
