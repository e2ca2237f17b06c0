-- A run: the bytes that are read, the bytes that are written, and the status.
use Rattle.std.specs.Prelude.{◌≡◌, ◌⊎◌, ℕ, List, Option, IfSome, Result, Ok, Err}
use Rattle.std.specs.Io.KnownBytes.{Appends, Consumes}
use Rattle.tcrewrite_lib.specs.Text.{looked_at}
use Rattle.tcrewrite_lib.specs.Report.{Report, IsReport, no_memory}
use Rattle.tc_capture.specs.declared.kind.MessageType.{MessageType}
use Rattle.tcrewrite_lib.specs.declared.run.RunError.{RunError}

-- if the reader's bytes are known, the text is all of them, or their beginning up to the byte that makes it too long,
-- and no more was read
abbrev pub IsTextOf : Option (List ℕ) → Option (List ℕ) → List ℕ → Type 0
IsTextOf old new text = IfSome old (λ all. (text ≡ looked_at all) × Consumes old new text)

-- the report's text was appended to the output, and its status is returned
abbrev pub Reports : Option (List ℕ) → Option (List ℕ) → ℕ → Report → Type 0
Reports old new status r = Appends old new r.text × (status ≡ r.status)

-- the appended text and the status are a report on the text
abbrev pub ReportsOn : MessageType → List ℕ → Option (List ℕ) → Option (List ℕ) → ℕ → Type 0
ReportsOn mode text old new status = (r : Report) × IsReport mode text r × Reports old new status r

-- if the reader's bytes are known: the text was read and no more, and the appended text is a report on it; or that
-- memory ran out
abbrev pub RunReports : MessageType → Option (List ℕ) → Option (List ℕ) → Option (List ℕ) → Option (List ℕ) → ℕ → Type 0
RunReports mode unread left old new status =
    IfSome unread (λ all. (Consumes unread left (looked_at all) × ReportsOn mode (looked_at all) old new status) ⊎ Reports old new status no_memory)

-- the exit status of a run: that of its report, or 3 if a stream failed
abbrev pub status_of : Result ℕ RunError → ℕ
status_of (Ok status) = status
status_of (Err fault) = 3
