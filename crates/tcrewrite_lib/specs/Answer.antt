-- The abstract value of a report in memory.
use Rattle.std.specs.Prelude.{string_bytes}
use Rattle.tcrewrite_lib.specs.Report.{Report}
use Rattle.tcrewrite_lib.specs.declared.answer.Answer.{Answer}

-- the report in memory
abbrev pub report_of : {A : Type 0} → Answer A → Report
report_of answer = record { text = string_bytes answer.text; status = answer.status }
