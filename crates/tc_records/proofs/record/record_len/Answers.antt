use Rattle.std.proofs.Common.{Some, ap, sym, ◌∙◌}
use Rattle.tc_meaning.proofs.Fields.{length-fields_bytes}
use Rattle.tc_records.proofs.record.record_len.Goals as goal

pub returns : goal.returns
returns g c = ap Some (sym (length-fields_bytes _ _ c.ref_in_range.ensures.typed ∙ g.met.R.FixedRecord.whole))
