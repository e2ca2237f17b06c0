use Rattle.std.proofs.Common.{◌∙◌, arith}
use Rattle.tc_meaning.proofs.Fields.{length-fields_bytes}
use Rattle.tc_raw.proofs.raw.RawFromRef.from.Goals as goal

pub record_bytes-requires : goal.record_bytes-requires
record_bytes-requires g c =
    let whole = g.met.R.FixedRecord.whole in
    (omega (arith, whole, c.ref_in_range.ensures.short), length-fields_bytes _ _ c.ref_in_range.ensures.typed ∙ whole)
