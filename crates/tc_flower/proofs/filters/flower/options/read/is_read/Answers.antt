use Rattle.std.proofs.Common.{refl, ◌∙◌}
use Rattle.nla_frames.specs.Frame.{type_of}
use Rattle.tc_flower.proofs.Spans.{spans_read}
use Rattle.tc_canon.specs.Tables.Flower.{flower_options}
use Rattle.tc_flower.proofs.filters.flower.options.read.is_read.Goals as goal

pub returns : goal.returns
returns c = c.is_in_spans.ensures ∙ spans_read flower_options 0 (type_of c.args.word) refl
