use Rattle.tc_canon.proofs.Decisions.{text-decides}
use Rattle.tc_canon.proofs.contents.is_text.Goals as goal

pub returns : goal.returns
returns c = text-decides _ _ c.from_utf8.result _ _ c.is_ok.ensures.value c.from_utf8.ensures.cases
