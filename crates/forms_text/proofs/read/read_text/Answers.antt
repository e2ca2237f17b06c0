use Rattle.std.proofs.Common.{Err, ap, sym, ◌∙◌}
use Rattle.serde_json.specs.View.{view}
use Rattle.forms_values.proofs.Search.{none_not_some}
use Rattle.forms_text.proofs.Unread.{unread}
use Rattle.forms_text.proofs.read.read_text.Goals as goal

pub unreachable-requires : goal.unreachable-requires
unreachable-requires c =
    let none = c.in-Err-Invalid.ensures.invalid (ap Err c.in-Err-Invalid.field-0-is) in
    none_not_some (view c.in-Ok.value) (sym (unread c.args.text.now none) ∙ c.in-Ok.ensures.ok)
