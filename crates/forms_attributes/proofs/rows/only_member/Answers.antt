use Rattle.std.proofs.Common.{sym, ◌∙◌}
use Rattle.serde_json.specs.View.{view}
use Rattle.forms_attributes.proofs.Single.{only_is}
use Rattle.forms_attributes.proofs.rows.only_member.Goals as goal

pub returns-in-Some-first_key_value : goal.returns-in-Some-first_key_value
returns-in-Some-first_key_value c =
    only_is (view c.args.value.now) c.in-Some.members.now.entries c.in-Some-first_key_value.name.now c.in-Some-first_key_value.held.now c.as_str.result.now
    c.in-Some.ensures (sym c.len.ensures.len ∙ c.if-len-ne1.false) c.in-Some-first_key_value.ensures.first c.as_str.ensures.value
