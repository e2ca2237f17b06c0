use Rattle.nla_frames.specs.Value.{IsBytes}
use Rattle.std.proofs.Common.{◌≡◌, rules, Some, None, subst}
use Rattle.forms_values.proofs.Leaves.{hex_so, seen_as}
use Rattle.forms_values.proofs.values_made.bytes_of_hex.Goals as goal

pub returns-in-Ok-Some : goal.returns-in-Ok-Some
returns-in-Ok-Some c =
    let same : c.deref.result.now ≡ c.in-Ok-Some.bytes.items = search rules in
    hex_so c.args.text.now (Some c.in-Ok-Some.bytes.items) (subst IsBytes same c.bytes_are_in_range.ensures)
    (seen_as c.args.text.now (λ v. v.items) c.in-Ok-Some.field-0 (Some c.in-Ok-Some.bytes) c.in-Ok-Some.field-0-is c.in-Ok-Some.ensures)

pub returns-in-Ok-None : goal.returns-in-Ok-None
returns-in-Ok-None c =
    hex_so c.args.text.now None tt (seen_as c.args.text.now (λ v. v.items) c.in-Ok-None.field-0 None c.in-Ok-None.field-0-is c.in-Ok-None.ensures)
