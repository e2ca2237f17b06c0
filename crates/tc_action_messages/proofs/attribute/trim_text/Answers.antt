use Rattle.std.proofs.Common.{string_bytes, arith, length, ap, ◌∙◌}
use Rattle.tc_laws.specs.Loose.{without_nuls}
use Rattle.tc_action_messages.proofs.Nuls.{without-length, take-without, split-nuls}
use Rattle.tc_action_messages.proofs.attribute.trim_text.Goals as goal

pub overflow_sub-count : goal.overflow_sub-count
overflow_sub-count g c =
    let same = c.before_nuls-kept.ensures ∙ ap without_nuls c.as_bytes.ensures.value in
    omega (arith, ap length same, without-length (string_bytes c.args.text.now), ap length c.as_bytes.ensures.value, c.as_bytes.ensures.len, c.len.ensures)

pub truncate-requires : goal.truncate-requires
truncate-requires g c =
    let same = c.before_nuls-kept.ensures ∙ ap without_nuls c.as_bytes.ensures.value in
    λ _. rw same (split-nuls (string_bytes c.args.text.now))

pub returns-clause-trimmed : goal.returns-clause-trimmed
returns-clause-trimmed g c =
    let same = c.before_nuls-kept.ensures ∙ ap without_nuls c.as_bytes.ensures.value in
    c.truncate.ensures.bytes ∙ rw same (take-without (string_bytes c.args.text.now))
