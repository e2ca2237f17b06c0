use Rattle.std.proofs.Common.{refl, sym, ap, not, ◌∙◌}
use Rattle.std.proofs.lemmas.Bool.{not-true}
use Rattle.nla_frames.specs.DefaultNla.{kept_frame}
use Rattle.tc_canon.specs.Descriptor.{table, by_kind}
use Rattle.tc_canon.specs.Tables.Messages.{attributes}
use Rattle.tc_canon.specs.Tables.Statistics.{stats2}
use Rattle.tc_values.proofs.Lists.{list_settles, list_is_typed}
use Rattle.tc_actions.specs.Stats2.{tc_stats2}
use Rattle.tc_canon.specs.Tables.Options.{option_kinds}
use Rattle.tc_options.specs.Options.{tc_option}
use Rattle.tc_messages.proofs.Kept.{kept_shown}
use Rattle.tc_messages.proofs.attribute.TcAttributeSettle.is_settled_under.Goals as goal

pub returns-then-is_known_kind-clause-settled : goal.returns-then-is_known_kind-clause-settled
returns-then-is_known_kind-clause-settled g c =
    let is_known = sym c.is_known_kind.ensures ∙ c.if-is_known_kind.true in
    let each = list_settles tc_option (by_kind option_kinds) _ _ c.deref.ensures.value c.args.kind.now _ c.list_settled_under.ensures.settled in
    rw c.in-Options.is (λ yes. (is_known, each.0 yes), λ settled. each.1 settled.1)

pub returns-then-is_known_kind-clause-typed : goal.returns-then-is_known_kind-clause-typed
returns-then-is_known_kind-clause-typed g c =
    λ yes. rw c.in-Options.is (refl, list_is_typed tc_option (by_kind option_kinds) _ _ c.deref.ensures.value (c.list_settled_under.ensures.typed yes))

pub returns-in-Stats2-clause-settled : goal.returns-in-Stats2-clause-settled
returns-in-Stats2-clause-settled g c =
    rw c.in-Stats2.is (list_settles tc_stats2
    (table stats2) _ _ c.deref-in-Stats2.ensures.value c.args.kind.now _ c.list_settled_under-in-Stats2.ensures.settled)

pub returns-in-Stats2-clause-typed : goal.returns-in-Stats2-clause-typed
returns-in-Stats2-clause-typed g c =
    λ yes. rw c.in-Stats2.is (
      refl,
      list_is_typed tc_stats2 (table stats2) _ _ c.deref-in-Stats2.ensures.value (c.list_settled_under-in-Stats2.ensures.typed yes),
    )

pub returns-then-is_settled_under-clause-settled : goal.returns-then-is_settled_under-clause-settled
returns-then-is_settled_under-clause-settled g c =
    let kept = kept_frame c.in-Other.nla in
    let settles = (kept_shown attributes kept.word kept.value).settled c.args.kind.now in
    rw (c.in-Other.is, c.is_read.ensures, c.kind.ensures)
    (λ yes. settles.0 (not-true _ yes), λ settled. ap not (settles.1 settled))

pub returns-then-is_settled_under-clause-typed : goal.returns-then-is_settled_under-clause-typed
returns-then-is_settled_under-clause-typed g c =
    let kept = kept_frame c.in-Other.nla in
    let raw = c.is_settled_under-in-Other.ensures.typed c.if-is_settled_under.true in
    λ yes. rw c.in-Other.is ((kept_shown attributes kept.word kept.value).typed raw.0 raw.1)

pub returns-in-OptionsRaw-clause-settled : goal.returns-in-OptionsRaw-clause-settled
returns-in-OptionsRaw-clause-settled g c = rw c.in-OptionsRaw.is c.is_settled_raw.ensures.settled

pub returns-in-OptionsRaw-clause-typed : goal.returns-in-OptionsRaw-clause-typed
returns-in-OptionsRaw-clause-typed g c = λ yes. rw c.in-OptionsRaw.is (refl, c.is_settled_raw.ensures.typed yes)
