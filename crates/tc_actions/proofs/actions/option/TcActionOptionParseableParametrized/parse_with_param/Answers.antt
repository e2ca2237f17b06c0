use Rattle.std.proofs.Common.{◌≡◌, false, refl, sym, ◌∙◌}
use Rattle.std.specs.Prelude.{codes}
use Rattle.nla_frames.specs.Buffer.{frame_of}
use Rattle.nla_frames.specs.Fault.{seen}
use Rattle.tc_canon.specs.Descriptor.{is_known}
use Rattle.tc_canon.specs.Tables.Actions.{action_option_kinds}
use Rattle.tc_values.proofs.OfKinds.{option_kept}
use Rattle.tc_actions.specs.ActionOption.{action_option}
use Rattle.tc_actions.proofs.OptionLists.{option_by_name}
use Rattle.tc_actions.proofs.actions.option.TcActionOptionParseableParametrized.parse_with_param.Goals as goal

pub returns-then-eq : goal.returns-then-eq
returns-then-eq g c = option_by_name (codes "mirred") c.args.kind.now (sym c.eq.ensures ∙ c.if-eq.true) (frame_of c.args.buf.now) (seen action_option c.read.result) c.read.ensures

pub returns-then-eq-2 : goal.returns-then-eq-2
returns-then-eq-2 g c = option_by_name (codes "nat") c.args.kind.now (sym c.eq-2.ensures ∙ c.if-eq-2.true) (frame_of c.args.buf.now) (seen action_option c.read-then-eq-2.result) c.read-then-eq-2.ensures

pub returns-then-eq-3 : goal.returns-then-eq-3
returns-then-eq-3 g c = option_by_name (codes "tunnel_key") c.args.kind.now (sym c.eq-3.ensures ∙ c.if-eq-3.true) (frame_of c.args.buf.now) (seen action_option c.read-then-eq-3.result) c.read-then-eq-3.ensures

-- the kind is none of the three
pub returns : goal.returns
returns g c =
    let unknown : is_known action_option_kinds c.args.kind.now ≡ false =
    rw (sym c.eq.ensures ∙ c.if-eq.false, sym c.eq-2.ensures ∙ c.if-eq-2.false, sym c.eq-3.ensures ∙ c.if-eq-3.false) refl
    in
    option_kept action_option_kinds c.args.kind.now (frame_of c.args.buf.now) _ unknown c.in_ok-parse.ensures
