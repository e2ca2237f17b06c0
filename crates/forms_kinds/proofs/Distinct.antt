-- No record of the table has two fields of one name. Written by `kinds/generate`.
use Rattle.std.proofs.Common.{refl, sym, true, ℕ, ◌≡◌}
use Rattle.forms_values.specs.Places.{fields_of}
use Rattle.forms_values.specs.Records.{names_distinct}
use Rattle.forms_kinds.proofs.EachPart.{EachFile, each_part}
use Rattle.forms_kinds.specs.Parts.{parts_of_action, parts_of_actions_bpf, parts_of_actions_connmark, parts_of_actions_csum, parts_of_actions_ct}
use Rattle.forms_kinds.specs.Parts.{parts_of_actions_ctinfo, parts_of_actions_gact, parts_of_actions_gate, parts_of_actions_ife}
use Rattle.forms_kinds.specs.Parts.{parts_of_actions_ipt, parts_of_actions_mirred, parts_of_actions_mpls, parts_of_actions_nat}
use Rattle.forms_kinds.specs.Parts.{parts_of_actions_pedit, parts_of_actions_police, parts_of_actions_sample, parts_of_actions_simple}
use Rattle.forms_kinds.specs.Parts.{parts_of_actions_skbedit, parts_of_actions_skbmod, parts_of_actions_tunnel_key, parts_of_actions_vlan}
use Rattle.forms_kinds.specs.Parts.{parts_of_elements, parts_of_ematch, parts_of_filters_basic, parts_of_filters_bpf, parts_of_filters_cgroup}
use Rattle.forms_kinds.specs.Parts.{parts_of_filters_flow, parts_of_filters_flower, parts_of_filters_fw, parts_of_filters_matchall}
use Rattle.forms_kinds.specs.Parts.{parts_of_filters_route, parts_of_filters_rsvp, parts_of_filters_tcindex, parts_of_filters_u32}
use Rattle.forms_kinds.specs.Parts.{parts_of_message, parts_of_qdiscs_atm, parts_of_qdiscs_cake, parts_of_qdiscs_cake_mq, parts_of_qdiscs_cbq}
use Rattle.forms_kinds.specs.Parts.{parts_of_qdiscs_cbs, parts_of_qdiscs_choke, parts_of_qdiscs_codel, parts_of_qdiscs_drr}
use Rattle.forms_kinds.specs.Parts.{parts_of_qdiscs_dsmark, parts_of_qdiscs_dualpi2, parts_of_qdiscs_etf, parts_of_qdiscs_ets}
use Rattle.forms_kinds.specs.Parts.{parts_of_qdiscs_fifo, parts_of_qdiscs_fq, parts_of_qdiscs_fq_codel, parts_of_qdiscs_fq_pie}
use Rattle.forms_kinds.specs.Parts.{parts_of_qdiscs_gred, parts_of_qdiscs_hfsc, parts_of_qdiscs_hhf, parts_of_qdiscs_htb, parts_of_qdiscs_ingress}
use Rattle.forms_kinds.specs.Parts.{parts_of_qdiscs_mqprio, parts_of_qdiscs_multiq, parts_of_qdiscs_netem, parts_of_qdiscs_none}
use Rattle.forms_kinds.specs.Parts.{parts_of_qdiscs_pie, parts_of_qdiscs_plug, parts_of_qdiscs_prio, parts_of_qdiscs_qfq, parts_of_qdiscs_red}
use Rattle.forms_kinds.specs.Parts.{parts_of_qdiscs_sfb, parts_of_qdiscs_sfq, parts_of_qdiscs_skbprio, parts_of_qdiscs_taprio}
use Rattle.forms_kinds.specs.Parts.{parts_of_qdiscs_tbf, parts_of_shared, parts_of_statistics}
use Rattle.forms_kinds.specs.Table.{tc_tables}

fields_distinct : EachFile (λ part. names_distinct (fields_of part))
unfolding parts_of_action parts_of_actions_bpf parts_of_actions_connmark parts_of_actions_csum parts_of_actions_ct parts_of_actions_ctinfo
    parts_of_actions_gact parts_of_actions_gate parts_of_actions_ife parts_of_actions_ipt parts_of_actions_mirred parts_of_actions_mpls
    parts_of_actions_nat parts_of_actions_pedit parts_of_actions_police parts_of_actions_sample parts_of_actions_simple parts_of_actions_skbedit
    parts_of_actions_skbmod parts_of_actions_tunnel_key parts_of_actions_vlan parts_of_elements parts_of_ematch parts_of_filters_basic
    parts_of_filters_bpf parts_of_filters_cgroup parts_of_filters_flow parts_of_filters_flower parts_of_filters_fw parts_of_filters_matchall
    parts_of_filters_route parts_of_filters_rsvp parts_of_filters_tcindex parts_of_filters_u32 parts_of_message parts_of_qdiscs_atm
    parts_of_qdiscs_cake parts_of_qdiscs_cake_mq parts_of_qdiscs_cbq parts_of_qdiscs_cbs parts_of_qdiscs_choke parts_of_qdiscs_codel
    parts_of_qdiscs_drr parts_of_qdiscs_dsmark parts_of_qdiscs_dualpi2 parts_of_qdiscs_etf parts_of_qdiscs_ets parts_of_qdiscs_fifo parts_of_qdiscs_fq
    parts_of_qdiscs_fq_codel parts_of_qdiscs_fq_pie parts_of_qdiscs_gred parts_of_qdiscs_hfsc parts_of_qdiscs_hhf parts_of_qdiscs_htb
    parts_of_qdiscs_ingress parts_of_qdiscs_mqprio parts_of_qdiscs_multiq parts_of_qdiscs_netem parts_of_qdiscs_none parts_of_qdiscs_pie
    parts_of_qdiscs_plug parts_of_qdiscs_prio parts_of_qdiscs_qfq parts_of_qdiscs_red parts_of_qdiscs_sfb parts_of_qdiscs_sfq parts_of_qdiscs_skbprio
    parts_of_qdiscs_taprio parts_of_qdiscs_tbf parts_of_shared parts_of_statistics
fields_distinct = record {
  bytes = refl;
  none = refl;
  action = refl;
  actions_bpf = refl;
  actions_connmark = refl;
  actions_csum = refl;
  actions_ct = refl;
  actions_ctinfo = refl;
  actions_gact = refl;
  actions_gate = refl;
  actions_ife = refl;
  actions_ipt = refl;
  actions_mirred = refl;
  actions_mpls = refl;
  actions_nat = refl;
  actions_pedit = refl;
  actions_police = refl;
  actions_sample = refl;
  actions_simple = refl;
  actions_skbedit = refl;
  actions_skbmod = refl;
  actions_tunnel_key = refl;
  actions_vlan = refl;
  elements = refl;
  ematch = refl;
  filters_basic = refl;
  filters_bpf = refl;
  filters_cgroup = refl;
  filters_flow = refl;
  filters_flower = refl;
  filters_fw = refl;
  filters_matchall = refl;
  filters_route = refl;
  filters_rsvp = refl;
  filters_tcindex = refl;
  filters_u32 = refl;
  message = refl;
  qdiscs_atm = refl;
  qdiscs_cake = refl;
  qdiscs_cake_mq = refl;
  qdiscs_cbq = refl;
  qdiscs_cbs = refl;
  qdiscs_choke = refl;
  qdiscs_codel = refl;
  qdiscs_drr = refl;
  qdiscs_dsmark = refl;
  qdiscs_dualpi2 = refl;
  qdiscs_etf = refl;
  qdiscs_ets = refl;
  qdiscs_fifo = refl;
  qdiscs_fq = refl;
  qdiscs_fq_codel = refl;
  qdiscs_fq_pie = refl;
  qdiscs_gred = refl;
  qdiscs_hfsc = refl;
  qdiscs_hhf = refl;
  qdiscs_htb = refl;
  qdiscs_ingress = refl;
  qdiscs_mqprio = refl;
  qdiscs_multiq = refl;
  qdiscs_netem = refl;
  qdiscs_none = refl;
  qdiscs_pie = refl;
  qdiscs_plug = refl;
  qdiscs_prio = refl;
  qdiscs_qfq = refl;
  qdiscs_red = refl;
  qdiscs_sfb = refl;
  qdiscs_sfq = refl;
  qdiscs_skbprio = refl;
  qdiscs_taprio = refl;
  qdiscs_tbf = refl;
  shared = refl;
  statistics = refl;
}

pub names_are_distinct : (place : ℕ) → true ≡ names_distinct (fields_of (tc_tables place))
names_are_distinct place = sym (each_part (λ part. names_distinct (fields_of part)) fields_distinct place)
