-- The parts of each file below `kinds/`: what the constants of the code have. Written by `kinds/generate`.
use Rattle.std.specs.Prelude.{List, map}
use Rattle.forms_values.specs.Tables.{Part, const_part_view}
use Rattle.forms_kinds.specs.declared.parts.action.TheConstants.{PARTS_OF_ACTION}
use Rattle.forms_kinds.specs.declared.parts.actions.TheConstants.{PARTS_OF_ACTIONS_BPF, PARTS_OF_ACTIONS_CONNMARK, PARTS_OF_ACTIONS_CSUM}
use Rattle.forms_kinds.specs.declared.parts.actions.TheConstants.{PARTS_OF_ACTIONS_CT, PARTS_OF_ACTIONS_CTINFO, PARTS_OF_ACTIONS_GACT}
use Rattle.forms_kinds.specs.declared.parts.actions.TheConstants.{PARTS_OF_ACTIONS_GATE, PARTS_OF_ACTIONS_IFE, PARTS_OF_ACTIONS_IPT}
use Rattle.forms_kinds.specs.declared.parts.actions.TheConstants.{PARTS_OF_ACTIONS_MIRRED, PARTS_OF_ACTIONS_MPLS, PARTS_OF_ACTIONS_NAT}
use Rattle.forms_kinds.specs.declared.parts.actions.TheConstants.{PARTS_OF_ACTIONS_PEDIT, PARTS_OF_ACTIONS_POLICE, PARTS_OF_ACTIONS_SAMPLE}
use Rattle.forms_kinds.specs.declared.parts.actions.TheConstants.{PARTS_OF_ACTIONS_SIMPLE, PARTS_OF_ACTIONS_SKBEDIT, PARTS_OF_ACTIONS_SKBMOD}
use Rattle.forms_kinds.specs.declared.parts.actions.TheConstants.{PARTS_OF_ACTIONS_TUNNEL_KEY, PARTS_OF_ACTIONS_VLAN}
use Rattle.forms_kinds.specs.declared.parts.elements.TheConstants.{PARTS_OF_ELEMENTS}
use Rattle.forms_kinds.specs.declared.parts.ematch.TheConstants.{PARTS_OF_EMATCH}
use Rattle.forms_kinds.specs.declared.parts.filters.TheConstants.{PARTS_OF_FILTERS_BASIC, PARTS_OF_FILTERS_BPF, PARTS_OF_FILTERS_CGROUP}
use Rattle.forms_kinds.specs.declared.parts.filters.TheConstants.{PARTS_OF_FILTERS_FLOW, PARTS_OF_FILTERS_FLOWER, PARTS_OF_FILTERS_FW}
use Rattle.forms_kinds.specs.declared.parts.filters.TheConstants.{PARTS_OF_FILTERS_MATCHALL, PARTS_OF_FILTERS_ROUTE, PARTS_OF_FILTERS_RSVP}
use Rattle.forms_kinds.specs.declared.parts.filters.TheConstants.{PARTS_OF_FILTERS_TCINDEX, PARTS_OF_FILTERS_U32}
use Rattle.forms_kinds.specs.declared.parts.message.TheConstants.{PARTS_OF_MESSAGE}
use Rattle.forms_kinds.specs.declared.parts.qdiscs.TheConstants.{PARTS_OF_QDISCS_ATM, PARTS_OF_QDISCS_CAKE, PARTS_OF_QDISCS_CAKE_MQ}
use Rattle.forms_kinds.specs.declared.parts.qdiscs.TheConstants.{PARTS_OF_QDISCS_CBQ, PARTS_OF_QDISCS_CBS, PARTS_OF_QDISCS_CHOKE}
use Rattle.forms_kinds.specs.declared.parts.qdiscs.TheConstants.{PARTS_OF_QDISCS_CODEL, PARTS_OF_QDISCS_DRR, PARTS_OF_QDISCS_DSMARK}
use Rattle.forms_kinds.specs.declared.parts.qdiscs.TheConstants.{PARTS_OF_QDISCS_DUALPI2, PARTS_OF_QDISCS_ETF, PARTS_OF_QDISCS_ETS}
use Rattle.forms_kinds.specs.declared.parts.qdiscs.TheConstants.{PARTS_OF_QDISCS_FIFO, PARTS_OF_QDISCS_FQ, PARTS_OF_QDISCS_FQ_CODEL}
use Rattle.forms_kinds.specs.declared.parts.qdiscs.TheConstants.{PARTS_OF_QDISCS_FQ_PIE, PARTS_OF_QDISCS_GRED, PARTS_OF_QDISCS_HFSC}
use Rattle.forms_kinds.specs.declared.parts.qdiscs.TheConstants.{PARTS_OF_QDISCS_HHF, PARTS_OF_QDISCS_HTB, PARTS_OF_QDISCS_INGRESS}
use Rattle.forms_kinds.specs.declared.parts.qdiscs.TheConstants.{PARTS_OF_QDISCS_MQPRIO, PARTS_OF_QDISCS_MULTIQ, PARTS_OF_QDISCS_NETEM}
use Rattle.forms_kinds.specs.declared.parts.qdiscs.TheConstants.{PARTS_OF_QDISCS_NONE, PARTS_OF_QDISCS_PIE, PARTS_OF_QDISCS_PLUG}
use Rattle.forms_kinds.specs.declared.parts.qdiscs.TheConstants.{PARTS_OF_QDISCS_PRIO, PARTS_OF_QDISCS_QFQ, PARTS_OF_QDISCS_RED}
use Rattle.forms_kinds.specs.declared.parts.qdiscs.TheConstants.{PARTS_OF_QDISCS_SFB, PARTS_OF_QDISCS_SFQ, PARTS_OF_QDISCS_SKBPRIO}
use Rattle.forms_kinds.specs.declared.parts.qdiscs.TheConstants.{PARTS_OF_QDISCS_TAPRIO, PARTS_OF_QDISCS_TBF}
use Rattle.forms_kinds.specs.declared.parts.shared.TheConstants.{PARTS_OF_SHARED}
use Rattle.forms_kinds.specs.declared.parts.statistics.TheConstants.{PARTS_OF_STATISTICS}

unfoldable pub parts_of_action : List Part
parts_of_action = map const_part_view PARTS_OF_ACTION

unfoldable pub parts_of_actions_bpf : List Part
parts_of_actions_bpf = map const_part_view PARTS_OF_ACTIONS_BPF

unfoldable pub parts_of_actions_connmark : List Part
parts_of_actions_connmark = map const_part_view PARTS_OF_ACTIONS_CONNMARK

unfoldable pub parts_of_actions_csum : List Part
parts_of_actions_csum = map const_part_view PARTS_OF_ACTIONS_CSUM

unfoldable pub parts_of_actions_ct : List Part
parts_of_actions_ct = map const_part_view PARTS_OF_ACTIONS_CT

unfoldable pub parts_of_actions_ctinfo : List Part
parts_of_actions_ctinfo = map const_part_view PARTS_OF_ACTIONS_CTINFO

unfoldable pub parts_of_actions_gact : List Part
parts_of_actions_gact = map const_part_view PARTS_OF_ACTIONS_GACT

unfoldable pub parts_of_actions_gate : List Part
parts_of_actions_gate = map const_part_view PARTS_OF_ACTIONS_GATE

unfoldable pub parts_of_actions_ife : List Part
parts_of_actions_ife = map const_part_view PARTS_OF_ACTIONS_IFE

unfoldable pub parts_of_actions_ipt : List Part
parts_of_actions_ipt = map const_part_view PARTS_OF_ACTIONS_IPT

unfoldable pub parts_of_actions_mirred : List Part
parts_of_actions_mirred = map const_part_view PARTS_OF_ACTIONS_MIRRED

unfoldable pub parts_of_actions_mpls : List Part
parts_of_actions_mpls = map const_part_view PARTS_OF_ACTIONS_MPLS

unfoldable pub parts_of_actions_nat : List Part
parts_of_actions_nat = map const_part_view PARTS_OF_ACTIONS_NAT

unfoldable pub parts_of_actions_pedit : List Part
parts_of_actions_pedit = map const_part_view PARTS_OF_ACTIONS_PEDIT

unfoldable pub parts_of_actions_police : List Part
parts_of_actions_police = map const_part_view PARTS_OF_ACTIONS_POLICE

unfoldable pub parts_of_actions_sample : List Part
parts_of_actions_sample = map const_part_view PARTS_OF_ACTIONS_SAMPLE

unfoldable pub parts_of_actions_simple : List Part
parts_of_actions_simple = map const_part_view PARTS_OF_ACTIONS_SIMPLE

unfoldable pub parts_of_actions_skbedit : List Part
parts_of_actions_skbedit = map const_part_view PARTS_OF_ACTIONS_SKBEDIT

unfoldable pub parts_of_actions_skbmod : List Part
parts_of_actions_skbmod = map const_part_view PARTS_OF_ACTIONS_SKBMOD

unfoldable pub parts_of_actions_tunnel_key : List Part
parts_of_actions_tunnel_key = map const_part_view PARTS_OF_ACTIONS_TUNNEL_KEY

unfoldable pub parts_of_actions_vlan : List Part
parts_of_actions_vlan = map const_part_view PARTS_OF_ACTIONS_VLAN

unfoldable pub parts_of_elements : List Part
parts_of_elements = map const_part_view PARTS_OF_ELEMENTS

unfoldable pub parts_of_ematch : List Part
parts_of_ematch = map const_part_view PARTS_OF_EMATCH

unfoldable pub parts_of_filters_basic : List Part
parts_of_filters_basic = map const_part_view PARTS_OF_FILTERS_BASIC

unfoldable pub parts_of_filters_bpf : List Part
parts_of_filters_bpf = map const_part_view PARTS_OF_FILTERS_BPF

unfoldable pub parts_of_filters_cgroup : List Part
parts_of_filters_cgroup = map const_part_view PARTS_OF_FILTERS_CGROUP

unfoldable pub parts_of_filters_flow : List Part
parts_of_filters_flow = map const_part_view PARTS_OF_FILTERS_FLOW

unfoldable pub parts_of_filters_flower : List Part
parts_of_filters_flower = map const_part_view PARTS_OF_FILTERS_FLOWER

unfoldable pub parts_of_filters_fw : List Part
parts_of_filters_fw = map const_part_view PARTS_OF_FILTERS_FW

unfoldable pub parts_of_filters_matchall : List Part
parts_of_filters_matchall = map const_part_view PARTS_OF_FILTERS_MATCHALL

unfoldable pub parts_of_filters_route : List Part
parts_of_filters_route = map const_part_view PARTS_OF_FILTERS_ROUTE

unfoldable pub parts_of_filters_rsvp : List Part
parts_of_filters_rsvp = map const_part_view PARTS_OF_FILTERS_RSVP

unfoldable pub parts_of_filters_tcindex : List Part
parts_of_filters_tcindex = map const_part_view PARTS_OF_FILTERS_TCINDEX

unfoldable pub parts_of_filters_u32 : List Part
parts_of_filters_u32 = map const_part_view PARTS_OF_FILTERS_U32

unfoldable pub parts_of_message : List Part
parts_of_message = map const_part_view PARTS_OF_MESSAGE

unfoldable pub parts_of_qdiscs_atm : List Part
parts_of_qdiscs_atm = map const_part_view PARTS_OF_QDISCS_ATM

unfoldable pub parts_of_qdiscs_cake : List Part
parts_of_qdiscs_cake = map const_part_view PARTS_OF_QDISCS_CAKE

unfoldable pub parts_of_qdiscs_cake_mq : List Part
parts_of_qdiscs_cake_mq = map const_part_view PARTS_OF_QDISCS_CAKE_MQ

unfoldable pub parts_of_qdiscs_cbq : List Part
parts_of_qdiscs_cbq = map const_part_view PARTS_OF_QDISCS_CBQ

unfoldable pub parts_of_qdiscs_cbs : List Part
parts_of_qdiscs_cbs = map const_part_view PARTS_OF_QDISCS_CBS

unfoldable pub parts_of_qdiscs_choke : List Part
parts_of_qdiscs_choke = map const_part_view PARTS_OF_QDISCS_CHOKE

unfoldable pub parts_of_qdiscs_codel : List Part
parts_of_qdiscs_codel = map const_part_view PARTS_OF_QDISCS_CODEL

unfoldable pub parts_of_qdiscs_drr : List Part
parts_of_qdiscs_drr = map const_part_view PARTS_OF_QDISCS_DRR

unfoldable pub parts_of_qdiscs_dsmark : List Part
parts_of_qdiscs_dsmark = map const_part_view PARTS_OF_QDISCS_DSMARK

unfoldable pub parts_of_qdiscs_dualpi2 : List Part
parts_of_qdiscs_dualpi2 = map const_part_view PARTS_OF_QDISCS_DUALPI2

unfoldable pub parts_of_qdiscs_etf : List Part
parts_of_qdiscs_etf = map const_part_view PARTS_OF_QDISCS_ETF

unfoldable pub parts_of_qdiscs_ets : List Part
parts_of_qdiscs_ets = map const_part_view PARTS_OF_QDISCS_ETS

unfoldable pub parts_of_qdiscs_fifo : List Part
parts_of_qdiscs_fifo = map const_part_view PARTS_OF_QDISCS_FIFO

unfoldable pub parts_of_qdiscs_fq : List Part
parts_of_qdiscs_fq = map const_part_view PARTS_OF_QDISCS_FQ

unfoldable pub parts_of_qdiscs_fq_codel : List Part
parts_of_qdiscs_fq_codel = map const_part_view PARTS_OF_QDISCS_FQ_CODEL

unfoldable pub parts_of_qdiscs_fq_pie : List Part
parts_of_qdiscs_fq_pie = map const_part_view PARTS_OF_QDISCS_FQ_PIE

unfoldable pub parts_of_qdiscs_gred : List Part
parts_of_qdiscs_gred = map const_part_view PARTS_OF_QDISCS_GRED

unfoldable pub parts_of_qdiscs_hfsc : List Part
parts_of_qdiscs_hfsc = map const_part_view PARTS_OF_QDISCS_HFSC

unfoldable pub parts_of_qdiscs_hhf : List Part
parts_of_qdiscs_hhf = map const_part_view PARTS_OF_QDISCS_HHF

unfoldable pub parts_of_qdiscs_htb : List Part
parts_of_qdiscs_htb = map const_part_view PARTS_OF_QDISCS_HTB

unfoldable pub parts_of_qdiscs_ingress : List Part
parts_of_qdiscs_ingress = map const_part_view PARTS_OF_QDISCS_INGRESS

unfoldable pub parts_of_qdiscs_mqprio : List Part
parts_of_qdiscs_mqprio = map const_part_view PARTS_OF_QDISCS_MQPRIO

unfoldable pub parts_of_qdiscs_multiq : List Part
parts_of_qdiscs_multiq = map const_part_view PARTS_OF_QDISCS_MULTIQ

unfoldable pub parts_of_qdiscs_netem : List Part
parts_of_qdiscs_netem = map const_part_view PARTS_OF_QDISCS_NETEM

unfoldable pub parts_of_qdiscs_none : List Part
parts_of_qdiscs_none = map const_part_view PARTS_OF_QDISCS_NONE

unfoldable pub parts_of_qdiscs_pie : List Part
parts_of_qdiscs_pie = map const_part_view PARTS_OF_QDISCS_PIE

unfoldable pub parts_of_qdiscs_plug : List Part
parts_of_qdiscs_plug = map const_part_view PARTS_OF_QDISCS_PLUG

unfoldable pub parts_of_qdiscs_prio : List Part
parts_of_qdiscs_prio = map const_part_view PARTS_OF_QDISCS_PRIO

unfoldable pub parts_of_qdiscs_qfq : List Part
parts_of_qdiscs_qfq = map const_part_view PARTS_OF_QDISCS_QFQ

unfoldable pub parts_of_qdiscs_red : List Part
parts_of_qdiscs_red = map const_part_view PARTS_OF_QDISCS_RED

unfoldable pub parts_of_qdiscs_sfb : List Part
parts_of_qdiscs_sfb = map const_part_view PARTS_OF_QDISCS_SFB

unfoldable pub parts_of_qdiscs_sfq : List Part
parts_of_qdiscs_sfq = map const_part_view PARTS_OF_QDISCS_SFQ

unfoldable pub parts_of_qdiscs_skbprio : List Part
parts_of_qdiscs_skbprio = map const_part_view PARTS_OF_QDISCS_SKBPRIO

unfoldable pub parts_of_qdiscs_taprio : List Part
parts_of_qdiscs_taprio = map const_part_view PARTS_OF_QDISCS_TAPRIO

unfoldable pub parts_of_qdiscs_tbf : List Part
parts_of_qdiscs_tbf = map const_part_view PARTS_OF_QDISCS_TBF

unfoldable pub parts_of_shared : List Part
parts_of_shared = map const_part_view PARTS_OF_SHARED

unfoldable pub parts_of_statistics : List Part
parts_of_statistics = map const_part_view PARTS_OF_STATISTICS
