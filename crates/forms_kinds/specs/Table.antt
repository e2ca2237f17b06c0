-- The table: a part at each place, 24 places for a file. Written by `kinds/generate`.
use Rattle.std.specs.Prelude.{List, [], if◌then◌else◌, slice_get, unwrap_or, ℕ, ◌%◌, ◌/◌, ◌==◌}
use Rattle.forms_values.specs.Tables.{One, Part, Table}
use Rattle.forms_values.specs.declared.form.Form.{Form}
use Rattle.forms_values.specs.declared.form.Form.TheVariants as form
use Rattle.forms_kinds.specs.Parts.{parts_of_action, parts_of_actions_bpf, parts_of_actions_connmark, parts_of_actions_csum, parts_of_actions_ct}
use Rattle.forms_kinds.specs.Parts.{parts_of_actions_ctinfo, parts_of_actions_gact, parts_of_actions_gate, parts_of_actions_ife}
use Rattle.forms_kinds.specs.Parts.{parts_of_actions_ipt, parts_of_actions_mirred, parts_of_actions_mpls, parts_of_actions_nat}
use Rattle.forms_kinds.specs.Parts.{parts_of_actions_pedit, parts_of_actions_police, parts_of_actions_sample, parts_of_actions_simple}
use Rattle.forms_kinds.specs.Parts.{parts_of_actions_skbedit, parts_of_actions_skbmod, parts_of_actions_tunnel_key, parts_of_actions_vlan}
use Rattle.forms_kinds.specs.Parts.{parts_of_elements, parts_of_ematch, parts_of_filters_basic, parts_of_filters_bpf, parts_of_filters_cgroup}
use Rattle.forms_kinds.specs.Parts.{parts_of_filters_flow, parts_of_filters_flower, parts_of_filters_fw, parts_of_filters_matchall}
use Rattle.forms_kinds.specs.Parts.{parts_of_filters_route, parts_of_filters_rsvp, parts_of_filters_tcindex, parts_of_filters_u32}
use Rattle.forms_kinds.specs.Parts.{parts_of_message, parts_of_qdiscs_atm, parts_of_qdiscs_cake, parts_of_qdiscs_cake_mq, parts_of_qdiscs_cbq}
use Rattle.forms_kinds.specs.Parts.{parts_of_qdiscs_cbs, parts_of_qdiscs_choke, parts_of_qdiscs_codel, parts_of_qdiscs_drr}
use Rattle.forms_kinds.specs.Parts.{parts_of_qdiscs_dsmark, parts_of_qdiscs_dualpi2, parts_of_qdiscs_etf, parts_of_qdiscs_ets}
use Rattle.forms_kinds.specs.Parts.{parts_of_qdiscs_fifo, parts_of_qdiscs_fq, parts_of_qdiscs_fq_codel, parts_of_qdiscs_fq_pie}
use Rattle.forms_kinds.specs.Parts.{parts_of_qdiscs_gred, parts_of_qdiscs_hfsc, parts_of_qdiscs_hhf, parts_of_qdiscs_htb, parts_of_qdiscs_ingress}
use Rattle.forms_kinds.specs.Parts.{parts_of_qdiscs_mqprio, parts_of_qdiscs_multiq, parts_of_qdiscs_netem, parts_of_qdiscs_none}
use Rattle.forms_kinds.specs.Parts.{parts_of_qdiscs_pie, parts_of_qdiscs_plug, parts_of_qdiscs_prio, parts_of_qdiscs_qfq, parts_of_qdiscs_red}
use Rattle.forms_kinds.specs.Parts.{parts_of_qdiscs_sfb, parts_of_qdiscs_sfq, parts_of_qdiscs_skbprio, parts_of_qdiscs_taprio}
use Rattle.forms_kinds.specs.Parts.{parts_of_qdiscs_tbf, parts_of_shared, parts_of_statistics}

-- RTM_*QDISC, RTM_*TCLASS, RTM_*TFILTER, RTM_*CHAIN
abbrev pub tc_message : Form
tc_message = form.Record 816

-- RTM_*ACTION
abbrev pub action_message : Form
action_message = form.Record 824

unfoldable pub parts_from_0 : ℕ → List Part
parts_from_0 file =
    if file == 0 then parts_of_action else (
    if file == 1 then parts_of_actions_bpf else (
    if file == 2 then parts_of_actions_connmark else (
    if file == 3 then parts_of_actions_csum else (
    if file == 4 then parts_of_actions_ct else (
    if file == 5 then parts_of_actions_ctinfo else (
    if file == 6 then parts_of_actions_gact else (
    if file == 7 then parts_of_actions_gate else (
    if file == 8 then parts_of_actions_ife else (
    if file == 9 then parts_of_actions_ipt else (
    if file == 10 then parts_of_actions_mirred else (
    if file == 11 then parts_of_actions_mpls else (
    if file == 12 then parts_of_actions_nat else (
    if file == 13 then parts_of_actions_pedit else (
    if file == 14 then parts_of_actions_police else (
    if file == 15 then parts_of_actions_sample else (
    if file == 16 then parts_of_actions_simple else (
    if file == 17 then parts_of_actions_skbedit else (
    []))))))))))))))))))

unfoldable pub parts_from_18 : ℕ → List Part
parts_from_18 file =
    if file == 18 then parts_of_actions_skbmod else (
    if file == 19 then parts_of_actions_tunnel_key else (
    if file == 20 then parts_of_actions_vlan else (
    if file == 21 then parts_of_elements else (
    if file == 22 then parts_of_ematch else (
    if file == 23 then parts_of_filters_basic else (
    if file == 24 then parts_of_filters_bpf else (
    if file == 25 then parts_of_filters_cgroup else (
    if file == 26 then parts_of_filters_flow else (
    if file == 27 then parts_of_filters_flower else (
    if file == 28 then parts_of_filters_fw else (
    if file == 29 then parts_of_filters_matchall else (
    if file == 30 then parts_of_filters_route else (
    if file == 31 then parts_of_filters_rsvp else (
    if file == 32 then parts_of_filters_tcindex else (
    if file == 33 then parts_of_filters_u32 else (
    if file == 34 then parts_of_message else (
    if file == 35 then parts_of_qdiscs_atm else (
    []))))))))))))))))))

unfoldable pub parts_from_36 : ℕ → List Part
parts_from_36 file =
    if file == 36 then parts_of_qdiscs_cake else (
    if file == 37 then parts_of_qdiscs_cake_mq else (
    if file == 38 then parts_of_qdiscs_cbq else (
    if file == 39 then parts_of_qdiscs_cbs else (
    if file == 40 then parts_of_qdiscs_choke else (
    if file == 41 then parts_of_qdiscs_codel else (
    if file == 42 then parts_of_qdiscs_drr else (
    if file == 43 then parts_of_qdiscs_dsmark else (
    if file == 44 then parts_of_qdiscs_dualpi2 else (
    if file == 45 then parts_of_qdiscs_etf else (
    if file == 46 then parts_of_qdiscs_ets else (
    if file == 47 then parts_of_qdiscs_fifo else (
    if file == 48 then parts_of_qdiscs_fq else (
    if file == 49 then parts_of_qdiscs_fq_codel else (
    if file == 50 then parts_of_qdiscs_fq_pie else (
    if file == 51 then parts_of_qdiscs_gred else (
    if file == 52 then parts_of_qdiscs_hfsc else (
    if file == 53 then parts_of_qdiscs_hhf else (
    []))))))))))))))))))

unfoldable pub parts_from_54 : ℕ → List Part
parts_from_54 file =
    if file == 54 then parts_of_qdiscs_htb else (
    if file == 55 then parts_of_qdiscs_ingress else (
    if file == 56 then parts_of_qdiscs_mqprio else (
    if file == 57 then parts_of_qdiscs_multiq else (
    if file == 58 then parts_of_qdiscs_netem else (
    if file == 59 then parts_of_qdiscs_none else (
    if file == 60 then parts_of_qdiscs_pie else (
    if file == 61 then parts_of_qdiscs_plug else (
    if file == 62 then parts_of_qdiscs_prio else (
    if file == 63 then parts_of_qdiscs_qfq else (
    if file == 64 then parts_of_qdiscs_red else (
    if file == 65 then parts_of_qdiscs_sfb else (
    if file == 66 then parts_of_qdiscs_sfq else (
    if file == 67 then parts_of_qdiscs_skbprio else (
    if file == 68 then parts_of_qdiscs_taprio else (
    if file == 69 then parts_of_qdiscs_tbf else (
    if file == 70 then parts_of_shared else (
    if file == 71 then parts_of_statistics else (
    []))))))))))))))))))

unfoldable pub parts_of : ℕ → List Part
parts_of file =
    if file / 18 == 0 then parts_from_0 file else (
    if file / 18 == 1 then parts_from_18 file else (
    if file / 18 == 2 then parts_from_36 file else (
    if file / 18 == 3 then parts_from_54 file else (
    []))))

-- the part at an index; bytes if there is none
abbrev pub part_in : List Part → ℕ → Part
part_in parts index = unwrap_or (slice_get parts index) (One form.Hex)

unfoldable pub tc_tables : Table
tc_tables place = part_in (parts_of (place / 24)) (place % 24)
