-- A test that the parts of each file pass is passed by the part at each place. Written by `kinds/generate`.
use Rattle.std.proofs.Common.{Bool, List, [], false, if◌then◌else◌, suc, true, zero, ℕ, ◌%◌, ◌/◌, ◌==◌, ◌≡◌, ◌∷◌}
use Rattle.std.proofs.lemmas.Bool.{and_parts}
use Rattle.std.specs.List.{list_all}
use Rattle.forms_values.specs.declared.form.Form.TheVariants as form
use Rattle.forms_values.specs.Tables.{One, Part}
use Rattle.forms_kinds.specs.Parts.{parts_of_action, parts_of_actions_bpf, parts_of_actions_connmark, parts_of_actions_csum, parts_of_actions_ct}
use Rattle.forms_kinds.specs.Parts.{parts_of_actions_ctinfo, parts_of_actions_gact, parts_of_actions_gate, parts_of_actions_ife}
use Rattle.forms_kinds.specs.Parts.{parts_of_actions_ipt, parts_of_actions_mirred, parts_of_actions_mpls, parts_of_actions_nat}
use Rattle.forms_kinds.specs.Parts.{parts_of_actions_pedit, parts_of_actions_police, parts_of_actions_sample, parts_of_actions_simple}
use Rattle.forms_kinds.specs.Parts.{parts_of_actions_skbedit, parts_of_actions_skbmod, parts_of_actions_tunnel_key, parts_of_actions_vlan}
use Rattle.forms_kinds.specs.Parts.{parts_of_elements, parts_of_ematch, parts_of_filters_basic, parts_of_filters_bpf, parts_of_filters_cgroup}
use Rattle.forms_kinds.specs.Parts.{parts_of_filters_flow, parts_of_filters_flower, parts_of_filters_fw, parts_of_filters_matchall}
use Rattle.forms_kinds.specs.Parts.{parts_of_filters_route, parts_of_filters_rsvp, parts_of_filters_tcindex, parts_of_filters_u32}
use Rattle.forms_kinds.specs.Parts.{parts_of_message, parts_of_qdiscs_atm, parts_of_qdiscs_cake, parts_of_qdiscs_cake_mq, parts_of_qdiscs_cbq}
use Rattle.forms_kinds.specs.Parts.{parts_of_qdiscs_cbs, parts_of_qdiscs_choke, parts_of_qdiscs_codel, parts_of_qdiscs_drr}
use Rattle.forms_kinds.specs.Parts.{parts_of_qdiscs_dsmark, parts_of_qdiscs_dualpi2, parts_of_qdiscs_etf, parts_of_qdiscs_ets}
use Rattle.forms_kinds.specs.Parts.{parts_of_qdiscs_fifo, parts_of_qdiscs_fq, parts_of_qdiscs_fq_codel, parts_of_qdiscs_fq_pie}
use Rattle.forms_kinds.specs.Parts.{parts_of_qdiscs_gred, parts_of_qdiscs_hfsc, parts_of_qdiscs_hhf, parts_of_qdiscs_htb, parts_of_qdiscs_ingress}
use Rattle.forms_kinds.specs.Parts.{parts_of_qdiscs_mqprio, parts_of_qdiscs_multiq, parts_of_qdiscs_netem, parts_of_qdiscs_none}
use Rattle.forms_kinds.specs.Parts.{parts_of_qdiscs_pie, parts_of_qdiscs_plug, parts_of_qdiscs_prio, parts_of_qdiscs_qfq, parts_of_qdiscs_red}
use Rattle.forms_kinds.specs.Parts.{parts_of_qdiscs_sfb, parts_of_qdiscs_sfq, parts_of_qdiscs_skbprio, parts_of_qdiscs_taprio}
use Rattle.forms_kinds.specs.Parts.{parts_of_qdiscs_tbf, parts_of_shared, parts_of_statistics}
use Rattle.forms_kinds.specs.Table.{parts_from_0, parts_from_18, parts_from_36, parts_from_54, parts_of, part_in, tc_tables}

-- a test of a part
module _ (Test : Part → Bool) where
  record AllPass (parts : List Part) : Type 0 where
    pub pass : list_all Test parts ≡ true

  all_pass : (parts : List Part) → list_all Test parts ≡ true → AllPass parts
  all_pass parts e = record { pass = e }

  in_branch : (b : Bool) {xs ys : List Part} → AllPass xs → AllPass ys → AllPass (if b then xs else ys)
  in_branch true p q = p
  in_branch false p q = q

  -- the part at an index passes, if all do and bytes, which are where no part is
  at_index : (parts : List Part) → list_all Test parts ≡ true → Test (One form.Hex) ≡ true → (i : ℕ) → Test (part_in parts i) ≡ true
  at_index [] all bytes i = bytes
  at_index (x ∷ xs) all bytes zero = (and_parts (Test x) (list_all Test xs) all).0
  at_index (x ∷ xs) all bytes (suc i) = at_index xs (and_parts (Test x) (list_all Test xs) all).1 bytes i

  -- the parts of each file pass, and what is at places without one
  pub record EachFile : Type 0 where
    pub bytes : Test (One form.Hex) ≡ true
    pub none : list_all Test [] ≡ true
    pub action : list_all Test parts_of_action ≡ true
    pub actions_bpf : list_all Test parts_of_actions_bpf ≡ true
    pub actions_connmark : list_all Test parts_of_actions_connmark ≡ true
    pub actions_csum : list_all Test parts_of_actions_csum ≡ true
    pub actions_ct : list_all Test parts_of_actions_ct ≡ true
    pub actions_ctinfo : list_all Test parts_of_actions_ctinfo ≡ true
    pub actions_gact : list_all Test parts_of_actions_gact ≡ true
    pub actions_gate : list_all Test parts_of_actions_gate ≡ true
    pub actions_ife : list_all Test parts_of_actions_ife ≡ true
    pub actions_ipt : list_all Test parts_of_actions_ipt ≡ true
    pub actions_mirred : list_all Test parts_of_actions_mirred ≡ true
    pub actions_mpls : list_all Test parts_of_actions_mpls ≡ true
    pub actions_nat : list_all Test parts_of_actions_nat ≡ true
    pub actions_pedit : list_all Test parts_of_actions_pedit ≡ true
    pub actions_police : list_all Test parts_of_actions_police ≡ true
    pub actions_sample : list_all Test parts_of_actions_sample ≡ true
    pub actions_simple : list_all Test parts_of_actions_simple ≡ true
    pub actions_skbedit : list_all Test parts_of_actions_skbedit ≡ true
    pub actions_skbmod : list_all Test parts_of_actions_skbmod ≡ true
    pub actions_tunnel_key : list_all Test parts_of_actions_tunnel_key ≡ true
    pub actions_vlan : list_all Test parts_of_actions_vlan ≡ true
    pub elements : list_all Test parts_of_elements ≡ true
    pub ematch : list_all Test parts_of_ematch ≡ true
    pub filters_basic : list_all Test parts_of_filters_basic ≡ true
    pub filters_bpf : list_all Test parts_of_filters_bpf ≡ true
    pub filters_cgroup : list_all Test parts_of_filters_cgroup ≡ true
    pub filters_flow : list_all Test parts_of_filters_flow ≡ true
    pub filters_flower : list_all Test parts_of_filters_flower ≡ true
    pub filters_fw : list_all Test parts_of_filters_fw ≡ true
    pub filters_matchall : list_all Test parts_of_filters_matchall ≡ true
    pub filters_route : list_all Test parts_of_filters_route ≡ true
    pub filters_rsvp : list_all Test parts_of_filters_rsvp ≡ true
    pub filters_tcindex : list_all Test parts_of_filters_tcindex ≡ true
    pub filters_u32 : list_all Test parts_of_filters_u32 ≡ true
    pub message : list_all Test parts_of_message ≡ true
    pub qdiscs_atm : list_all Test parts_of_qdiscs_atm ≡ true
    pub qdiscs_cake : list_all Test parts_of_qdiscs_cake ≡ true
    pub qdiscs_cake_mq : list_all Test parts_of_qdiscs_cake_mq ≡ true
    pub qdiscs_cbq : list_all Test parts_of_qdiscs_cbq ≡ true
    pub qdiscs_cbs : list_all Test parts_of_qdiscs_cbs ≡ true
    pub qdiscs_choke : list_all Test parts_of_qdiscs_choke ≡ true
    pub qdiscs_codel : list_all Test parts_of_qdiscs_codel ≡ true
    pub qdiscs_drr : list_all Test parts_of_qdiscs_drr ≡ true
    pub qdiscs_dsmark : list_all Test parts_of_qdiscs_dsmark ≡ true
    pub qdiscs_dualpi2 : list_all Test parts_of_qdiscs_dualpi2 ≡ true
    pub qdiscs_etf : list_all Test parts_of_qdiscs_etf ≡ true
    pub qdiscs_ets : list_all Test parts_of_qdiscs_ets ≡ true
    pub qdiscs_fifo : list_all Test parts_of_qdiscs_fifo ≡ true
    pub qdiscs_fq : list_all Test parts_of_qdiscs_fq ≡ true
    pub qdiscs_fq_codel : list_all Test parts_of_qdiscs_fq_codel ≡ true
    pub qdiscs_fq_pie : list_all Test parts_of_qdiscs_fq_pie ≡ true
    pub qdiscs_gred : list_all Test parts_of_qdiscs_gred ≡ true
    pub qdiscs_hfsc : list_all Test parts_of_qdiscs_hfsc ≡ true
    pub qdiscs_hhf : list_all Test parts_of_qdiscs_hhf ≡ true
    pub qdiscs_htb : list_all Test parts_of_qdiscs_htb ≡ true
    pub qdiscs_ingress : list_all Test parts_of_qdiscs_ingress ≡ true
    pub qdiscs_mqprio : list_all Test parts_of_qdiscs_mqprio ≡ true
    pub qdiscs_multiq : list_all Test parts_of_qdiscs_multiq ≡ true
    pub qdiscs_netem : list_all Test parts_of_qdiscs_netem ≡ true
    pub qdiscs_none : list_all Test parts_of_qdiscs_none ≡ true
    pub qdiscs_pie : list_all Test parts_of_qdiscs_pie ≡ true
    pub qdiscs_plug : list_all Test parts_of_qdiscs_plug ≡ true
    pub qdiscs_prio : list_all Test parts_of_qdiscs_prio ≡ true
    pub qdiscs_qfq : list_all Test parts_of_qdiscs_qfq ≡ true
    pub qdiscs_red : list_all Test parts_of_qdiscs_red ≡ true
    pub qdiscs_sfb : list_all Test parts_of_qdiscs_sfb ≡ true
    pub qdiscs_sfq : list_all Test parts_of_qdiscs_sfq ≡ true
    pub qdiscs_skbprio : list_all Test parts_of_qdiscs_skbprio ≡ true
    pub qdiscs_taprio : list_all Test parts_of_qdiscs_taprio ≡ true
    pub qdiscs_tbf : list_all Test parts_of_qdiscs_tbf ≡ true
    pub shared : list_all Test parts_of_shared ≡ true
    pub statistics : list_all Test parts_of_statistics ≡ true

  parts_from_0_pass : EachFile → (file : ℕ) → AllPass (parts_from_0 file)
  unfolding parts_from_0
  parts_from_0_pass each file =
      in_branch (file == 0) (all_pass parts_of_action each.action) (
      in_branch (file == 1) (all_pass parts_of_actions_bpf each.actions_bpf) (
      in_branch (file == 2) (all_pass parts_of_actions_connmark each.actions_connmark) (
      in_branch (file == 3) (all_pass parts_of_actions_csum each.actions_csum) (
      in_branch (file == 4) (all_pass parts_of_actions_ct each.actions_ct) (
      in_branch (file == 5) (all_pass parts_of_actions_ctinfo each.actions_ctinfo) (
      in_branch (file == 6) (all_pass parts_of_actions_gact each.actions_gact) (
      in_branch (file == 7) (all_pass parts_of_actions_gate each.actions_gate) (
      in_branch (file == 8) (all_pass parts_of_actions_ife each.actions_ife) (
      in_branch (file == 9) (all_pass parts_of_actions_ipt each.actions_ipt) (
      in_branch (file == 10) (all_pass parts_of_actions_mirred each.actions_mirred) (
      in_branch (file == 11) (all_pass parts_of_actions_mpls each.actions_mpls) (
      in_branch (file == 12) (all_pass parts_of_actions_nat each.actions_nat) (
      in_branch (file == 13) (all_pass parts_of_actions_pedit each.actions_pedit) (
      in_branch (file == 14) (all_pass parts_of_actions_police each.actions_police) (
      in_branch (file == 15) (all_pass parts_of_actions_sample each.actions_sample) (
      in_branch (file == 16) (all_pass parts_of_actions_simple each.actions_simple) (
      in_branch (file == 17) (all_pass parts_of_actions_skbedit each.actions_skbedit) (
      all_pass [] each.none))))))))))))))))))

  parts_from_18_pass : EachFile → (file : ℕ) → AllPass (parts_from_18 file)
  unfolding parts_from_18
  parts_from_18_pass each file =
      in_branch (file == 18) (all_pass parts_of_actions_skbmod each.actions_skbmod) (
      in_branch (file == 19) (all_pass parts_of_actions_tunnel_key each.actions_tunnel_key) (
      in_branch (file == 20) (all_pass parts_of_actions_vlan each.actions_vlan) (
      in_branch (file == 21) (all_pass parts_of_elements each.elements) (
      in_branch (file == 22) (all_pass parts_of_ematch each.ematch) (
      in_branch (file == 23) (all_pass parts_of_filters_basic each.filters_basic) (
      in_branch (file == 24) (all_pass parts_of_filters_bpf each.filters_bpf) (
      in_branch (file == 25) (all_pass parts_of_filters_cgroup each.filters_cgroup) (
      in_branch (file == 26) (all_pass parts_of_filters_flow each.filters_flow) (
      in_branch (file == 27) (all_pass parts_of_filters_flower each.filters_flower) (
      in_branch (file == 28) (all_pass parts_of_filters_fw each.filters_fw) (
      in_branch (file == 29) (all_pass parts_of_filters_matchall each.filters_matchall) (
      in_branch (file == 30) (all_pass parts_of_filters_route each.filters_route) (
      in_branch (file == 31) (all_pass parts_of_filters_rsvp each.filters_rsvp) (
      in_branch (file == 32) (all_pass parts_of_filters_tcindex each.filters_tcindex) (
      in_branch (file == 33) (all_pass parts_of_filters_u32 each.filters_u32) (
      in_branch (file == 34) (all_pass parts_of_message each.message) (
      in_branch (file == 35) (all_pass parts_of_qdiscs_atm each.qdiscs_atm) (
      all_pass [] each.none))))))))))))))))))

  parts_from_36_pass : EachFile → (file : ℕ) → AllPass (parts_from_36 file)
  unfolding parts_from_36
  parts_from_36_pass each file =
      in_branch (file == 36) (all_pass parts_of_qdiscs_cake each.qdiscs_cake) (
      in_branch (file == 37) (all_pass parts_of_qdiscs_cake_mq each.qdiscs_cake_mq) (
      in_branch (file == 38) (all_pass parts_of_qdiscs_cbq each.qdiscs_cbq) (
      in_branch (file == 39) (all_pass parts_of_qdiscs_cbs each.qdiscs_cbs) (
      in_branch (file == 40) (all_pass parts_of_qdiscs_choke each.qdiscs_choke) (
      in_branch (file == 41) (all_pass parts_of_qdiscs_codel each.qdiscs_codel) (
      in_branch (file == 42) (all_pass parts_of_qdiscs_drr each.qdiscs_drr) (
      in_branch (file == 43) (all_pass parts_of_qdiscs_dsmark each.qdiscs_dsmark) (
      in_branch (file == 44) (all_pass parts_of_qdiscs_dualpi2 each.qdiscs_dualpi2) (
      in_branch (file == 45) (all_pass parts_of_qdiscs_etf each.qdiscs_etf) (
      in_branch (file == 46) (all_pass parts_of_qdiscs_ets each.qdiscs_ets) (
      in_branch (file == 47) (all_pass parts_of_qdiscs_fifo each.qdiscs_fifo) (
      in_branch (file == 48) (all_pass parts_of_qdiscs_fq each.qdiscs_fq) (
      in_branch (file == 49) (all_pass parts_of_qdiscs_fq_codel each.qdiscs_fq_codel) (
      in_branch (file == 50) (all_pass parts_of_qdiscs_fq_pie each.qdiscs_fq_pie) (
      in_branch (file == 51) (all_pass parts_of_qdiscs_gred each.qdiscs_gred) (
      in_branch (file == 52) (all_pass parts_of_qdiscs_hfsc each.qdiscs_hfsc) (
      in_branch (file == 53) (all_pass parts_of_qdiscs_hhf each.qdiscs_hhf) (
      all_pass [] each.none))))))))))))))))))

  parts_from_54_pass : EachFile → (file : ℕ) → AllPass (parts_from_54 file)
  unfolding parts_from_54
  parts_from_54_pass each file =
      in_branch (file == 54) (all_pass parts_of_qdiscs_htb each.qdiscs_htb) (
      in_branch (file == 55) (all_pass parts_of_qdiscs_ingress each.qdiscs_ingress) (
      in_branch (file == 56) (all_pass parts_of_qdiscs_mqprio each.qdiscs_mqprio) (
      in_branch (file == 57) (all_pass parts_of_qdiscs_multiq each.qdiscs_multiq) (
      in_branch (file == 58) (all_pass parts_of_qdiscs_netem each.qdiscs_netem) (
      in_branch (file == 59) (all_pass parts_of_qdiscs_none each.qdiscs_none) (
      in_branch (file == 60) (all_pass parts_of_qdiscs_pie each.qdiscs_pie) (
      in_branch (file == 61) (all_pass parts_of_qdiscs_plug each.qdiscs_plug) (
      in_branch (file == 62) (all_pass parts_of_qdiscs_prio each.qdiscs_prio) (
      in_branch (file == 63) (all_pass parts_of_qdiscs_qfq each.qdiscs_qfq) (
      in_branch (file == 64) (all_pass parts_of_qdiscs_red each.qdiscs_red) (
      in_branch (file == 65) (all_pass parts_of_qdiscs_sfb each.qdiscs_sfb) (
      in_branch (file == 66) (all_pass parts_of_qdiscs_sfq each.qdiscs_sfq) (
      in_branch (file == 67) (all_pass parts_of_qdiscs_skbprio each.qdiscs_skbprio) (
      in_branch (file == 68) (all_pass parts_of_qdiscs_taprio each.qdiscs_taprio) (
      in_branch (file == 69) (all_pass parts_of_qdiscs_tbf each.qdiscs_tbf) (
      in_branch (file == 70) (all_pass parts_of_shared each.shared) (
      in_branch (file == 71) (all_pass parts_of_statistics each.statistics) (
      all_pass [] each.none))))))))))))))))))

  parts_of_pass : EachFile → (file : ℕ) → AllPass (parts_of file)
  unfolding parts_of
  parts_of_pass each file =
      in_branch (file / 18 == 0) (parts_from_0_pass each file) (
      in_branch (file / 18 == 1) (parts_from_18_pass each file) (
      in_branch (file / 18 == 2) (parts_from_36_pass each file) (
      in_branch (file / 18 == 3) (parts_from_54_pass each file) (
      all_pass [] each.none))))

  pub each_part : EachFile → (place : ℕ) → Test (tc_tables place) ≡ true
  unfolding tc_tables
  each_part each place = at_index (parts_of (place / 24)) (parts_of_pass each (place / 24)).pass each.bytes (place % 24)
