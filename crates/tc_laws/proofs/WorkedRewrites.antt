-- Looseness, norms and rewrites of some messages, computed.
use Rattle.std.proofs.Common.{◌≡◌, ℕ, List, [], ◌∷◌, true, false, Ok, refl}
use Rattle.std.specs.Prelude.{codes}
use Rattle.nla_frames.specs.Value.{strip}
use Rattle.nla_frames.specs.Frame.{header, padded, frame_bytes}
use Rattle.nla_frames.specs.Cutting.{next_frame, cut_up_to, cut}
use Rattle.nla_frames.specs.Reading.{read_each, read_list}
use Rattle.nla_frames.specs.Emission.{list_bytes}
use Rattle.tc_canon.specs.Tables.Messages.{attributes}
use Rattle.tc_meaning.specs.Tree.{number, is_bytes, items, Attribute, known, kept, attributes_of}
use Rattle.tc_meaning.specs.Own.{read_kinds, read_own}
use Rattle.tc_meaning.specs.Message.{Message, read_with, message_bytes}
use Rattle.tc_meaning.specs.Whole.{read_act, act_bytes}
use Rattle.tc_laws.specs.Loose.{is_loose_tc, is_loose_act, nuls, nuls_act}
use Rattle.tc_laws.specs.Norm.{norm_tc, norm_act, next_act}
use Rattle.tc_meaning.proofs.KnownMessages.{hex, tc, act, act_of, the_kind, a_list, one_option, utf8}

-- ---- masked numbers

-- flower's `MplsBos`, of one bit
abbrev mpls_bos : ℕ → Message
mpls_bos x = tc (the_kind (codes "flower") ∷ one_option (codes "flower") 68 (number x) ∷ [])

three_is_loose : is_loose_tc (mpls_bos 3) ≡ true
three_is_loose = refl

one_is_not_loose : is_loose_tc (mpls_bos 1) ≡ false
one_is_not_loose = refl

three_becomes_one : norm_tc (mpls_bos 3) ≡ mpls_bos 1
three_becomes_one = refl

-- flower's `LseLabel`, of twenty bits, in the list of a list
abbrev lse_label : ℕ → Message
lse_label x = tc (the_kind (codes "flower") ∷ one_option (codes "flower") 99 (items (attributes_of (a_list 1 (known 5 (number x) ∷ []) ∷ []))) ∷ [])

a_deep_label_is_loose : is_loose_tc (lse_label 0x100001) ≡ true
a_deep_label_is_loose = refl

a_deep_label_is_masked : norm_tc (lse_label 0x100001) ≡ lse_label 1
a_deep_label_is_masked = refl

-- `LseBos` isn't masked
abbrev lse_bos : Message
lse_bos = tc (the_kind (codes "flower") ∷ one_option (codes "flower") 99 (items (attributes_of (a_list 1 (known 3 (number 255) ∷ []) ∷ []))) ∷ [])

lse_bos_is_not_loose : is_loose_tc lse_bos ≡ false
lse_bos_is_not_loose = refl

lse_bos_stays : norm_tc lse_bos ≡ lse_bos
lse_bos_stays = refl

-- options under an unknown kind are unchanged
options_before_any_kind_stay : norm_tc (tc (kept 2 2 (hex (codes "050044000f000000")) ∷ [])) ≡ tc (kept 2 2 (hex (codes "050044000f000000")) ∷ [])
options_before_any_kind_stay = refl

-- ---- warnings

abbrev warning_of : List ℕ → Attribute
warning_of text = known 5 (is_bytes text)

two_nuls_end_it : nuls_act (act (warning_of (hex (codes "610000")) ∷ [])) ≡ 2
two_nuls_end_it = refl

none_ends_it : nuls_act (act (warning_of (hex (codes "610062")) ∷ [])) ≡ 0
none_ends_it = refl

the_most_counts : nuls_act (act (warning_of (hex (codes "6100")) ∷ warning_of (hex (codes "000000")) ∷ warning_of (hex (codes "61")) ∷ [])) ≡ 3
the_most_counts = refl

a_nul_at_its_end_is_loose : is_loose_act (act (warning_of (hex (codes "6100")) ∷ [])) ≡ true
a_nul_at_its_end_is_loose = refl

a_nul_within_is_not : is_loose_act (act (warning_of (hex (codes "610062")) ∷ [])) ≡ false
a_nul_within_is_not = refl

all_nuls_go : norm_act (act (warning_of (hex (codes "6100620000")) ∷ warning_of (hex (codes "000000")) ∷ []))
    ≡ act (warning_of (hex (codes "610062")) ∷ warning_of [] ∷ [])
all_nuls_go = refl

-- in a traffic control message a text that ends in NUL is no warning
a_kind_is_no_warning : nuls attributes (tc (the_kind (hex (codes "6100")) ∷ [])) ≡ 0
a_kind_is_no_warning = refl

-- three NULs in the bytes: two are read, and after three rewrites none is left
three_nuls_read : read_act (act_of (codes "0800050061000000")) ≡ Ok (act (warning_of (hex (codes "610000")) ∷ []))
unfolding strip header padded frame_bytes next_frame cut_up_to cut read_each read_list list_bytes read_kinds read_own read_with message_bytes
three_nuls_read = rw (utf8 (hex (codes "610000")) refl) refl

first_rewrite : act_bytes (act (warning_of (hex (codes "610000")) ∷ [])) ≡ act_of (codes "0700050061000000")
unfolding strip header padded frame_bytes next_frame cut_up_to cut read_each read_list list_bytes read_kinds read_own read_with message_bytes
first_rewrite = refl

second_rewrite : act_bytes (next_act (act (warning_of (hex (codes "610000")) ∷ []))) ≡ act_of (codes "0600050061000000")
unfolding strip header padded frame_bytes next_frame cut_up_to cut read_each read_list list_bytes read_kinds read_own read_with message_bytes
second_rewrite = refl

third_rewrite : act_bytes (norm_act (act (warning_of (hex (codes "610000")) ∷ []))) ≡ act_of (codes "0500050061000000")
unfolding strip header padded frame_bytes next_frame cut_up_to cut read_each read_list list_bytes read_kinds read_own read_with message_bytes
third_rewrite = refl
