-- Messages as version 1 reads them, and their upgrades, computed.
use Rattle.std.proofs.Common.{◌≡◌, [], ◌∷◌, Ok, refl}
use Rattle.std.specs.Prelude.{codes}
use Rattle.nla_frames.specs.Value.{strip}
use Rattle.nla_frames.specs.Cutting.{next_frame, cut_up_to, cut}
use Rattle.nla_frames.specs.Reading.{read_each, read_list}
use Rattle.tc_meaning.specs.Tree.{number, known, kept, other}
use Rattle.tc_meaning.specs.Message.{read_with}
use Rattle.tc_meaning.specs.Whole.{read_tc}
use Rattle.tc_laws.specs.FirstVersion.{read_tc1, lone_option, upgrade}
use Rattle.tc_meaning.proofs.KnownMessages.{hex, tc, tc_of, the_kind, a_list, one_option, utf8}

-- ---- the same bytes in both versions

options_before_any_kind_first : read_tc1 (tc_of (codes "0c0002000800020000280000")) ≡ Ok (tc (lone_option 2 (hex (codes "0800020000280000")) ∷ []))
unfolding strip next_frame cut_up_to cut read_each read_list read_tc1
options_before_any_kind_first = refl

options_before_any_kind_second : read_tc (tc_of (codes "0c0002000800020000280000")) ≡ Ok (tc (kept 2 2 (hex (codes "0800020000280000")) ∷ []))
unfolding strip next_frame cut_up_to cut read_each read_list read_with
options_before_any_kind_second = refl

options_of_an_unknown_kind_first : read_tc1 (tc_of (codes "08000100736671000800028001020304"))
    ≡ Ok (tc (the_kind (codes "sfq") ∷ lone_option 0x8002 (hex (codes "01020304")) ∷ []))
unfolding strip next_frame cut_up_to cut read_each read_list read_tc1
options_of_an_unknown_kind_first = rw (utf8 (codes "sfq") refl) refl

options_of_an_unknown_kind_second : read_tc (tc_of (codes "08000100736671000800028001020304"))
    ≡ Ok (tc (the_kind (codes "sfq") ∷ kept 2 0x8002 (hex (codes "01020304")) ∷ []))
unfolding strip next_frame cut_up_to cut read_each read_list read_with
options_of_an_unknown_kind_second = rw (utf8 (codes "sfq") refl) refl

fq_codel_limit_first : read_tc1 (tc_of (codes "0d00010066715f636f64656c000000000c0002000800020000280000"))
    ≡ Ok (tc (the_kind (codes "fq_codel") ∷ one_option (codes "fq_codel") 2 (number 10240) ∷ []))
unfolding strip next_frame cut_up_to cut read_each read_list read_tc1
fq_codel_limit_first = rw (utf8 (codes "fq_codel") refl) refl

fq_codel_limit_second : read_tc (tc_of (codes "0d00010066715f636f64656c000000000c0002000800020000280000"))
    ≡ Ok (tc (the_kind (codes "fq_codel") ∷ one_option (codes "fq_codel") 2 (number 10240) ∷ []))
unfolding strip next_frame cut_up_to cut read_each read_list read_with
fq_codel_limit_second = rw (utf8 (codes "fq_codel") refl) refl

-- ---- upgrades

one_option_before_any_kind : upgrade (tc (lone_option 2 (hex (codes "0800020000280000")) ∷ [])) ≡ tc (kept 2 2 (hex (codes "0800020000280000")) ∷ [])
one_option_before_any_kind = refl

one_option_with_flags : upgrade (tc (the_kind (codes "sfq") ∷ lone_option 0x8002 (hex (codes "01020304")) ∷ []))
    ≡ tc (the_kind (codes "sfq") ∷ kept 2 0x8002 (hex (codes "01020304")) ∷ [])
one_option_with_flags = refl

option_of_its_kind : upgrade (tc (the_kind (codes "fq_codel") ∷ one_option (codes "fq_codel") 2 (number 5) ∷ []))
    ≡ tc (the_kind (codes "fq_codel") ∷ one_option (codes "fq_codel") 2 (number 5) ∷ [])
option_of_its_kind = refl

one_option_under_a_known_kind : upgrade (tc (the_kind (codes "u32") ∷ lone_option 2 (1 ∷ []) ∷ [])) ≡ tc (the_kind (codes "u32") ∷ lone_option 2 (1 ∷ []) ∷ [])
one_option_under_a_known_kind = refl

known_kind_stays_in_force : upgrade (tc (the_kind (codes "u32") ∷ known 12 (number 1) ∷ lone_option 2 (1 ∷ []) ∷ []))
    ≡ tc (the_kind (codes "u32") ∷ known 12 (number 1) ∷ lone_option 2 (1 ∷ []) ∷ [])
known_kind_stays_in_force = refl

one_option_after_a_known_kind_is_gone : upgrade (tc (the_kind (codes "u32") ∷ the_kind (codes "sfq") ∷ lone_option 2 (1 ∷ []) ∷ []))
    ≡ tc (the_kind (codes "u32") ∷ the_kind (codes "sfq") ∷ kept 2 2 (1 ∷ []) ∷ [])
one_option_after_a_known_kind_is_gone = refl

no_options : upgrade (tc (a_list 2 [] ∷ [])) ≡ tc (a_list 2 [] ∷ [])
no_options = refl

option_of_another_type : upgrade (tc (lone_option 3 (1 ∷ []) ∷ [])) ≡ tc (lone_option 3 (1 ∷ []) ∷ [])
option_of_another_type = refl

two_options : upgrade (tc (a_list 2 (other 2 (1 ∷ []) ∷ other 2 (2 ∷ []) ∷ []) ∷ [])) ≡ tc (a_list 2 (other 2 (1 ∷ []) ∷ other 2 (2 ∷ []) ∷ []) ∷ [])
two_options = refl
