-- The laws of rewriting of both messages.
use Rattle.std.proofs.Common.{◌≡◌, ◌+◌, ℕ, List, length, refl, subst, arith}
use Rattle.nla_frames.specs.Reading.{keep}
use Rattle.nla_frames.specs.Codec.{IsWireBytes}
use Rattle.tc_canon.specs.Descriptor.{table}
use Rattle.tc_canon.specs.Layouts.{tc_header, action_message_header}
use Rattle.tc_canon.specs.Tables.Messages.{attributes, action_message_attributes}
use Rattle.tc_canon.specs.Canonical.{CanonTc, CanonAct}
use Rattle.tc_meaning.specs.Own.{kind_of_frame, kind_of_attribute}
use Rattle.tc_meaning.specs.Message.{Message, message_codec}
use Rattle.tc_meaning.specs.Whole.{tc_words, ReadsTc, tc_bytes, FitsTc, action_words}
use Rattle.tc_laws.specs.Loose.{message_parts, is_loose_tc, is_loose_act, nuls, nuls_act}
use Rattle.tc_laws.specs.Norm.{next, norm_tc, norm_act}
use Rattle.tc_laws.specs.Rewriting.{Rewriting}
use Rattle.tc_meaning.proofs.TableLaws.{table_laws}
use Rattle.tc_meaning.proofs.MessageTheorems.{sound_attributes, sound_actions, attributes_read_kinds, tc_laws, act_laws, tc_correspond, action_correspond}
use Rattle.tc_laws.proofs.TrimLaws.{message_trims, whole-most}
use Rattle.tc_laws.proofs.NoWarnings.{tc_whole}
use Rattle.tc_laws.proofs.RewriteValues.{RewriteLaws}
use Rattle.tc_laws.proofs.RewriteTables.{same_kind}
use Rattle.tc_laws.proofs.RewriteMessages.{message_next, message_norm}
use Rattle.tc_laws.proofs.Settling.{rewriting, next-read, canonical-next}

-- ---- an action message

pub act_next : RewriteLaws IsWireBytes length (message_codec keep keep action_message_header action_message_attributes) (next action_message_attributes)
    (message_parts action_message_attributes)
act_next =
    message_next keep keep action_message_header action_message_attributes sound_actions (table_laws (table action_message_attributes) sound_actions)
    (λ kind f x w e. refl) (λ change x. refl)

pub action-rewriting : (bytes : List ℕ) → IsWireBytes bytes → Rewriting action_words is_loose_act norm_act (λ m. nuls_act m + 1) bytes
action-rewriting =
    rewriting keep keep action_message_header action_message_attributes CanonAct act_laws act_next (λ m. nuls_act m + 1) (λ m. omega arith)
    (λ bytes w m g. message_norm keep keep action_message_header action_message_attributes sound_actions
    (table_laws (table action_message_attributes) sound_actions) (λ kind f x w e. refl) (λ change x. refl) bytes m w
    (((action_correspond bytes w).reading m).1 g))

-- ---- a traffic control message

pub tc_next : RewriteLaws IsWireBytes length (message_codec kind_of_frame kind_of_attribute tc_header attributes) (next attributes) (message_parts attributes)
tc_next =
    message_next kind_of_frame kind_of_attribute tc_header attributes sound_attributes (table_laws (table attributes) sound_attributes)
    (λ kind f x w e. attributes_read_kinds.agree kind f x e) (λ change. same_kind change attributes refl)

-- no warning is in it
tc_nuls : (m : Message) → nuls attributes m ≡ 0
tc_nuls m = whole-most (message_parts attributes m) (tc_whole m)

pub tc-rewriting : (bytes : List ℕ) → IsWireBytes bytes → Rewriting tc_words is_loose_tc norm_tc (λ m. 1) bytes
tc-rewriting =
    rewriting kind_of_frame kind_of_attribute tc_header attributes CanonTc tc_laws tc_next (λ m. 1) (λ m. let none = tc_nuls m in omega (arith, none))
    (λ bytes w m g. message_norm kind_of_frame kind_of_attribute tc_header attributes sound_attributes (table_laws (table attributes) sound_attributes)
    (λ kind f x w e. attributes_read_kinds.agree kind f x e) (λ change. same_kind change attributes refl) bytes m w (((tc_correspond bytes w).reading m).1 g))

-- what is written of it is canonical, and reads as its norm
pub tc-written : (bytes : List ℕ) → IsWireBytes bytes → (m : Message) → ReadsTc bytes m → FitsTc m → CanonTc (tc_bytes m)
tc-written bytes w m g f = (canonical-next kind_of_frame kind_of_attribute tc_header attributes CanonTc tc_laws tc_next bytes w m g f).1 (tc_nuls m)

pub tc-written_norm : (bytes : List ℕ) → IsWireBytes bytes → (m : Message) → ReadsTc bytes m → FitsTc m → ReadsTc (tc_bytes m) (norm_tc m)
tc-written_norm bytes w m g f =
    subst (ReadsTc (tc_bytes m)) ((message_trims attributes).once m (tc_whole m))
    (next-read kind_of_frame kind_of_attribute tc_header attributes CanonTc tc_laws tc_next bytes w m g f)
