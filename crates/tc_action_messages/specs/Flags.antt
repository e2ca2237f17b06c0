-- The abstract value of flags with a selector: two words.
use Rattle.std.specs.Prelude.{ℕ, List, [], ◌∷◌, ◌++◌}
use Rattle.std.specs.Ordering.{nat_cmp, ordering_then}
use Rattle.std.specs.declared.cmp.Ordering.{Ordering}
use Rattle.std.specs.Hash as fed
use Rattle.nla_frames.specs.Frame.{Frame}
use Rattle.nla_frames.specs.Codec.{Codec}
use Rattle.tc_meaning.specs.Tree.{Scalar, plain}
use Rattle.tc_meaning.specs.Content.{pair_codec}
use Rattle.tc_meaning.specs.Meaning.{short}
use Rattle.tc_records.specs.MessageFlags.{message_flags_word}
use Rattle.tc_action_messages.specs.declared.flags.TcActionMessageFlagsWithSelector.{TcActionMessageFlagsWithSelector}

-- the flags, and then the selector
abbrev pub flags_words : TcActionMessageFlagsWithSelector → List Scalar
flags_words f = plain (message_flags_word f.flags) ∷ plain (message_flags_word f.selector) ∷ []

-- read of a frame of any type, and written as one of type 2
abbrev pub flags_codec : Codec Frame (List Scalar)
flags_codec = record {
  read = λ kind f. pair_codec.read kind f.value;
  write = λ words. record { word = 2; value = pair_codec.write words };
  Typed = pair_codec.Typed;
  Fits = (short pair_codec).Fits;
  Settled = pair_codec.Settled;
}

-- by the flags, and if these are equal, by the selector
abbrev pub flags_cmp : TcActionMessageFlagsWithSelector → TcActionMessageFlagsWithSelector → Ordering
flags_cmp f g =
    ordering_then (nat_cmp (message_flags_word f.flags) (message_flags_word g.flags)) (nat_cmp (message_flags_word f.selector) (message_flags_word g.selector))

-- what a hasher is fed: both words
abbrev pub flags_fed : TcActionMessageFlagsWithSelector → List (List ℕ)
flags_fed f = fed.u32 (message_flags_word f.flags) ++ fed.u32 (message_flags_word f.selector)
