-- The abstract value of an option of bpf.
use Rattle.std.specs.Prelude.{◌≡◌, string_bytes}
use Rattle.nla_frames.specs.DefaultNla.{kept_frame}
use Rattle.tc_meaning.specs.Tree.{Attribute, known, other, number, is_bytes}
use Rattle.tc_records.specs.Header.{handle_number}
use Rattle.tc_records.specs.FilterFlags.{bpf_flags_word, option_flags_word}
use Rattle.tc_options.specs.declared.filters.bpf.TcFilterBpfOption.{TcFilterBpfOption}
use Rattle.tc_options.specs.declared.filters.bpf.TcFilterBpfOption.TheVariants.{ClassId, ProgFd, ProgName, Flags, FlagsGeneric, ProgTag, ProgId, Other}

abbrev pub bpf_option : {A : Type 0} → TcFilterBpfOption A → Attribute
bpf_option (ClassId handle) = known 3 (number (handle_number handle))
bpf_option (ProgFd n) = known 6 (number n)
bpf_option (ProgName name) = known 7 (is_bytes (string_bytes name))
bpf_option (Flags flags) = known 8 (number (bpf_flags_word flags))
bpf_option (FlagsGeneric flags) = known 9 (number (option_flags_word flags))
bpf_option (ProgTag tag) = known 10 (is_bytes tag)
bpf_option (ProgId n) = known 11 (number n)
bpf_option (Other nla) = other (kept_frame nla).word (kept_frame nla).value

-- two options hold the same: the same handle's number, the same text; one that is kept raw the same word and payload;
-- all others are equal
abbrev pub SameBpf : {A : Type 0} → TcFilterBpfOption A → TcFilterBpfOption A → Type 0
SameBpf (ClassId h) (ClassId k) = handle_number h ≡ handle_number k
SameBpf (ProgName s) (ProgName t) = string_bytes s ≡ string_bytes t
SameBpf (Other x) (Other y) = kept_frame x ≡ kept_frame y
SameBpf a b = a ≡ b
