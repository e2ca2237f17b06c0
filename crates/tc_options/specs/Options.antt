-- The abstract values of a message's options.
use Rattle.std.specs.Prelude.{◌≡◌, ℕ, List, [], ◌∷◌, map, codes, Ok, if◌then◌else◌, MatchBool}
use Rattle.nla_frames.specs.declared.error.DecodeError.{DecodeError}
use Rattle.nla_frames.specs.Fault.{Outcome}
use Rattle.nla_frames.specs.Frame.{Frame}
use Rattle.nla_frames.specs.Reading.{Reads, read_list, keep}
use Rattle.nla_frames.specs.ListGrammar.{ListReads, IsListFault}
use Rattle.nla_frames.specs.DefaultNla.{kept_frame}
use Rattle.tc_canon.specs.Descriptor.{by_kind, is_known}
use Rattle.tc_canon.specs.Tables.Options.{option_kinds}
use Rattle.tc_meaning.specs.Tree.{Attribute, other, of_kind}
use Rattle.tc_meaning.specs.Meaning.{table_codec}
use Rattle.tc_flower.specs.Flower.{flower_option}
use Rattle.tc_options.specs.FqCodel.{fq_codel_option}
use Rattle.tc_options.specs.Ingress.{ingress_option}
use Rattle.tc_options.specs.U32.{u32_option}
use Rattle.tc_options.specs.MatchAll.{matchall_option}
use Rattle.tc_options.specs.Bpf.{bpf_option}
use Rattle.tc_options.specs.declared.options.VecTcOption.{VecTcOption}
use Rattle.tc_options.specs.declared.options.TcOption.{TcOption}
use Rattle.tc_options.specs.declared.options.TcOption.TheVariants.{FqCodel, Ingress, Flower, U32, MatchAll, Bpf, Other}

abbrev pub tc_option : {A : Type 0} → TcOption A → Attribute
tc_option (FqCodel option) = of_kind (codes "fq_codel") (fq_codel_option option)
tc_option (Ingress option) = of_kind (codes "ingress") (ingress_option option)
tc_option (Flower option) = of_kind (codes "flower") (flower_option option)
tc_option (U32 option) = of_kind (codes "u32") (u32_option option)
tc_option (MatchAll option) = of_kind (codes "matchall") (matchall_option option)
tc_option (Bpf option) = of_kind (codes "bpf") (bpf_option option)
tc_option (Other nla) = other (kept_frame nla).word (kept_frame nla).value

-- two options hold the same: equal options of one kind, or the same word and payload
abbrev pub SameOption : {A : Type 0} → TcOption A → TcOption A → Type 0
SameOption (FqCodel x) (FqCodel y) = fq_codel_option x ≡ fq_codel_option y
SameOption (Ingress x) (Ingress y) = ingress_option x ≡ ingress_option y
SameOption (Flower x) (Flower y) = flower_option x ≡ flower_option y
SameOption (U32 x) (U32 y) = u32_option x ≡ u32_option y
SameOption (MatchAll x) (MatchAll y) = matchall_option x ≡ matchall_option y
SameOption (Bpf x) (Bpf y) = bpf_option x ≡ bpf_option y
SameOption (Other x) (Other y) = kept_frame x ≡ kept_frame y
SameOption a b = ⊥

abbrev pub listed : {A : Type 0} → VecTcOption A → List Attribute
listed options = map tc_option options.0.items

-- one option under a kind
abbrev pub read_option : Reads Attribute
read_option = (table_codec (by_kind option_kinds)).read

-- the options of one frame: a list under a known kind, the frame itself under any other
abbrev pub read_options : List ℕ → Frame → Outcome (List Attribute)
read_options kind f = if is_known option_kinds kind then read_list read_option keep kind f.value else Ok (other f.word f.value ∷ [])

-- the value is frames, and each reads under the kind, if that is known; under any other the frame itself is the one option
abbrev pub ReadsOptions : List ℕ → Frame → List Attribute → Type 0
ReadsOptions kind f xs =
    MatchBool (is_known option_kinds kind) (ListReads read_option keep kind f.value xs) (xs ≡ other f.word f.value ∷ [])

-- the first fault of the list, a broken frame or one that is refused under the kind; under an unknown kind there is none
abbrev pub OptionsFault : List ℕ → Frame → DecodeError → Type 0
OptionsFault kind f e = MatchBool (is_known option_kinds kind) (IsListFault read_option keep kind f.value e) ⊥
