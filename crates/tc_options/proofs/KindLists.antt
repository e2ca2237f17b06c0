-- The options in a frame, read under a kind that is one of the six.
use Rattle.std.proofs.Common.{◌≡◌, ℕ, Bool, true, false, List, [], ◌∷◌, Ok, cond, ap, sym, subst}
use Rattle.std.specs.Str.{bytes_eq}
use Rattle.std.specs.Prelude.{MatchBool}
use Rattle.std.proofs.lemmas.Slice.Eq.{bytes_eq-Decides}
use Rattle.nla_frames.specs.declared.error.DecodeError.{DecodeError}
use Rattle.nla_frames.specs.Fault.{Outcome, Returns, read_as, refused, seen}
use Rattle.nla_frames.specs.Frame.{Frame}
use Rattle.nla_frames.specs.Value.{IsBytes}
use Rattle.nla_frames.specs.Reading.{keep, read_list}
use Rattle.nla_frames.specs.ListGrammar.{ListReads, IsListFault}
use Rattle.nla_frames.proofs.ListGrammarLaws.{ListReads-read_list, IsListFault-read_list}
use Rattle.tc_canon.specs.Descriptor.{is_known}
use Rattle.tc_canon.specs.Tables.Options.{option_kinds}
use Rattle.tc_meaning.specs.Tree.{Attribute, other}
use Rattle.tc_options.specs.Options.{read_option, read_options, ReadsOptions, OptionsFault}

-- under a kind that is this name
module _ (name : List ℕ) (k : List ℕ) (f : Frame) (is : bytes_eq k name ≡ true) where
  -- one option
  pub one_by_name : (r : Outcome Attribute) → Returns r (read_option name f) → Returns r (read_option k f)
  one_by_name r given = subst (λ j. Returns r (read_option j f)) (sym ((bytes_eq-Decides k name).0 is)) given

  -- the options, if the kind is known
  pub by_name : is_known option_kinds name ≡ true → (r : Outcome (List Attribute)) → Returns r (read_list read_option keep name f.value)
      → Returns r (read_options k f)
  by_name known r given =
      let same : k ≡ name = (bytes_eq-Decides k name).0 is in
      rw (same, known) given

-- under an unknown kind the frame is the one option
pub by_frame : (k : List ℕ) (f kept : Frame) → is_known option_kinds k ≡ false → read_as f ≡ read_as kept
    → read_options k f ≡ Ok (other kept.word kept.value ∷ [])
by_frame k f kept unknown same = rw unknown (ap (seen (λ (g : Frame). other g.word g.value ∷ [])) same)

-- the function computes the grammar's reading
module _ (k : List ℕ) (f : Frame) (are_bytes : IsBytes f.value) where
  pub options_found : (xs : List Attribute) → read_options k f ≡ read_as xs → ReadsOptions k f xs
  options_found xs = go (is_known option_kinds k)
    where
      go : (b : Bool) → cond b (read_list read_option keep k f.value) (Ok (other f.word f.value ∷ [])) ≡ read_as xs
          → MatchBool b (ListReads read_option keep k f.value xs) (xs ≡ other f.word f.value ∷ [])
      go true is = ListReads-read_list read_option keep k f.value xs are_bytes is
      go false is = cc is

  pub options_fault : (e : DecodeError) → read_options k f ≡ refused e → OptionsFault k f e
  options_fault e = go (is_known option_kinds k)
    where
      go : (b : Bool) → cond b (read_list read_option keep k f.value) (Ok (other f.word f.value ∷ [])) ≡ refused e
          → MatchBool b (IsListFault read_option keep k f.value e) ⊥
      go true is = IsListFault-read_list read_option keep k f.value e are_bytes is
      go false is = absurd (cc is)
