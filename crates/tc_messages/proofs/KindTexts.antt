-- The kind that a frame sets.
use Rattle.std.proofs.Common.{◌≡◌, ℕ, List, [], Bool, true, false, Option, Some, None, Ok, Err, cond, refl, sym, ◌==◌}
use Rattle.std.proofs.lemmas.Bool.Decides.{Decides-eqb}
use Rattle.nla_frames.specs.declared.error.DecodeError.TheVariants.{NotUtf8}
use Rattle.nla_frames.specs.declared.error.DecodeError.{DecodeError}
use Rattle.nla_frames.specs.Fault.{Outcome, Returns, read_as, refused, seen}
use Rattle.nla_frames.specs.Place.{kind_then}
use Rattle.nla_frames.specs.OnlyKind.{kind_after}
use Rattle.nla_frames.proofs.Outcomes.{Returns-exact}
use Rattle.tc_canon.specs.Kind.{is_kind_frame, kind_of_frame}
use Rattle.tc_canon.specs.Descriptor.{table}
use Rattle.tc_canon.specs.Tables.Messages.{attributes}
use Rattle.tc_meaning.specs.Tree.{known, is_bytes}
use Rattle.tc_meaning.specs.Meaning.{table_codec}
use Rattle.std.specs.Str.{is_utf8}
use Rattle.nla_frames.specs.Value.{strip, text}
use Rattle.nla_frames.specs.Frame.{Frame, type_of}
use Rattle.tc_meaning.specs.OwnGrammar.{first_look}

-- a frame that sets a kind is read as its text, or refused as its text is
pub text_read : (kind : List ℕ) (f : Frame) (o : Outcome (List ℕ)) → first_look [] f ≡ seen Some o
    → (table_codec (table attributes)).read kind f ≡ seen (λ t. known 1 (is_bytes t)) o
text_read kind f o is = go (type_of f.word == 1) ((Decides-eqb (type_of f.word) 1).0) is
  where
    of_text : (found o : Outcome (List ℕ)) → seen Some found ≡ seen Some o → seen (known 1) (seen is_bytes found) ≡ seen (λ t. known 1 (is_bytes t)) o
    of_text (Ok s) (Ok t) same = cc
    of_text (Ok s) (Err d) bad = absurd (cc bad)
    of_text (Err d) (Ok t) bad = absurd (cc bad)
    of_text (Err d) (Err e) same = cc

    of_none : (o : Outcome (List ℕ)) → ◌≡◌ {A = Outcome (Option (List ℕ))} (Ok None) (seen Some o) → ⊥
    of_none (Ok t) bad = cc bad
    of_none (Err d) bad = cc bad

    go : (b : Bool) → (b ≡ true → type_of f.word ≡ 1) → cond b (seen Some (text f.value)) (Ok None) ≡ seen Some o
        → (table_codec (table attributes)).read kind f ≡ seen (λ t. known 1 (is_bytes t)) o
    go true one same = rw (one refl) (of_text (text f.value) o same)
    go false one bad = absurd (of_none o bad)

-- if its text is refused, so is the attribute
pub not_read : (kind : List ℕ) (f : Frame) (e : DecodeError) → refused e ≡ first_look [] f
    → Returns (refused e) ((table_codec (table attributes)).read kind f)
not_read kind f e is = Returns-exact e _ (text_read kind f (Err e) (sym is))

-- the kind after it is the one that it sets
pub kind_set_then : (kind : List ℕ) (f : Frame) (set : Option (List ℕ)) → read_as set ≡ first_look [] f
    → kind_after kind set ≡ kind_then kind_of_frame kind f
kind_set_then kind f set is = go (is_kind_frame f) is
  where
    go : (b : Bool) → read_as set ≡ cond b (seen Some (text f.value)) (Ok None) → kind_after kind set ≡ kind_after kind (cond b (Some (strip f.value)) None)
    go true same = of_test (is_utf8 (strip f.value)) same
      where
        of_test : (b : Bool) → read_as set ≡ seen Some (cond b (Ok (strip f.value)) (Err NotUtf8))
            → kind_after kind set ≡ kind_after kind (Some (strip f.value))
        of_test true same = cc
        of_test false bad = absurd (cc bad)
    go false same = cc
