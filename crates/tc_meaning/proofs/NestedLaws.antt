-- The value of a nested list is read as the grammar of lists says.
use Rattle.std.proofs.Common.{◌≡◌, ◌↔◌, ℕ, Bool, true, false, cond, List, Ok, Err, refl, sym, ap, ◌∙◌, eq-eqb}
use Rattle.std.specs.Prelude.{MatchBool}
use Rattle.nla_frames.specs.declared.error.DecodeError.{DecodeError}
use Rattle.nla_frames.specs.Fault.{Outcome, seen, read_as, refused}
use Rattle.nla_frames.specs.Value.{IsBytes}
use Rattle.nla_frames.specs.Frame.{Frame, type_of}
use Rattle.nla_frames.specs.Reading.{keep}
use Rattle.nla_frames.proofs.ListGrammarLaws.{one_outcome}
use Rattle.tc_canon.specs.Descriptor.{Table, table, Rows, Kinds, is_known}
use Rattle.tc_meaning.specs.Tree.{Content, Attribute}
use Rattle.tc_meaning.specs.Meaning.{table_codec, a_list}
use Rattle.tc_meaning.specs.Nested.{Holds, IsListOutcome, ReadsNested, ReadsOwn, ReadsOptions}
use Rattle.tc_meaning.proofs.Outcomes.{seen-ok, ok-seen, err-same}
use Rattle.tc_meaning.proofs.OwnGrammarLaws.{one_own}

-- attributes that are read as the grammar says are the outcome, as the content that holds them
module _ (Reads : List Attribute → Type 0) (Fault : DecodeError → Type 0) (outcome : Outcome (List Attribute))
    (reading : (xs : List Attribute) → (outcome ≡ Ok xs) ↔ Reads xs) (fault : (e : DecodeError) → (outcome ≡ Err e) ↔ Fault e) where
  held : (content : Content) → seen a_list.into outcome ≡ Ok content → Holds Reads content
  held content e = let r = seen-ok a_list.into outcome content e in (r.0, sym r.2, (reading r.0).0 r.1)

  holds : (content : Content) → Holds Reads content → seen a_list.into outcome ≡ Ok content
  holds content h = ok-seen a_list.into outcome h.0 ((reading h.0).1 h.2) ∙ ap (λ (c : Content). read_as c) (sym h.1)

  gives : IsListOutcome Reads Fault (seen a_list.into outcome)
  gives = record {
    reading = λ content. (held content, holds content);
    fault = λ e. (λ h. (fault e).0 (was outcome e h), λ f. still outcome e ((fault e).1 f));
  }
    where
      was : (o : Outcome (List Attribute)) (e : DecodeError) → seen a_list.into o ≡ refused e → o ≡ refused e
      was (Ok xs) e h = absurd cc
      was (Err d) e h = ap (λ (x : DecodeError). refused x) (err-same Content d e h)

      still : (o : Outcome (List Attribute)) (e : DecodeError) → o ≡ refused e → seen a_list.into o ≡ refused e
      still o e h = rw h refl

-- a list of a table
pub nested : (t : Table) (kind bytes : List ℕ) → IsBytes bytes → ReadsNested t kind bytes
nested t kind bytes w = let one = one_outcome (table_codec t).read keep kind bytes w in gives _ _ _ one.reading one.fault

-- a list that sets its own kind
pub own : (rows : Rows) (kind bytes : List ℕ) → IsBytes bytes → ReadsOwn rows kind bytes
own rows kind bytes w = let one = one_own (table_codec (table rows)).read bytes w in gives _ _ _ one.reading one.fault

-- one of two, selected by a test
one_of : (b : Bool) (x y : Outcome Attribute) → MatchBool b (cond b x y ≡ x) (cond b x y ≡ y)
one_of true x y = refl
one_of false x y = refl

-- a message's options
pub chosen : (kinds : Kinds) (rows : Rows) (kind : List ℕ) (f : Frame) → ReadsOptions kinds rows kind f
chosen kinds rows kind f = rw (eq-eqb (type_of f.word) (type_of f.word) refl) (one_of (is_known kinds kind) _ _)
