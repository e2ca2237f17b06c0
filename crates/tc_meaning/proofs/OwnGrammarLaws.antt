-- Reading a list of frames that set their own kind is the grammar.
use Rattle.std.proofs.Common.{◌≡◌, ◌↔◌, ℕ, Bool, true, false, List, [], ◌∷◌, Option, Some, None, Ok, Err, cond, refl, sym, ap, subst, ◌∙◌, inl, inr}
use Rattle.nla_frames.specs.declared.error.DecodeError.{DecodeError}
use Rattle.nla_frames.specs.declared.error.DecodeError.TheVariants.{MissingKind, DuplicateKind}
use Rattle.nla_frames.specs.Fault.{Outcome, seen, read_as, refused, ◌>>=◌}
use Rattle.nla_frames.specs.Value.{IsBytes, text}
use Rattle.nla_frames.specs.Frame.{Frame}
use Rattle.nla_frames.specs.Cutting.{cut, items_of}
use Rattle.nla_frames.specs.Reading.{Reads, keep, before, read_each, read_list}
use Rattle.nla_frames.specs.ListGrammar.{ListReads, HasOneOutcome}
use Rattle.nla_frames.proofs.ListGrammarLaws.{one_outcome}
use Rattle.tc_canon.specs.Kind.{is_kind_frame}
use Rattle.tc_meaning.specs.Own.{read_kinds, only_kind, read_own}
use Rattle.tc_meaning.specs.OwnGrammar.{first_look, kinds_found, OwnReads, KindFault, OwnFault, OneOwn}
use Rattle.tc_meaning.proofs.Outcomes.{err-same, ok-same}

-- one frame more of the first look
look-before : (b : Bool) (t : Outcome (List ℕ)) (kinds : Outcome (List (List ℕ))) (looks : Outcome (List (Option (List ℕ)))) → kinds ≡ seen kinds_found looks
    → cond b (t >>= λ kind. seen (λ ks. kind ∷ ks) kinds) kinds ≡ seen kinds_found (cond b (seen Some t) (read_as None) >>= λ x. before (x ∷ []) looks)
look-before true (Ok t) kinds (Ok looks) e = ap (seen (λ (ks : List (List ℕ)). t ∷ ks)) e
look-before true (Ok t) kinds (Err d) e = ap (seen (λ (ks : List (List ℕ)). t ∷ ks)) e
look-before true (Err d) kinds looks e = refl
look-before false t kinds (Ok looks) e = e
look-before false t kinds (Err d) e = e

-- the texts of frames of type 1 are what the first look finds
read_kinds-look : (items : List (Outcome Frame)) → read_kinds items ≡ seen kinds_found (read_each first_look keep [] items)
unfolding read_kinds read_each
read_kinds-look [] = refl
read_kinds-look (Err e ∷ items) = refl
read_kinds-look (Ok f ∷ items) = look-before (is_kind_frame f) (text f.value) (read_kinds items) (read_each first_look keep [] items) (read_kinds-look items)

module _ {X : Type 0} (reads : Reads X) (bytes : List ℕ) where
  -- what is read after the first look
  abbrev pub after_look : Outcome (List (Option (List ℕ))) → Outcome (List X)
  after_look looks = (seen kinds_found looks >>= only_kind) >>= λ kind. read_list reads keep kind bytes

  pub read_own-look : read_own reads bytes ≡ after_look (read_list first_look keep [] bytes)
  unfolding read_own read_list
  read_own-look = ap (λ (r : Outcome (List (List ℕ))). (r >>= only_kind) >>= λ kind. read_list reads keep kind bytes) (read_kinds-look (items_of (cut bytes)))

module _ {X : Type 0} (reads : Reads X) (bytes : List ℕ) (w : IsBytes bytes) where
  -- the grammar of the first look, and of the list under a kind
  look : HasOneOutcome first_look keep [] bytes (read_list first_look keep [] bytes)
  look = one_outcome first_look keep [] bytes w

  list : (own : List ℕ) → HasOneOutcome reads keep own bytes (read_list reads keep own bytes)
  list own = one_outcome reads keep own bytes w

  -- what is read under the kinds that were found
  under : List (List ℕ) → Outcome (List X)
  under kinds = only_kind kinds >>= λ kind. read_list reads keep kind bytes

  under-ok : (kinds : List (List ℕ)) (xs : List X) → under kinds ≡ Ok xs → (own : List ℕ) × (kinds ≡ own ∷ []) × ListReads reads keep own bytes xs
  unfolding under
  under-ok [] xs e = absurd cc
  under-ok (own ∷ []) xs e = (own, refl, ((list own).reading xs).0 e)
  under-ok (a ∷ b ∷ kinds) xs e = absurd cc

  under-err : (kinds : List (List ℕ)) (e : DecodeError) → (under kinds ≡ Err e) ↔ KindFault reads bytes kinds e
  unfolding under
  under-err [] e = (λ h. sym (err-same (List X) MissingKind e h), λ h. ap (λ (d : DecodeError). refused d) (sym h))
  under-err (own ∷ []) e = (list own).fault e
  under-err (a ∷ b ∷ kinds) e = (λ h. sym (err-same (List X) DuplicateKind e h), λ h. ap (λ (d : DecodeError). refused d) (sym h))

  -- reading gives exactly what the grammar says, where it is known what the first look gives
  reading-by : (looks : Outcome (List (Option (List ℕ)))) → read_list first_look keep [] bytes ≡ looks → (xs : List X)
      → (after_look reads bytes looks ≡ Ok xs) ↔ OwnReads reads bytes xs
  unfolding under
  reading-by (Ok looks) is xs = (from, to)
    where
      from : under (kinds_found looks) ≡ Ok xs → OwnReads reads bytes xs
      from e =
          let r = under-ok (kinds_found looks) xs e in
          record { looks = looks; own = r.0; looked = (look.reading looks).0 is; one = r.1; each = r.2 }

      to : OwnReads reads bytes xs → under (kinds_found looks) ≡ Ok xs
      to g =
          let same : read_as g.looks ≡ read_as looks = sym ((look.reading g.looks).1 g.looked) ∙ is in
          let found : kinds_found looks ≡ g.own ∷ [] = ap kinds_found (ok-same looks g.looks (sym same)) ∙ g.one in
          ap under found ∙ ((list g.own).reading xs).1 g.each
  reading-by (Err d) is xs = (λ e. absurd cc, λ g. let h : read_as g.looks ≡ refused d = sym ((look.reading g.looks).1 g.looked) ∙ is in absurd cc)

  fault-by : (looks : Outcome (List (Option (List ℕ)))) → read_list first_look keep [] bytes ≡ looks → (e : DecodeError)
      → (after_look reads bytes looks ≡ Err e) ↔ OwnFault reads bytes e
  unfolding under
  fault-by (Ok looks) is e = (from, to)
    where
      from : under (kinds_found looks) ≡ Err e → OwnFault reads bytes e
      from h = inr (looks, (look.reading looks).0 is, (under-err (kinds_found looks) e).0 h)

      to : OwnFault reads bytes e → under (kinds_found looks) ≡ Err e
      to (inl h) = let g : read_as looks ≡ refused e = sym is ∙ (look.fault e).1 h in absurd cc
      to (inr h) =
          let same : read_as h.0 ≡ read_as looks = sym ((look.reading h.0).1 h.1) ∙ is in
          ap under (ap kinds_found (ok-same looks h.0 (sym same))) ∙ (under-err (kinds_found h.0) e).1 h.2
  fault-by (Err d) is e = (from, to)
    where
      from : ◌≡◌ {A = Outcome (List X)} (refused d) (refused e) → OwnFault reads bytes e
      from h = inl ((look.fault e).0 (is ∙ ap (λ (c : DecodeError). refused c) (err-same (List X) d e h)))

      to : OwnFault reads bytes e → ◌≡◌ {A = Outcome (List X)} (refused d) (refused e)
      to (inl h) = ap (λ (c : DecodeError). refused c) (err-same (List (Option (List ℕ))) d e (sym is ∙ (look.fault e).1 h))
      to (inr h) = let g : read_as h.0 ≡ refused d = sym ((look.reading h.0).1 h.1) ∙ is in absurd cc

  pub one_own : OneOwn reads bytes (read_own reads bytes)
  one_own = record {
    reading = λ xs. subst (λ (o : Outcome (List X)). (o ≡ Ok xs) ↔ OwnReads reads bytes xs) (sym (read_own-look reads bytes))
        (reading-by (read_list first_look keep [] bytes) refl xs);
    fault = λ e. subst (λ (o : Outcome (List X)). (o ≡ Err e) ↔ OwnFault reads bytes e) (sym (read_own-look reads bytes))
        (fault-by (read_list first_look keep [] bytes) refl e);
  }
