-- Exchanging neighbouring frames exchanges their readings.
use Rattle.std.proofs.Common.{◌≡◌, ◌↔◌, ℕ, zero, suc, ◌≤◌, List, [], ◌∷◌, ◌++◌, length, Option, Some, None, Ok, refl, sym, ap, ◌∙◌, arith}
use Rattle.nla_frames.specs.Fault.{Outcome, seen, read_as, ◌>>=◌}
use Rattle.nla_frames.specs.Value.{IsBytes}
use Rattle.nla_frames.specs.Frame.{Frame, type_of}
use Rattle.nla_frames.specs.Reading.{Reads, keep, read_list}
use Rattle.nla_frames.specs.ListGrammar.{ListReads}
use Rattle.nla_frames.proofs.ListGrammarLaws.{read_list-ListReads}
use Rattle.nla_frames.proofs.ReadEach.{ReadInTurn}
use Rattle.tc_meaning.specs.Tree.{items, Attribute, known, attributes_of}
use Rattle.tc_meaning.specs.Own.{kind_before, only_kind, read_own}
use Rattle.tc_meaning.specs.OwnGrammar.{first_look, kinds_found, OwnReads}
use Rattle.tc_meaning.specs.Meaning.{a_list}
use Rattle.tc_laws.specs.Order.{InFull, exchanged, Exchanges, read_action, read_action_attribute, ReadsAction}
use Rattle.tc_meaning.proofs.Outcomes.{seen-ok, then-ok}
use Rattle.tc_meaning.proofs.OwnLaws.{only_kind-ok}
use Rattle.tc_meaning.proofs.OwnGrammarLaws.{after_look, read_own-look, one_own}
use Rattle.tc_laws.proofs.FramesInFull.{InFull-append, ReadInTurn-ListReads, ListReads-ReadInTurn, ListReads-function}
use Rattle.tc_meaning.proofs.Trees.{attributes_again}

-- the two after the first n
pub exchanged-is : {X : Type 0} (l r : List X) (x y : X) → exchanged (length l) (l ++ x ∷ y ∷ r) ≡ l ++ y ∷ x ∷ r
exchanged-is [] r x y = refl
exchanged-is (z ∷ l) r x y = ap (λ (t : List _). z ∷ t) (exchanged-is l r x y)

-- ---- the kinds that are found

-- one text more is no fewer texts
fewer : (look : Option (List ℕ)) (kinds : List (List ℕ)) → length (kind_before look kinds) ≤ 1 → length kinds ≤ 1
fewer None kinds one = one
fewer (Some kind) kinds one = omega (arith, one)

-- of two looks one at most found a text
either_order : (a b : Option (List ℕ)) (kinds : List (List ℕ)) → length (kind_before a (kind_before b kinds)) ≤ 1
    → kind_before b (kind_before a kinds) ≡ kind_before a (kind_before b kinds)
either_order None b kinds one = refl
either_order (Some a) None kinds one = refl
either_order (Some a) (Some b) kinds one = absurd (omega (arith, one))

-- the one text is found in either order
kinds_found-exchanged : (n : ℕ) (looks : List (Option (List ℕ))) → length (kinds_found looks) ≤ 1 → kinds_found (exchanged n looks) ≡ kinds_found looks
kinds_found-exchanged zero [] one = refl
kinds_found-exchanged zero (a ∷ []) one = refl
kinds_found-exchanged zero (a ∷ b ∷ looks) one = either_order a b (kinds_found looks) one
kinds_found-exchanged (suc n) [] one = refl
kinds_found-exchanged (suc n) (a ∷ looks) one = ap (kind_before a) (kinds_found-exchanged n looks (fewer a (kinds_found looks) one))

-- ---- lists under one kind

module _ {X : Type 0} (reads : Reads X) (kind : List ℕ) where
  -- frames that are read in turn
  turn-exchanged : (fs : List Frame) (f g : Frame) (gs : List Frame) (xs : List X) → ReadInTurn reads keep kind (fs ++ f ∷ g ∷ gs) xs
      → ReadInTurn reads keep kind (fs ++ g ∷ f ∷ gs) (exchanged (length fs) xs)
  turn-exchanged [] f g gs [] turn = elim turn [ ]
  turn-exchanged [] f g gs (x ∷ []) turn = elim (turn.1) [ ]
  turn-exchanged [] f g gs (x ∷ y ∷ xs) turn = (turn.1.0, (turn.0, turn.1.1))
  turn-exchanged (h ∷ fs) f g gs [] turn = elim turn [ ]
  turn-exchanged (h ∷ fs) f g gs (x ∷ xs) turn = (turn.0, turn-exchanged fs f g gs xs turn.1)

-- frames in full, with two among them
InFull-two : (front one two back : List ℕ) (fs : List Frame) (f g : Frame) (gs : List Frame) → InFull front fs → InFull one (f ∷ []) → InFull two (g ∷ [])
    → InFull back gs
    → InFull (front ++ (one ++ (two ++ back))) (fs ++ f ∷ g ∷ gs)
InFull-two front one two back fs f g gs a b c d =
    InFull-append front (one ++ (two ++ back)) fs (f ∷ g ∷ gs) a
    (InFull-append one (two ++ back) (f ∷ []) (g ∷ gs) b (InFull-append two back (g ∷ []) gs c d))

-- a list whose kind stays
list-exchanges : {X : Type 0} (reads : Reads X) (kind : List ℕ) → Exchanges (ListReads reads keep kind)
list-exchanges reads kind front one two back fs f g gs a b c d xs is =
    let turn = ReadInTurn-ListReads reads keep kind (front ++ (one ++ (two ++ back))) (fs ++ f ∷ g ∷ gs)
    (InFull-two front one two back fs f g gs a b c d) xs is in
    ListReads-ReadInTurn reads keep kind (front ++ (two ++ (one ++ back))) (fs ++ g ∷ f ∷ gs) (InFull-two front two one back fs g f gs a c b d)
    (exchanged (length fs) xs)
    (turn-exchanged reads kind fs f g gs xs turn)

-- ---- lists under their own kind

-- a list that sets its own kind
pub own-exchanges : {X : Type 0} (reads : Reads X) → Exchanges (OwnReads reads)
own-exchanges reads front one two back fs f g gs a b c d xs is = record {
  looks = exchanged (length fs) is.looks;
  own = is.own;
  looked = list-exchanges first_look [] front one two back fs f g gs a b c d is.looks is.looked;
  one = kinds_found-exchanged (length fs) is.looks (rw (is.one) (omega arith)) ∙ is.one;
  each = list-exchanges reads is.own front one two back fs f g gs a b c d xs is.each;
}

-- what the function reads is in the grammar, and the other way round
OwnReads-InFull : {X : Type 0} (reads : Reads X) (bytes : List ℕ) (fs : List Frame) (xs : List X) → InFull bytes fs
    → (read_own reads bytes ≡ Ok xs) ↔ OwnReads reads bytes xs
OwnReads-InFull reads bytes fs xs full = (from, to)
  where
    only_one : (looks : List (Option (List ℕ))) (kinds : List (List ℕ)) (own : List ℕ) → kinds_found looks ≡ kinds → only_kind kinds ≡ Ok own
        → kinds_found looks ≡ own ∷ []
    only_one looks kinds own found one = found ∙ only_kind-ok kinds own one

    from : read_own reads bytes ≡ Ok xs → OwnReads reads bytes xs
    from e =
        let r = then-ok (seen kinds_found (read_list first_look keep [] bytes) >>= only_kind) (λ kind. read_list reads keep kind bytes) xs
        (sym (read_own-look reads bytes) ∙ e) in
        let q = then-ok (seen kinds_found (read_list first_look keep [] bytes)) only_kind r.0 r.1 in
        let p = seen-ok kinds_found (read_list first_look keep [] bytes) q.0 q.1 in
        record {
          looks = p.0;
          own = r.0;
          looked = ListReads-function first_look keep [] bytes fs full p.0 p.1;
          one = only_one p.0 q.0 r.0 p.2 q.2;
          each = ListReads-function reads keep r.0 bytes fs full xs r.2;
        }

    to : OwnReads reads bytes xs → read_own reads bytes ≡ Ok xs
    to is =
        read_own-look reads bytes
        ∙ ap (after_look reads bytes) (read_list-ListReads first_look keep [] bytes is.looks is.looked)
        ∙ ap (λ (kinds : List (List ℕ)). only_kind kinds >>= λ kind. read_list reads keep kind bytes) is.one
        ∙ read_list-ListReads reads keep is.own bytes xs is.each

-- ---- actions

-- a list that is seen as an attribute of a type
module _ (n : ℕ) (r : Outcome (List Attribute)) where
  -- it is all that is seen
  seen_list : (x : Attribute) → seen (known n) (seen a_list.into r) ≡ Ok x
      → (xs : List Attribute) × (x ≡ known n (items (attributes_of xs))) × (r ≡ Ok xs)
  seen_list x e =
      let p = seen-ok (known n) (seen a_list.into r) x e in
      let q = seen-ok a_list.into r p.0 p.1 in
      (q.0, sym p.2 ∙ ap (known n) (sym q.2), q.1)

  -- the list that was read is the list that is seen
  read_of_seen : (xs : List Attribute) → (seen (known n) (seen a_list.into r) ≡ Ok (known n (items (attributes_of xs)))) ↔ (r ≡ Ok xs)
  read_of_seen xs = (from, λ e. rw e refl)
    where
      list_in : Attribute → List Attribute
      list_in (known m content) = a_list.out content
      list_in x = []

      from : seen (known n) (seen a_list.into r) ≡ Ok (known n (items (attributes_of xs))) → r ≡ Ok xs
      from e =
          let s = seen_list (known n (items (attributes_of xs))) e in
          let same : s.0 ≡ xs = sym (attributes_again s.0) ∙ ap list_in (sym s.1) ∙ attributes_again xs in
          s.2 ∙ ap (λ (ys : List Attribute). read_as ys) same

-- an action's attributes are those of the grammar
pub action-grammar : (kind : List ℕ) (word : ℕ) (value : List ℕ) (xs : List Attribute) → IsBytes value
    → ReadsAction kind word value xs ↔ OwnReads read_action_attribute value xs
action-grammar kind word value xs w =
    let list = read_of_seen (type_of word) (read_own read_action_attribute value) xs in
    let own = (one_own read_action_attribute value w).reading xs in
    (λ is. own.0 (list.0 is), λ is. list.1 (own.1 is))

-- neighbours in an action
pub action-exchanges : (kind : List ℕ) (word : ℕ) → Exchanges (ReadsAction kind word)
action-exchanges kind word front one two back fs f g gs a b c d xs is =
    let read = read_own read_action_attribute in
    let before = OwnReads-InFull read_action_attribute (front ++ (one ++ (two ++ back))) (fs ++ f ∷ g ∷ gs) xs
    (InFull-two front one two back fs f g gs a b c d) in
    let after = OwnReads-InFull read_action_attribute (front ++ (two ++ (one ++ back))) (fs ++ g ∷ f ∷ gs) (exchanged (length fs) xs)
    (InFull-two front two one back fs g f gs a c b d) in
    let own = before.0 ((read_of_seen (type_of word) (read (front ++ (one ++ (two ++ back)))) xs).0 is) in
    (read_of_seen (type_of word) (read (front ++ (two ++ (one ++ back)))) (exchanged (length fs) xs)).1
    (after.1 (own-exchanges read_action_attribute front one two back fs f g gs a b c d xs own))
