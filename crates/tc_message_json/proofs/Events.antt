-- Events are those of one JSON value.
use Rattle.std.proofs.Common.{◌≡◌, Bool, true, false, List, [], ◌∷◌, ◌++◌, refl, ap, sym, ◌∙◌, append_assoc, append-nil}
use Rattle.serde.specs.Event as event
use Rattle.serde.specs.Event.{Event}
use Rattle.serde_json.specs.Data.{Num, unsigned, negative, float, Data, null, boolean, number, string, array, object, Items, no_items, item, Members, no_members, member}
use Rattle.serde_json.specs.Events.{number_event}
use Rattle.forms_values.specs.Sent.{events, items_events, members_events}

one_number : (m n : Num) → number_event m ≡ number_event n → m ≡ n
one_number (unsigned a) (unsigned b) e = cc
one_number (negative a) (negative b) e = cc
one_number (float a) (float b) e = cc
one_number m n e = absurd (cc e)

tail : {T : Type 0} (x y : T) (xs ys : List T) → x ∷ xs ≡ y ∷ ys → xs ≡ ys
tail x y xs ys e = cc

head : {T : Type 0} (x y : T) (xs ys : List T) → x ∷ xs ≡ y ∷ ys → x ≡ y
head x y xs ys e = cc

-- a number is sent as one event, which no other JSON value has
abbrev is_number : Event → Bool
is_number (event.unsigned n) = true
is_number (event.signed z) = true
is_number (event.double x) = true
is_number e = false

sends_number : (n : Num) → is_number (number_event n) ≡ true
sends_number (unsigned n) = refl
sends_number (negative z) = refl
sends_number (float x) = refl

apart : (n : Num) (x : Event) (xs ys : List Event) → is_number x ≡ false → number_event n ∷ xs ≡ x ∷ ys → ⊥
apart n x xs ys not e = let same : number_event n ≡ x = head _ _ xs ys e in absurd (cc (sends_number n, not, same))

-- no JSON value begins with the end of a list
no_end : (d : Data) (xs ys : List Event) → events d ++ xs ≡ event.seq_ends ∷ ys → ⊥
no_end null xs ys e = absurd (cc e)
no_end (boolean b) xs ys e = absurd (cc e)
no_end (number n) xs ys e = apart n _ xs ys refl e
no_end (string s) xs ys e = absurd (cc e)
no_end (array ds) xs ys e = absurd (cc e)
no_end (object ms) xs ys e = absurd (cc e)

-- whatever comes after them
mutual
  one_data : (d c : Data) (xs ys : List Event) → events d ++ xs ≡ events c ++ ys → (d ≡ c) × (xs ≡ ys)
  one_data null null xs ys e = (refl, tail _ _ xs ys e)
  one_data (boolean a) (boolean b) xs ys e = let same : a ≡ b = cc in (ap boolean same, tail _ _ xs ys e)
  one_data (number m) (number n) xs ys e = (ap number (one_number m n (head _ _ xs ys e)), tail _ _ xs ys e)
  one_data (string s) (string t) xs ys e = let same : s ≡ t = cc in (ap string same, tail _ _ xs ys e)
  one_data (array ds) (array cs) xs ys e =
      let both = one_items ds cs xs ys
      (sym (append_assoc (items_events ds) (event.seq_ends ∷ []) xs) ∙ tail _ _ _ _ e ∙ append_assoc (items_events cs) (event.seq_ends ∷ []) ys) in
      (ap array both.0, both.1)
  one_data (object ms) (object ns) xs ys e =
      let both = one_members ms ns xs ys
      (sym (append_assoc (members_events ms) (event.map_ends ∷ []) xs) ∙ tail _ _ _ _ e ∙ append_assoc (members_events ns) (event.map_ends ∷ []) ys) in
      (ap object both.0, both.1)
  one_data (number n) null xs ys e = absurd (apart n _ xs ys refl e)
  one_data (number n) (boolean b) xs ys e = absurd (apart n _ xs ys refl e)
  one_data (number n) (string s) xs ys e = absurd (apart n _ xs ys refl e)
  one_data (number n) (array ds) xs ys e = absurd (apart n _ xs _ refl e)
  one_data (number n) (object ms) xs ys e = absurd (apart n _ xs _ refl e)
  one_data null (number n) xs ys e = absurd (apart n _ ys xs refl (sym e))
  one_data (boolean b) (number n) xs ys e = absurd (apart n _ ys xs refl (sym e))
  one_data (string s) (number n) xs ys e = absurd (apart n _ ys xs refl (sym e))
  one_data (array ds) (number n) xs ys e = absurd (apart n _ ys _ refl (sym e))
  one_data (object ms) (number n) xs ys e = absurd (apart n _ ys _ refl (sym e))
  one_data d c xs ys e = absurd (cc e)

  one_items : (ds cs : Items) (xs ys : List Event) → items_events ds ++ event.seq_ends ∷ xs ≡ items_events cs ++ event.seq_ends ∷ ys
      → (ds ≡ cs) × (xs ≡ ys)
  one_items no_items no_items xs ys e = (refl, tail _ _ xs ys e)
  one_items (item d ds) no_items xs ys e =
      absurd (no_end d _ ys (sym (append_assoc (events d) (items_events ds) (event.seq_ends ∷ xs)) ∙ e))
  one_items no_items (item c cs) xs ys e =
      absurd (no_end c _ xs (sym (append_assoc (events c) (items_events cs) (event.seq_ends ∷ ys)) ∙ sym e))
  one_items (item d ds) (item c cs) xs ys e =
      let first = one_data d c _ _
      (sym (append_assoc (events d) (items_events ds) (event.seq_ends ∷ xs)) ∙ e ∙ append_assoc (events c) (items_events cs) (event.seq_ends ∷ ys)) in
      let rest = one_items ds cs xs ys first.1 in
      (λ i. item (first.0 i) (rest.0 i), rest.1)

  one_members : (ms ns : Members) (xs ys : List Event) → members_events ms ++ event.map_ends ∷ xs ≡ members_events ns ++ event.map_ends ∷ ys
      → (ms ≡ ns) × (xs ≡ ys)
  one_members no_members no_members xs ys e = (refl, tail _ _ xs ys e)
  one_members (member k d ms) no_members xs ys e = absurd (cc e)
  one_members no_members (member l c ns) xs ys e = absurd (cc e)
  one_members (member k d ms) (member l c ns) xs ys e =
      let name : k ≡ l = cc in
      let first = one_data d c _ _
      (sym (append_assoc (events d) (members_events ms) (event.map_ends ∷ xs)) ∙ tail _ _ _ _ e
      ∙ append_assoc (events c) (members_events ns) (event.map_ends ∷ ys)) in
      let rest = one_members ms ns xs ys first.1 in
      (λ i. member (name i) (first.0 i) (rest.0 i), rest.1)

-- JSON with the same events is the same
pub one_json : (d c : Data) → events d ≡ events c → d ≡ c
one_json d c e = (one_data d c [] [] (append-nil (events d) ∙ e ∙ sym (append-nil (events c)))).0
