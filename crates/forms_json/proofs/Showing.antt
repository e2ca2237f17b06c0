-- The events of frames, elements and fields, in order.
use Rattle.std.proofs.Common.{◌≡◌, ℕ, zero, suc, ◌+◌, ◌-◌, ◌<◌, ◌≤◌, true, false, List, [], ◌∷◌, length, drop, take, Some, None, refl, subst, ◌∙◌, sym}
use Rattle.std.proofs.Common.{ap, append-nil, arith, get_or, Result}
use Rattle.std.specs.Prelude.{◌==◌, Bool, OnOk, unwrap_or}
use Rattle.std.proofs.lemmas.Bool.{eq-eqb, eqb-true, true≢false}
use Rattle.serde.specs.Event.{Log}
use Rattle.forms_values.specs.declared.form.Form.TheVariants as form
use Rattle.std.proofs.lemmas.List.{drop_all}
use Rattle.forms_attributes.specs.Attributes.{first_or_tail, frames, tail_shown}
use Rattle.forms_attributes.specs.Frames.{PaddedFrame, after_first, front}
use Rattle.forms_attributes.specs.Kinds.{kind_in}
use Rattle.forms_values.specs.Raw.{raw}
use Rattle.forms_values.specs.Records.{after_field, elements, field_member, field_of, members, rest_member}
use Rattle.forms_values.specs.Sent.{Sent, events, items_events, members_events}
use Rattle.forms_json.specs.Shown.{show, shown}
use Rattle.forms_values.specs.Tables.{Table, field_view, fields_view, no_table}
use Rattle.forms_values.specs.Values.{plain_shown}
use Rattle.forms_values.specs.Widths.{field_width}
use Rattle.forms_values.specs.declared.form.Form.{Form}
use Rattle.forms_values.specs.declared.form.Number.{Number}
use Rattle.forms_values.specs.Tables.{CodeField}
use Rattle.serde_json.specs.Data.{Data, Members}
use Rattle.forms_values.proofs.Sending.{sent_none, sent_then}

pub drop_here : {X : Type 0} (xs : List X) (i : ℕ) (d : X) → i < length xs → drop i xs ≡ get_or xs i d ∷ drop (i + 1) xs
drop_here [] i d lt = absurd (omega arith)
drop_here (y ∷ xs) zero d lt = refl
drop_here (y ∷ xs) (suc i) d lt =
    let next : suc (i + 1) ≡ suc i + 1 = omega arith in
    drop_here xs i d (omega (arith, lt)) ∙ ap (λ (n : ℕ). get_or xs i d ∷ drop n (y ∷ xs)) next

-- ---- frames

module _ (One : List ℕ → PaddedFrame → Data) (has : Bool) (len i : ℕ) (start_kind kind b left : List ℕ) (start mid new : Log)
    (before : (end : Log) → Sent (items_events (frames One has (len - i) kind left)) mid end
    → Sent (items_events (frames One has len start_kind b)) start end) where
  pub frames_more : (next after : List ℕ) (c : PaddedFrame) → i < len → Some c ≡ front left → after ≡ after_first left → next ≡ unwrap_or (kind_in has c) kind
      → Sent (events (One next c)) mid new
      → (end : Log) → Sent (items_events (frames One has (len - (i + 1)) next after)) new end → Sent (items_events (frames One has len start_kind b)) start end
  frames_more next after c lt found is_after is_next sent end later =
      let one_less : len - i ≡ suc (len - (i + 1)) = omega (arith, lt) in
      let k = unwrap_or (kind_in has c) kind in
      let following = subst (λ j. Sent (items_events (frames One has (len - (i + 1)) j (after_first left))) new end) is_next
      (subst (λ a. Sent (items_events (frames One has (len - (i + 1)) next a)) new end) is_after later) in
      let here = subst (λ j. Sent (events (One j c)) mid new) is_next sent in
      let both = sent_then (events (One k c)) (items_events (frames One has (len - (i + 1)) k (after_first left))) mid new end here following in
      before end (subst (λ n. Sent (items_events (frames One has n kind left)) mid end) (sym one_less)
      (subst (λ o. Sent (items_events (first_or_tail One has kind left (λ j. frames One has (len - (i + 1)) j (after_first left)) o)) mid end) found both))

  frames_none : (n : ℕ) → None ≡ front left → Sent (items_events (tail_shown left)) mid new → Sent (items_events (frames One has n kind left)) mid new
  frames_none zero none sent = sent
  frames_none (suc n) none sent =
      subst (λ o. Sent (items_events (first_or_tail One has kind left (λ j. frames One has n j (after_first left)) o)) mid new) none sent

  pub frames_end : None ≡ front left → Sent (items_events (tail_shown left)) mid new → Sent (items_events (frames One has len start_kind b)) start new
  frames_end none sent = before new (frames_none (len - i) none sent)

  pub frames_over : len ≤ i → Sent (items_events (tail_shown left)) mid new → Sent (items_events (frames One has len start_kind b)) start new
  frames_over over sent =
      let none : len - i ≡ 0 = omega (arith, over) in before new (subst (λ n. Sent (items_events (frames One has n kind left)) mid new) (sym none) sent)

-- ---- elements

module _ (table : Table) (Inner : Form → List ℕ → Data) (f : Form) (w len i : ℕ) (b left : List ℕ) (start mid new : Log)
    (before : (end : Log) → Sent (items_events (elements Inner (len - i) f w left)) mid end → Sent (items_events (elements Inner len f w b)) start end) where
  elements_step : (n : ℕ) (some : List ℕ) (end : Log) → (length some ≡ 0 → ⊥) → Sent (events (Inner f (take w some))) mid new
      → Sent (items_events (elements Inner n f w (drop w some))) new end → Sent (items_events (elements Inner (suc n) f w some)) mid end
  elements_step n [] end full sent later = absurd (full refl)
  elements_step n (x ∷ some) end full sent later =
      sent_then (events (Inner f (take w (x ∷ some)))) (items_events (elements Inner n f w (drop w (x ∷ some)))) mid new end sent later

  pub elements_more : (element after : List ℕ) → i < len → (length left ≡ 0 → ⊥) → element ≡ take w left → after ≡ drop w left
      → Sent (events (Inner f element)) mid new
      → (end : Log) → Sent (items_events (elements Inner (len - (i + 1)) f w after)) new end → Sent (items_events (elements Inner len f w b)) start end
  elements_more element after lt full is is_after sent end later =
      let one_less : len - i ≡ suc (len - (i + 1)) = omega (arith, lt) in
      before end (subst (λ n. Sent (items_events (elements Inner n f w left)) mid end) (sym one_less)
      (elements_step (len - (i + 1)) left end full (subst (λ e. Sent (events (Inner f e)) mid new) is sent)
      (subst (λ a. Sent (items_events (elements Inner (len - (i + 1)) f w a)) new end) is_after later)))

  nothing : (n : ℕ) (some : List ℕ) → length some ≡ 0 → Sent (items_events (elements Inner n f w some)) mid mid
  nothing n [] e = sent_none mid
  nothing n (x ∷ some) e = absurd (omega (arith, e))

  pub elements_end : length left ≡ 0 → Sent (items_events (elements Inner len f w b)) start mid
  elements_end e = before mid (nothing (len - i) left e)

  last : (some : List ℕ) → (length some ≡ 0 → ⊥) → Sent (events (Inner f some)) mid new → Sent (items_events (elements Inner zero f w some)) mid new
  last [] full sent = absurd (full refl)
  last (x ∷ some) full sent = subst (λ es. Sent es mid new) (sym (append-nil (events (Inner f (x ∷ some))))) sent

  pub elements_over : len ≤ i → (length left ≡ 0 → ⊥) → Sent (events (Inner f left)) mid new → Sent (items_events (elements Inner len f w b)) start new
  elements_over over full sent =
      let none : len - i ≡ 0 = omega (arith, over) in
      before new (subst (λ n. Sent (items_events (elements Inner n f w left)) mid new) (sym none) (last left full sent))

-- ---- fields

module _ (table : Table) (Inner : Form → List ℕ → Data) (fs : List CodeField) (i : ℕ) (b left : List ℕ) (start mid new : Log)
    (before : (end : Log) → Sent (members_events (members table Inner (fields_view (drop i fs)) left)) mid end
    → Sent (members_events (members table Inner (fields_view fs) b)) start end) where
  pub fields_more : (d : CodeField) (chunk after : List ℕ) → i < length fs → chunk ≡ field_of (field_width table (field_view (get_or fs i d))) left
      → after ≡ after_field (field_width table (field_view (get_or fs i d))) left
      → ((rest : Members) (end : Log) → Sent (members_events rest) new end
      → Sent (members_events (field_member table Inner (field_view (get_or fs i d)) chunk rest)) mid end)
      → (end : Log) → Sent (members_events (members table Inner (fields_view (drop (i + 1) fs)) after)) new end
      → Sent (members_events (members table Inner (fields_view fs) b)) start end
  fields_more d chunk after lt is_chunk is_after sent end later =
      let f = field_view (get_or fs i d) in
      let here : drop i fs ≡ get_or fs i d ∷ drop (i + 1) fs = drop_here fs i d lt in
      let w = field_width table f in
      let rest = members table Inner (fields_view (drop (i + 1) fs)) (after_field w left) in
      let later_here = subst (λ a. Sent (members_events (members table Inner (fields_view (drop (i + 1) fs)) a)) new end) is_after later in
      let one = subst (λ t. Sent (members_events (field_member table Inner f t rest)) mid end) is_chunk (sent rest end later_here) in
      before end (subst (λ gs. Sent (members_events (members table Inner (fields_view gs) left)) mid end) (sym here) one)

  pub fields_end : length fs ≤ i → Sent (members_events (rest_member left)) mid new → Sent (members_events (members table Inner (fields_view fs) b)) start new
  fields_end over sent =
      before new (subst (λ gs. Sent (members_events (members table Inner (fields_view gs) left)) mid new) (sym (drop_all i fs over)) sent)

-- ---- levels

-- the JSON of what is within has one level less
pub level_sent : {T E : Type 0} (table : Table) (n m : ℕ) (k : List ℕ) (f : Form) (b : List ℕ) (old new : Log) (r : Result T E) → (1 ≤ n) × (m ≡ n - 1)
    → OnOk r (Sent (events (shown table (show table m) k f b)) old new) → OnOk r (Sent (events (show table n k f b)) old new)
level_sent table zero m k f b old new r less h = absurd (omega (arith, less.0))
level_sent table (suc n) m k f b old new r less h =
    let e : m ≡ n = omega (arith, less.1) in subst (λ j. OnOk r (Sent (events (shown table (show table j) k f b)) old new)) e h

pub too_deep_sent : {T E : Type 0} (table : Table) (n : ℕ) (k : List ℕ) (f : Form) (b : List ℕ) (old new : Log) (r : Result T E) → (1 ≤ n → ⊥)
    → OnOk r (Sent (events (raw b)) old new) → OnOk r (Sent (events (show table n k f b)) old new)
too_deep_sent table zero k f b old new r none h = h
too_deep_sent table (suc n) k f b old new r none h = absurd (none (omega arith))

pub shape_sent : {T E : Type 0} (table : Table) (Inner : List ℕ → Form → List ℕ → Data) (k : List ℕ) (f shape : Form) (b : List ℕ) (d : Data)
    (old new : Log) (r : Result T E) → f ≡ shape → shown table Inner k shape b ≡ d → OnOk r (Sent (events d) old new)
    → OnOk r (Sent (events (shown table Inner k f b)) old new)
shape_sent table Inner k f shape b d old new r same is h =
    subst (λ x. OnOk r (Sent (events x) old new)) (sym (ap (λ g. shown table Inner k g b) same ∙ is)) h

pub number_sent : {T E : Type 0} (table : Table) (n : ℕ) (k : List ℕ) (f : Form) (number : Number) (b : List ℕ) (old new : Log) (r : Result T E) → 0 < n
    → f ≡ form.Number number → OnOk r (Sent (events (plain_shown no_table (form.Number number) b)) old new)
    → OnOk r (Sent (events (show table n k f b)) old new)
number_sent table zero k f number b old new r some same h = absurd (omega (arith, some))
number_sent table (suc n) k f number b old new r some same h =
    subst (λ g. OnOk r (Sent (events (show table (suc n) k g b)) old new)) (sym same) h

pub empty_is : (b : List ℕ) → true ≡ (length b == 0) → length b ≡ 0
empty_is b e = eqb-true (length b) 0 (sym e)

pub full_is : (b : List ℕ) → false ≡ (length b == 0) → length b ≡ 0 → ⊥
full_is b e none = true≢false (sym (eq-eqb (length b) 0 none) ∙ sym e)

-- a form that contains no other
pub plain_when : (table : Table) (Inner : List ℕ → Form → List ℕ → Data) (k : List ℕ) (f : Form) (b : List ℕ) → ((i : ℕ) → f ≡ form.Record i → ⊥)
    → ((i : ℕ) → f ≡ form.Array i → ⊥)
    → ((n i : ℕ) → f ≡ form.Times n i → ⊥) → ((i : ℕ) → f ≡ form.List i → ⊥) → ((i : ℕ) → f ≡ form.InForce i → ⊥) → ((i : ℕ) → f ≡ form.Own i → ⊥)
    → ((i : ℕ) → f ≡ form.Indexed i → ⊥) → ((i : ℕ) → f ≡ form.Choice i → ⊥) → shown table Inner k f b ≡ plain_shown table f b
plain_when table Inner k (form.Record i) b r a t l m o x c = absurd (r i refl)
plain_when table Inner k (form.Array i) b r a t l m o x c = absurd (a i refl)
plain_when table Inner k (form.Times n i) b r a t l m o x c = absurd (t n i refl)
plain_when table Inner k (form.List i) b r a t l m o x c = absurd (l i refl)
plain_when table Inner k (form.InForce i) b r a t l m o x c = absurd (m i refl)
plain_when table Inner k (form.Own i) b r a t l m o x c = absurd (o i refl)
plain_when table Inner k (form.Indexed i) b r a t l m o x c = absurd (x i refl)
plain_when table Inner k (form.Choice i) b r a t l m o x c = absurd (c i refl)
plain_when table Inner k f b r a t l m o x c = refl
