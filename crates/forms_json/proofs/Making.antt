-- The bytes left to append for items, fields and attributes.
use Rattle.std.proofs.Common.{◌≡◌, ℕ, zero, suc, ◌+◌, ◌-◌, ◌<◌, ◌≤◌, List, [], ◌++◌, length, get_or, drop, Option, Some, None, Result, Ok, Err, refl}
use Rattle.std.proofs.Common.{subst, sym, ap, ◌∙◌, append-nil, append_assoc, arith}
use Rattle.std.specs.Prelude.{option_map, unwrap_or, option_and_then, Bool, codes, false}
use Rattle.serde_json.specs.Find.{get}
use Rattle.forms_attributes.specs.AttributesMade.{each_under, listed_made}
use Rattle.forms_values.specs.Tables.{Row, Table, field_view, fields_view}
use Rattle.std.proofs.lemmas.List.{drop_all}
use Rattle.forms_values.proofs.Search.{none_not_some, some_is}
use Rattle.forms_values.proofs.Appending.{appended_as}
use Rattle.forms_json.proofs.Showing.{drop_here}
use Rattle.forms_values.specs.Appended.{Appended, Stops}
use Rattle.forms_attributes.specs.Kinds.{kind_named, own_kind_named}
use Rattle.forms_json.specs.Made.{in_form, make}
use Rattle.forms_values.specs.Raw.{or_raw, raw_of}
use Rattle.forms_values.specs.Records.{each_made, field_made, fields_made, joined, rest_made}
use Rattle.forms_values.specs.Values.{plain_made}
use Rattle.serde_json.specs.Data.{Data, Items}
use Rattle.serde_json.specs.View.{view, items_view}
use Rattle.serde_json.specs.declared.value.Value.{Value}
use Rattle.forms_values.specs.declared.maker.Stop.{Stop}
use Rattle.forms_values.specs.declared.form.Form.{Form}
use Rattle.forms_values.specs.Tables.{CodeField}
use Rattle.forms_values.specs.declared.form.Form.TheVariants as form

-- ---- what is left to append

-- x is left to append to what is there now, of all that was to be appended to what was there at the start
abbrev pub Left : Option (List ℕ) → Option (List ℕ) → List ℕ → List ℕ → Type 0
Left x all start now = option_map (λ b. now ++ b) x ≡ option_map (λ b. start ++ b) all

left_as : (x y all : Option (List ℕ)) (start now : List ℕ) → x ≡ y → Left x all start now → Left y all start now
left_as x y all start now e left = ap (option_map (λ b. now ++ b)) (sym e) ∙ left

-- one part more
joined_more : (w rest all : Option (List ℕ)) (start now new : List ℕ) → Left (joined w rest) all start now → option_map (λ b. now ++ b) w ≡ Some new
    → Left rest all start new
joined_more None rest all start now new left done = absurd (none_not_some new done)
joined_more (Some a) None all start now new left done = left
joined_more (Some a) (Some b) all start now new left done =
    ap (λ m. Some (m ++ b)) (sym (some_is (now ++ a) new done)) ∙ ap Some (append_assoc now a b) ∙ left

none_of : (all : Option (List ℕ)) (start : List ℕ) → None ≡ option_map (λ b. start ++ b) all → all ≡ None
none_of None start e = refl
none_of (Some a) start e = absurd (none_not_some (start ++ a) e)

-- a part that fails
joined_fails : (w rest all : Option (List ℕ)) (start now : List ℕ) (e : Stop) → Left (joined w rest) all start now → Stops w e → Stops all e
joined_fails w rest all start now e left fails not =
    none_of all start (ap (λ x. option_map (λ b. now ++ b) (joined x rest)) (sym (fails not)) ∙ left)

-- the last part
last_left : {T : Type 0} (x all : Option (List ℕ)) (start now new : List ℕ) (r : Result T Stop) → Left x all start now → Appended x now new r
    → Appended all start new r
last_left x all start now new (Ok u) left h = sym left ∙ h
last_left x all start now new (Err e) left h = λ not. none_of all start (ap (option_map (λ b. now ++ b)) (sym (h not)) ∙ left)

-- items of one form
module _ (One : Data → Option (List ℕ)) (vs : List Value) (i : ℕ) (start now : List ℕ)
    (left : Left (each_made One (items_view (drop i vs))) (each_made One (items_view vs)) start now) where
  pub items_end : (o : Option Items) → Some (items_view vs) ≡ o → length vs ≤ i → option_map (λ b. start ++ b) (option_and_then (each_made One) o) ≡ Some now
  items_end o is over =
      ap (λ x. option_map (λ b. start ++ b) (option_and_then (each_made One) x)) (sym is)
      ∙ sym (left_as _ (Some []) _ start now (ap (λ ws. each_made One (items_view ws)) (drop_all i vs over)) left) ∙ ap Some (append-nil now)

  module _ (x : Value) (lt : i < length vs) (is : x ≡ get_or vs i x) where
    item_here : Left (joined (One (view x)) (each_made One (items_view (drop (i + 1) vs)))) (each_made One (items_view vs)) start now
    item_here =
        left_as _ _ _ start now
        (ap (λ ws. each_made One (items_view ws)) (drop_here vs i x lt)
        ∙ ap (λ (y : Value). joined (One (view y)) (each_made One (items_view (drop (i + 1) vs)))) (sym is)) left

    pub items_more : (new : List ℕ) → option_map (λ b. now ++ b) (One (view x)) ≡ Some new
        → Left (each_made One (items_view (drop (i + 1) vs))) (each_made One (items_view vs)) start new
    items_more new done = joined_more (One (view x)) _ _ start now new item_here done

    pub items_fail : (o : Option Items) (e : Stop) → Some (items_view vs) ≡ o → Stops (One (view x)) e → Stops (option_and_then (each_made One) o) e
    items_fail o e listed fails =
        subst (λ z. Stops (option_and_then (each_made One) z) e) listed (joined_fails (One (view x)) _ _ start now e item_here fails)

-- fields
module _ (table : Table) (Made : Form → Data → Option (List ℕ)) (fs : List CodeField) (i : ℕ) (d : Data) (start now : List ℕ)
    (left : Left (fields_made table Made (fields_view (drop i fs)) d) (fields_made table Made (fields_view fs) d) start now) where
  pub fields_end : {T : Type 0} (new : List ℕ) (r : Result T Stop) → length fs ≤ i → Appended (rest_made (get (codes "rest") d)) now new r
      → Appended (fields_made table Made (fields_view fs) d) start new r
  fields_end new r over h =
      last_left (rest_made (get (codes "rest") d)) _ start now new r
      (left_as _ _ _ start now (ap (λ gs. fields_made table Made (fields_view gs) d) (drop_all i fs over)) left) h

  module _ (q : CodeField) (lt : i < length fs) where
    field_here : Left (joined (field_made table Made (field_view (get_or fs i q)) (get (get_or fs i q).name.now d))
        (fields_made table Made (fields_view (drop (i + 1) fs)) d)) (fields_made table Made (fields_view fs) d) start now
    field_here = left_as _ _ _ start now (ap (λ gs. fields_made table Made (fields_view gs) d) (drop_here fs i q lt)) left

    pub fields_more : (new : List ℕ)
        → option_map (λ b. now ++ b) (field_made table Made (field_view (get_or fs i q)) (get (get_or fs i q).name.now d)) ≡ Some new
        → Left (fields_made table Made (fields_view (drop (i + 1) fs)) d) (fields_made table Made (fields_view fs) d) start new
    fields_more new done =
        joined_more (field_made table Made (field_view (get_or fs i q)) (get (get_or fs i q).name.now d)) _ _ start now new field_here done

    pub fields_fail : (e : Stop) → Stops (field_made table Made (field_view (get_or fs i q)) (get (get_or fs i q).name.now d)) e
        → Stops (fields_made table Made (fields_view fs) d) e
    fields_fail e fails =
        joined_fails (field_made table Made (field_view (get_or fs i q)) (get (get_or fs i q).name.now d)) _ _ start now e field_here fails

-- attributes, whose rows depend on the kind so far
module _ (Listed : List Row → List ℕ → Data → Option (List ℕ)) (Rows : List ℕ → List Row) (has : Bool) (vs : List Value) (i : ℕ) (first k start now : List ℕ)
    (left : Left (each_under (λ j d. Listed (Rows j) j d) has k (items_view (drop i vs))) (each_under (λ j d. Listed (Rows j) j d) has first (items_view vs))
    start now) where
  pub listed_end : (o : Option Items) → Some (items_view vs) ≡ o → length vs ≤ i
      → option_map (λ b. start ++ b) (option_and_then (each_under (λ j d. Listed (Rows j) j d) has first) o) ≡ Some now
  listed_end o is over =
      ap (λ x. option_map (λ b. start ++ b) (option_and_then (each_under (λ j d. Listed (Rows j) j d) has first) x)) (sym is)
      ∙ sym (left_as _ (Some []) _ start now (ap (λ ws. each_under (λ j d. Listed (Rows j) j d) has k (items_view ws)) (drop_all i vs over)) left)
      ∙ ap Some (append-nil now)

  module _ (x : Value) (set : Option (List ℕ)) (next : List ℕ) (rows : List Row) (lt : i < length vs) (is : x ≡ get_or vs i x)
      (is_set : set ≡ kind_named has (view x)) (is_next : next ≡ unwrap_or set k) (is_rows : rows ≡ Rows (unwrap_or set k)) where
    same_rows : rows ≡ Rows next
    same_rows = is_rows ∙ ap Rows (sym is_next)

    one_here : Left (joined (or_raw (raw_of (view x)) (Listed rows next (view x))) (each_under (λ j d. Listed (Rows j) j d) has next
        (items_view (drop (i + 1) vs)))) (each_under (λ j d. Listed (Rows j) j d) has first (items_view vs)) start now
    one_here =
        let Here : List Row → List ℕ → Data → Option (List ℕ) = λ rs j d.
        joined (or_raw (raw_of d) (Listed rs j d)) (each_under (λ l e. Listed (Rows l) l e) has j (items_view (drop (i + 1) vs))) in
        left_as _ _ _ start now
        (ap (λ ws. each_under (λ j d. Listed (Rows j) j d) has k (items_view ws)) (drop_here vs i x lt)
        ∙ ap (λ (y : Value). Here (Rows (unwrap_or (kind_named has (view y)) k)) (unwrap_or (kind_named has (view y)) k) (view y)) (sym is)
        ∙ ap (λ j. Here (Rows j) j (view x)) (sym (is_next ∙ ap (λ o. unwrap_or o k) is_set)) ∙ ap (λ rs. Here rs next (view x)) (sym same_rows)) left

    pub listed_more : (new : List ℕ) → option_map (λ b. now ++ b) (or_raw (raw_of (view x)) (Listed rows next (view x))) ≡ Some new
        → (rows ≡ Rows next) × Left (each_under (λ j d. Listed (Rows j) j d) has next (items_view (drop (i + 1) vs)))
        (each_under (λ j d. Listed (Rows j) j d) has first (items_view vs)) start new
    listed_more new done = (same_rows, joined_more (or_raw (raw_of (view x)) (Listed rows next (view x))) _ _ start now new one_here done)

    pub listed_fails : (o : Option Items) (e : Stop) → Some (items_view vs) ≡ o → Stops (or_raw (raw_of (view x)) (Listed rows next (view x))) e
        → Stops (option_and_then (each_under (λ j d. Listed (Rows j) j d) has first) o) e
    listed_fails o e listed fails =
        subst (λ z. Stops (option_and_then (each_under (λ j d. Listed (Rows j) j d) has first) z) e) listed
        (joined_fails (or_raw (raw_of (view x)) (Listed rows next (view x))) _ _ start now e one_here fails)

-- each under the kind that the items set
pub under_own : (One : List ℕ → Data → Option (List ℕ)) (o : Option Items) (k : List ℕ) → k ≡ unwrap_or (option_map own_kind_named o) []
    → option_and_then (each_under One false k) o ≡ option_and_then (λ ds. each_under One false (own_kind_named ds) ds) o
under_own One None k e = refl
under_own One (Some ds) k e = ap (λ j. each_under One false j ds) e

-- ---- levels

itself : (o : Option (List ℕ)) → or_raw o o ≡ o
itself None = refl
itself (Some b) = refl

-- raw bytes are made at any depth
pub raw_made : {T : Type 0} (table : Table) (n : ℕ) (k : List ℕ) (f : Form) (d : Data) (old new : List ℕ) (r : Result T Stop)
    → ((other : Option (List ℕ)) → Appended (or_raw (raw_of d) other) old new r) → Appended (make table n k f d) old new r
raw_made table zero k f d old new r h = appended_as (or_raw (raw_of d) (raw_of d)) (raw_of d) old new r (itself (raw_of d)) (h (raw_of d))
raw_made table (suc n) k f d old new r h = h (in_form table (make table n) k f d)

or_else : {T : Type 0} (raw made : Option (List ℕ)) (old mid new : List ℕ) (r : Result T Stop) → raw ≡ None → mid ≡ old → Appended made mid new r
    → Appended (or_raw raw made) old new r
or_else raw made old mid new r none same h =
    subst (λ o. Appended (or_raw o made) old new r) (sym none) (subst (λ (b : List ℕ). Appended made b new r) same h)

-- JSON that isn't raw is made in its form, with one level less
pub level_made : {T : Type 0} (table : Table) (n m : ℕ) (k : List ℕ) (f : Form) (d : Data) (old mid new : List ℕ) (r : Result T Stop)
    → (1 ≤ n) × (m ≡ n - 1) → raw_of d ≡ None → mid ≡ old → Appended (in_form table (make table m) k f d) mid new r → Appended (make table n k f d) old new r
level_made table zero m k f d old mid new r less none same h = absurd (omega (arith, less.0))
level_made table (suc n) m k f d old mid new r less none same h =
    let e : m ≡ n = omega (arith, less.1) in
    or_else (raw_of d) (in_form table (make table n) k f d) old mid new r none same (subst (λ j. Appended (in_form table (make table j) k f d) mid new r) e h)

pub too_deep : (table : Table) (n : ℕ) (k : List ℕ) (f : Form) (d : Data) (e : Stop) → (1 ≤ n → ⊥) → raw_of d ≡ None → Stops (make table n k f d) e
too_deep table zero k f d e none not_raw = λ not. not_raw
too_deep table (suc n) k f d e none not_raw = absurd (none (omega arith))

pub shape_made : {T : Type 0} (table : Table) (Made : List ℕ → Form → Data → Option (List ℕ)) (k : List ℕ) (f shape : Form) (d : Data) (x : Option (List ℕ))
    (old new : List ℕ) (r : Result T Stop) → f ≡ shape → x ≡ in_form table Made k shape d → Appended x old new r → Appended (in_form table Made k f d) old new r
shape_made table Made k f shape d x old new r same is h =
    appended_as x (in_form table Made k f d) old new r (is ∙ ap (λ g. in_form table Made k g d) (sym same)) h

-- an attribute that isn't raw
pub listed_made_as : {T : Type 0} (Made : List ℕ → Form → Data → Option (List ℕ)) (rows : List Row) (has : Bool) (held shape : Option Form) (layer k : List ℕ)
    (d : Data) (old mid new : List ℕ) (r : Result T Stop) → held ≡ shape → raw_of d ≡ None → mid ≡ old
    → Appended (listed_made Made rows has shape layer k d) mid new r → Appended (or_raw (raw_of d) (listed_made Made rows has held layer k d)) old new r
listed_made_as Made rows has held shape layer k d old mid new r is none same h =
    or_else (raw_of d) (listed_made Made rows has held layer k d) old mid new r none same
    (subst (λ o. Appended (listed_made Made rows has o layer k d) mid new r) (sym is) h)

pub plain_in_form : (table : Table) (Made : List ℕ → Form → Data → Option (List ℕ)) (k : List ℕ) (f : Form) (d : Data) → ((i : ℕ) → f ≡ form.Record i → ⊥)
    → ((i : ℕ) → f ≡ form.Array i → ⊥) → ((n i : ℕ) → f ≡ form.Times n i → ⊥) → ((i : ℕ) → f ≡ form.List i → ⊥) → ((i : ℕ) → f ≡ form.InForce i → ⊥)
    → ((i : ℕ) → f ≡ form.Own i → ⊥) → ((i : ℕ) → f ≡ form.Indexed i → ⊥) → ((i : ℕ) → f ≡ form.Choice i → ⊥) → plain_made table f d ≡ in_form table Made k f d
plain_in_form table Made k (form.Record i) d r a t l m o x c = absurd (r i refl)
plain_in_form table Made k (form.Array i) d r a t l m o x c = absurd (a i refl)
plain_in_form table Made k (form.Times n i) d r a t l m o x c = absurd (t n i refl)
plain_in_form table Made k (form.List i) d r a t l m o x c = absurd (l i refl)
plain_in_form table Made k (form.InForce i) d r a t l m o x c = absurd (m i refl)
plain_in_form table Made k (form.Own i) d r a t l m o x c = absurd (o i refl)
plain_in_form table Made k (form.Indexed i) d r a t l m o x c = absurd (x i refl)
plain_in_form table Made k (form.Choice i) d r a t l m o x c = absurd (c i refl)
plain_in_form table Made k f d r a t l m o x c = refl
