-- Walking the frames of a message finds the attributes of its value: by induction over classes and tables.
use Rattle.std.proofs.Common.{◌≡◌, ℕ, zero, suc, ◌+◌, ◌≤◌, List, [], ◌∷◌, ◌++◌, map, drop, Some, None, Result, Ok, Err, refl, sym, ap, ap₂, subst, ◌∙◌, arith}
use Rattle.std.specs.Prelude.{Bool, true, false, ◌==◌, nat_lt, take, length, unwrap_or, if◌then◌else◌}
use Rattle.std.specs.Str.{bytes_eq, is_utf8}
use Rattle.std.proofs.lemmas.Bool.{eqb-true}
use Rattle.std.proofs.lemmas.List.{map-append}
use Rattle.nla_frames.specs.declared.error.DecodeError.TheVariants.{NotUtf8, XstatsShort}
use Rattle.nla_frames.specs.Fault.{Outcome, seen, ◌>>=◌}
use Rattle.nla_frames.specs.Value as plain_values
use Rattle.nla_frames.specs.Value.{strip, le_value}
use Rattle.nla_frames.specs.Frame.{Frame, type_of, frame_length}
use Rattle.nla_frames.specs.Place.{Sets, kind_then}
use Rattle.nla_frames.specs.Reading.{Reads, keep, before, read_each, read_list}
use Rattle.nla_frames.specs.Cutting.{cut, items_of}
use Rattle.tc_canon.specs.Descriptor.{Class, le, be, masked, array, raw, text, warning, presence, truth, fields, selector, pair, xstats, list_of, own_list}
use Rattle.tc_canon.specs.Descriptor.{Table, table, every, by_kind, Rows, others, types, unread, options, Kinds, unknown, kind, is_within, is_known}
use Rattle.tc_meaning.specs.Tree.{Content, number, is_bytes, flag, record_of, statistics, unknown_statistics, Attribute, known, kept, other, of_kind, attributes_of}
use Rattle.tc_meaning.specs.Content.{a_selector, read_statistics, is_fq_codel}
use Rattle.tc_meaning.specs.Own.{read_kinds, only_kind, read_own}
use Rattle.tc_meaning.specs.Meaning.{a_list, by_type, choose, row_frames, unread_frames, options_frames, class_codec, table_codec, rows_codec, kinds_codec}
use Rattle.tc_index.specs.declared.attribute.BrokenFrame.{BrokenFrame}
use Rattle.tc_index.specs.Nesting.{class_at, class_in, known_table, table_under, first_kind, list_in}
use Rattle.tc_index.specs.Attributes.{Item, Yields, each, within, with_inner, attributes_in, to_fault, message_items}
use Rattle.tc_index.proofs.Depth.{lists_in, lists_of, lists_at, lists_under}
use Rattle.tc_index.specs.Spots.{Spot, spots_of, spots_within, spots_in, spot_of, found, AreAt}

-- ---- readings that succeed

seen-ok : {X Y : Type 0} (g : X → Y) (o : Outcome X) (y : Y) → seen g o ≡ Ok y → (x : X) × (o ≡ Ok x) × (g x ≡ y)
seen-ok g (Ok x) y e = (x, refl, cc)
seen-ok g (Err d) y e = absurd cc

then-ok : {X Y : Type 0} (o : Outcome X) (next : X → Outcome Y) (y : Y) → (o >>= next) ≡ Ok y → (x : X) × (o ≡ Ok x) × (next x ≡ Ok y)
then-ok (Ok x) next y e = (x, refl, e)
then-ok (Err d) next y e = absurd cc

before-ok : {X : Type 0} (x : X) (others : Outcome (List X)) (xs : List X) → before (x ∷ []) others ≡ Ok xs → (ys : List X) × (others ≡ Ok ys) × (x ∷ ys ≡ xs)
before-ok x (Ok ys) xs e = (ys, refl, cc)
before-ok x (Err d) xs e = absurd cc

-- ---- lists

at-append : (xs ys : List Item) (a b : List Spot) → AreAt xs a → AreAt ys b → AreAt (xs ++ ys) (a ++ b)
at-append xs ys a b p q = map-append spot_of xs ys ∙ ap₂ (λ s t. s ++ t) p q ∙ sym (map-append found a b)

module _ (yields : Yields) (sets : Sets Frame) (reads : Reads Attribute) (depth : ℕ) (K : List ℕ → Type 0)
    (goes_on : (k : List ℕ) (f : Frame) → K k → K (kind_then sets k f))
    (one : (k : List ℕ) (at : ℕ) (f : Frame) (x : Attribute) → K k → reads k f ≡ Ok x → AreAt (yields k at f) (spots_of depth x)) where
  each-at : (frames : List (Outcome Frame)) (k : List ℕ) (at : ℕ) (xs : List Attribute) → K k → read_each reads sets k frames ≡ Ok xs
      → AreAt (each yields sets k at frames) (spots_in depth (attributes_of xs))
  unfolding read_each
  each-at [] k at [] here e = refl
  each-at [] k at (x ∷ xs) here e = absurd cc
  each-at (Err d ∷ frames) k at xs here e = absurd cc
  each-at (Ok f ∷ frames) k at xs here e =
      let first = then-ok (reads k f) (λ x. before (x ∷ []) (read_each reads sets (kind_then sets k f) frames)) xs e in
      let rest = before-ok first.0 (read_each reads sets (kind_then sets k f) frames) xs first.2 in
      let later = each yields sets (kind_then sets k f) (at + frame_length f) frames in
      subst (λ (ys : List Attribute). AreAt (yields k (at + 4) f ++ later) (spots_in depth (attributes_of ys))) rest.2
      (at-append (yields k (at + 4) f) later (spots_of depth first.0) (spots_in depth (attributes_of rest.0))
      (one k (at + 4) f first.0 here first.1)
      (each-at frames (kind_then sets k f) (at + frame_length f) rest.0 (goes_on k f here) rest.1))

-- the claims about a table's frames and about a class's values
abbrev TableAt : Table → ℕ → Type 0
TableAt t n = (k : List ℕ) (f : Frame) (x : Attribute) → (table_codec t).read k f ≡ Ok x → (depth at : ℕ)
    → AreAt (with_inner (attributes_in n) (table_under t k) depth k at f) (spots_of depth x)

abbrev ClassAt : Class → ℕ → Type 0
ClassAt c n = (k v : List ℕ) (content : Content) → (class_codec c).read k v ≡ Ok content → (depth at : ℕ)
    → AreAt (within (attributes_in n) (list_in c k v) depth at v) (spots_within depth content)

-- a list of a table
list-at : (t : Table) (n : ℕ) → TableAt t n → (k v : List ℕ) (xs : List Attribute) → read_list (table_codec t).read keep k v ≡ Ok xs → (depth at : ℕ)
    → AreAt (attributes_in (suc n) (table_under t k) k depth at v) (spots_in depth (attributes_of xs))
unfolding attributes_in read_list
list-at t n one k v xs e depth at =
    each-at (with_inner (attributes_in n) (table_under t k) depth) keep (table_codec t).read depth (λ j. j ≡ k) (λ j f here. here)
    (λ j at f x here is. subst
    (λ (i : List ℕ). (table_codec t).read i f ≡ Ok x → AreAt (with_inner (attributes_in n) (table_under t k) depth i at f) (spots_of depth x))
    (sym here) (λ read. one k f x read depth at) is)
    (items_of (cut v)) k at xs refl e

nested-at : (t : Table) (n : ℕ) → TableAt t n → ClassAt (list_of t) (suc n)
nested-at t n one k v content e depth at =
    let r = seen-ok a_list.into (read_list (table_codec t).read keep k v) content e in
    subst (λ (c : Content). AreAt (attributes_in (suc n) (table_under t k) k depth at v) (spots_within depth c)) r.2 (list-at t n one k v r.0 r.1 depth at)

-- a list that sets its own kind
text-is : (v t : List ℕ) → plain_values.text v ≡ Ok t → strip v ≡ t
text-is v t e = go (is_utf8 (strip v)) e
  where
    go : (b : Bool) → (if b then Ok (strip v) else Err NotUtf8) ≡ Ok t → strip v ≡ t
    go true h = cc
    go false h = absurd cc

first-is : (frames : List (Outcome Frame)) (own : List ℕ) (kinds : List (List ℕ)) → read_kinds frames ≡ Ok (own ∷ kinds) → first_kind frames ≡ own
unfolding read_kinds
first-is [] own kinds e = absurd cc
first-is (Err d ∷ frames) own kinds e = absurd cc
first-is (Ok f ∷ frames) own kinds e = go (type_of f.word == 1) (first-is frames own kinds) e
  where
    go : (b : Bool) → (read_kinds frames ≡ Ok (own ∷ kinds) → first_kind frames ≡ own)
        → (if b then (plain_values.text f.value >>= λ kind. seen (λ kinds. kind ∷ kinds) (read_kinds frames)) else read_kinds frames) ≡ Ok (own ∷ kinds)
        → unwrap_or (if b then Some (strip f.value) else None) (first_kind frames) ≡ own
    go true rest h =
        let r = then-ok (plain_values.text f.value) (λ kind. seen (λ kinds. kind ∷ kinds) (read_kinds frames)) (own ∷ kinds) h in
        let s = seen-ok (λ kinds. r.0 ∷ kinds) (read_kinds frames) (own ∷ kinds) r.2 in
        let same : r.0 ≡ own = cc in
        text-is f.value r.0 r.1 ∙ same
    go false rest h = rest h

only-is : (kinds : List (List ℕ)) (own : List ℕ) → only_kind kinds ≡ Ok own → kinds ≡ own ∷ []
only-is [] own e = absurd cc
only-is (k ∷ []) own e = let same : k ≡ own = cc in rw same refl
only-is (k ∷ l ∷ kinds) own e = absurd cc

abbrev kinds_read : List (List ℕ) → Outcome (List (List ℕ))
kinds_read kinds = Ok kinds

own-at : (rows : Rows) (n : ℕ) → TableAt (table rows) n → ClassAt (own_list rows) (suc n)
unfolding read_own
own-at rows n one k v content e depth at =
    let reads = (by_type (rows_codec rows)).read in
    let r = seen-ok a_list.into (read_own reads v) content e in
    let s = then-ok (read_kinds (items_of (cut v)) >>= only_kind) (λ kind. read_list reads keep kind v) r.0 r.1 in
    let o = then-ok (read_kinds (items_of (cut v))) only_kind s.0 s.1 in
    let own : first_kind (items_of (cut v)) ≡ s.0 = first-is (items_of (cut v)) s.0 [] (o.1 ∙ ap kinds_read (only-is o.0 s.0 o.2)) in
    rw own
    (subst (λ (c : Content). AreAt (attributes_in (suc n) (table rows) s.0 depth at v) (spots_within depth c)) r.2
    (list-at (table rows) n one s.0 v r.0 s.2 depth at))

-- ---- values other than lists

plain : {X : Type 0} (into : X → Content) (o : Outcome X) (content : Content) → ((x : X) (depth : ℕ) → spots_within depth (into x) ≡ [])
    → seen into o ≡ Ok content → (depth : ℕ) → AreAt [] (spots_within depth content)
plain into o content no_list e depth =
    let r = seen-ok into o content e in
    rw (← r.2, no_list r.0 depth) refl

xstats-at : (k v : List ℕ) (content : Content) → (class_codec xstats).read k v ≡ Ok content → (depth : ℕ) → AreAt [] (spots_within depth content)
xstats-at k v content e depth = by_kind_of (is_fq_codel k) e
  where
    by_number : (n : ℕ) (after : List ℕ) → read_statistics n after v ≡ Ok content → AreAt [] (spots_within depth content)
    by_number zero after h = plain (statistics 0) _ content (λ x d. refl) h depth
    by_number (suc zero) after h = plain (statistics 1) _ content (λ x d. refl) h depth
    by_number (suc (suc n)) after h = let same : unknown_statistics v ≡ content = cc in rw (← same) refl

    by_length : (b : Bool) → (if b then Err (XstatsShort (length v)) else read_statistics (le_value (take 4 v)) (drop 4 v) v) ≡ Ok content
        → AreAt [] (spots_within depth content)
    by_length true h = absurd cc
    by_length false h = by_number (le_value (take 4 v)) (drop 4 v) h

    by_kind_of : (b : Bool)
        → (if b then (if nat_lt (length v) 4 then Err (XstatsShort (length v)) else read_statistics (le_value (take 4 v)) (drop 4 v) v) else Ok (is_bytes v))
        ≡ Ok content
        → AreAt [] (spots_within depth content)
    by_kind_of true h = by_length (nat_lt (length v) 4) h
    by_kind_of false h = let same : is_bytes v ≡ content = cc in rw (← same) refl

-- ---- everything

-- an attribute of a class, and those nested in it
abbrev InnerAt : Class → ℕ → List ℕ → Frame → Attribute → Type 0
InnerAt c n k f x = (depth at : ℕ)
    → found (depth, type_of f.word) ∷ map spot_of (within (attributes_in n) (list_in c k f.value) (suc depth) at f.value) ≡ map found (spots_of depth x)

known-at : (c : Class) (n m : ℕ) → ClassAt c n → (k : List ℕ) (f : Frame) (x : Attribute) → m ≡ type_of f.word
    → seen (known m) ((class_codec c).read k f.value) ≡ Ok x → InnerAt c n k f x
known-at c n m one k f x same e depth at =
    let r = seen-ok (known m) ((class_codec c).read k f.value) x e in
    let inner = within (attributes_in n) (list_in c k f.value) (suc depth) at f.value in
    subst (λ (y : Attribute). found (depth, type_of f.word) ∷ map spot_of inner ≡ map found (spots_of depth y)) r.2
    (ap₂ (λ (s : Result Spot BrokenFrame) (t : List (Result Spot BrokenFrame)). s ∷ t)
    (ap (λ (l : ℕ). found (depth, l)) (sym same)) (one k f.value r.0 r.1 (suc depth) at))

raw-at : (n : ℕ) (k : List ℕ) (f : Frame) (x : Attribute) → ((depth : ℕ) → spots_of depth x ≡ (depth, type_of f.word) ∷ []) → InnerAt raw n k f x
raw-at n k f x alone depth at = rw (alone depth) refl

module _ (n m : ℕ) (k : List ℕ) (f : Frame) (x : Attribute) (same : m ≡ type_of f.word) where
  -- a row of these types, or one of the others
  types-at : (b : Bool) (flags : ℕ) (class : Class) (rows : Rows) → (seen (known m) ((class_codec class).read k f.value) ≡ Ok x → InnerAt class n k f x)
      → ((rows_codec rows m).read k f ≡ Ok x → InnerAt (class_at rows m k) n k f x)
      → (choose b (row_frames (flags + m) m (class_codec class)) (rows_codec rows m)).read k f ≡ Ok x → InnerAt (if b then class else class_at rows m k) n k f x
  types-at true flags class rows one rest e = one e
  types-at false flags class rows one rest e = rest e

  -- a row that is never read
  unread-at : (b : Bool) (l : ℕ) (class : Class) (rows : Rows) → ((rows_codec rows m).read k f ≡ Ok x → InnerAt (class_at rows m k) n k f x)
      → (choose b (unread_frames l (class_codec class)) (rows_codec rows m)).read k f ≡ Ok x → InnerAt (if b then raw else class_at rows m k) n k f x
  unread-at true l class rows rest e = let is : other f.word f.value ≡ x = cc in raw-at n k f x (λ depth. rw (← is) refl)
  unread-at false l class rows rest e = rest e

  -- a message's options, under a known and under an unknown kind
  known-options : (b : Bool) (l : ℕ) (kinds : Kinds) → l ≡ m → ClassAt (list_of (by_kind kinds)) n
      → (if b then seen (known l) ((class_codec (list_of (by_kind kinds))).read k f.value) else Ok (kept l f.word f.value)) ≡ Ok x
      → InnerAt (if b then list_of (by_kind kinds) else raw) n k f x
  known-options true l kinds is one e = known-at (list_of (by_kind kinds)) n l one k f x (is ∙ same) e
  known-options false l kinds is one e =
      let value : kept l f.word f.value ≡ x = cc in
      let number : l ≡ type_of f.word = is ∙ same in
      raw-at n k f x (λ depth. rw (← value, number) refl)

  options-at : (b : Bool) (l : ℕ) (kinds : Kinds) (rows : Rows) → (m == l) ≡ b → ClassAt (list_of (by_kind kinds)) n
      → ((rows_codec rows m).read k f ≡ Ok x → InnerAt (class_at rows m k) n k f x)
      → (choose b (options_frames l kinds (class_codec (list_of (by_kind kinds)))) (rows_codec rows m)).read k f ≡ Ok x
      → InnerAt (if b then (if is_known kinds k then list_of (by_kind kinds) else raw) else class_at rows m k) n k f x
  options-at true l kinds rows is one rest e = known-options (is_known kinds k) l kinds (sym (eqb-true m l is)) one e
  options-at false l kinds rows is one rest e = rest e

-- a list that may be this deep
list-class : (t : Table) (n : ℕ) → suc (lists_of t) ≤ n → ((p : ℕ) → lists_of t ≤ p → TableAt t p) → ClassAt (list_of t) n
list-class t zero low one = absurd (omega arith)
list-class t (suc p) low one = nested-at t p (one p (omega arith))

own-class : (rows : Rows) (n : ℕ) → suc (lists_at rows) ≤ n → ((p : ℕ) → lists_at rows ≤ p → TableAt (table rows) p) → ClassAt (own_list rows) n
own-class rows zero low one = absurd (omega arith)
own-class rows (suc p) low one = own-at rows p (one p (omega arith))

-- an option of a kind, or of a later kind of the list
kind-at : (b : Bool) (name : List ℕ) (rows : Rows) (kinds : Kinds) (n : ℕ) (t : Table) (k : List ℕ) (f : Frame) (x : Attribute) (depth at : ℕ)
    → ((y : Attribute) → (by_type (rows_codec rows)).read k f ≡ Ok y → AreAt (with_inner (attributes_in n) (table rows) depth k at f) (spots_of depth y))
    → ((kinds_codec kinds).read k f ≡ Ok x → AreAt (with_inner (attributes_in n) (unwrap_or (known_table kinds k) t) depth k at f) (spots_of depth x))
    → (if b then seen (of_kind name) ((by_type (rows_codec rows)).read k f) else (kinds_codec kinds).read k f) ≡ Ok x
    → AreAt (with_inner (attributes_in n) (unwrap_or (if b then Some (table rows) else known_table kinds k) t) depth k at f) (spots_of depth x)
kind-at true name rows kinds n t k f x depth at one rest e =
    let r = seen-ok (of_kind name) ((by_type (rows_codec rows)).read k f) x e in
    rw (← r.2) (one r.0 r.1)
kind-at false name rows kinds n t k f x depth at one rest e = rest e

mutual
  class-at : (c : Class) (n : ℕ) → lists_in c ≤ n → ClassAt c n
  class-at (le m) n low k v content e depth at = plain number _ content (λ x d. refl) e depth
  class-at (be m) n low k v content e depth at = plain number _ content (λ x d. refl) e depth
  class-at (masked m bits) n low k v content e depth at = plain number _ content (λ x d. refl) e depth
  class-at (array m) n low k v content e depth at = plain is_bytes _ content (λ x d. refl) e depth
  class-at raw n low k v content e depth at = let same : is_bytes v ≡ content = cc in rw (← same) refl
  class-at text n low k v content e depth at = plain is_bytes _ content (λ x d. refl) e depth
  class-at warning n low k v content e depth at = plain is_bytes _ content (λ x d. refl) e depth
  class-at presence n low k v content e depth at = let same : flag true ≡ content = cc in rw (← same) refl
  class-at truth n low k v content e depth at = plain flag _ content (λ x d. refl) e depth
  class-at (fields layout) n low k v content e depth at = plain record_of _ content (λ x d. refl) e depth
  class-at selector n low k v content e depth at = plain a_selector.into _ content (λ x d. refl) e depth
  class-at pair n low k v content e depth at = plain record_of _ content (λ x d. refl) e depth
  class-at xstats n low k v content e depth at = xstats-at k v content e depth
  class-at (list_of t) n low k v content e depth at = list-class t n low (λ p l. table-at t p l) k v content e depth at
  class-at (own_list rows) n low k v content e depth at =
      own-class rows n low (λ p l j f x h deeper place. rows-at rows p l (type_of f.word) j f x refl h deeper place) k v content e depth at

  pub table-at : (t : Table) (n : ℕ) → lists_of t ≤ n → TableAt t n
  table-at (table rows) n low k f x e depth at = rows-at rows n low (type_of f.word) k f x refl e depth at
  table-at (every class) n low k f x e depth at = known-at class n (type_of f.word) (class-at class n low) k f x refl e depth at
  table-at (by_kind kinds) n low k f x e depth at = kinds-at kinds n low (by_kind kinds) (λ m j. refl) k f x e depth at

  rows-at : (rows : Rows) (n : ℕ) → lists_at rows ≤ n → (m : ℕ) (k : List ℕ) (f : Frame) (x : Attribute) → m ≡ type_of f.word
      → (rows_codec rows m).read k f ≡ Ok x → InnerAt (class_at rows m k) n k f x
  rows-at others n low m k f x same e = let is : other f.word f.value ≡ x = cc in raw-at n k f x (λ depth. rw (← is) refl)
  rows-at (types first last flags class rows) n low m k f x same e =
      types-at n m k f x same (is_within first last m) flags class rows (λ h. known-at class n m (class-at class n (omega arith)) k f x same h)
      (λ h. rows-at rows n (omega arith) m k f x same h) e
  rows-at (unread l class rows) n low m k f x same e = unread-at n m k f x same (m == l) l class rows (λ h. rows-at rows n low m k f x same h) e
  rows-at (options l kinds rows) n low m k f x same e =
      options-at n m k f x same (m == l) l kinds rows refl
      (list-class (by_kind kinds) n (omega arith) (λ p l j g y h depth at. kinds-at kinds p l (by_kind kinds) (λ i q. refl) j g y h depth at))
      (λ h. rows-at rows n (omega arith) m k f x same h) e

  kinds-at : (kinds : Kinds) (n : ℕ) → lists_under kinds ≤ n → (t : Table) → ((m : ℕ) (k : List ℕ) → class_in t m k ≡ raw)
      → (k : List ℕ) (f : Frame) (x : Attribute) → (kinds_codec kinds).read k f ≡ Ok x → (depth at : ℕ)
      → AreAt (with_inner (attributes_in n) (unwrap_or (known_table kinds k) t) depth k at f) (spots_of depth x)
  kinds-at unknown n low t no_class k f x e depth at = let is : other f.word f.value ≡ x = cc in rw (no_class (type_of f.word) k, ← is) refl
  kinds-at (kind name rows kinds) n low t no_class k f x e depth at =
      kind-at (bytes_eq k name) name rows kinds n t k f x depth at (λ y h. rows-at rows n (omega arith) (type_of f.word) k f y refl h depth at)
      (λ h. kinds-at kinds n (omega arith) t no_class k f x h depth at) e

-- ---- messages

-- if no frame is malformed, nothing is cut off
to_fault-at : (xs : List Item) (spots : List Spot) → AreAt xs spots → to_fault xs ≡ xs
to_fault-at [] spots e = refl
to_fault-at (Ok p ∷ xs) [] e = absurd cc
to_fault-at (Ok p ∷ xs) (s ∷ spots) e = let rest : map spot_of xs ≡ map found spots = cc in ap (λ (ys : List Item). Ok p ∷ ys) (to_fault-at xs spots rest)
to_fault-at (Err broken ∷ xs) [] e = absurd cc
to_fault-at (Err broken ∷ xs) (s ∷ spots) e = absurd cc

pub message-at : (header : ℕ) (rows : Rows) (sets : Sets Frame) (bytes : List ℕ) (xs : List Attribute) → lists_at rows ≤ 4
    → read_list (table_codec (table rows)).read sets [] (drop header bytes) ≡ Ok xs
    → AreAt (message_items 4 header (table rows) sets bytes) (spots_in 0 (attributes_of xs))
unfolding read_list
message-at header rows sets bytes xs low e =
    let walk = each (with_inner (attributes_in 4) (table rows) 0) sets [] header (items_of (cut (drop header bytes))) in
    let all : AreAt walk (spots_in 0 (attributes_of xs)) =
    each-at (with_inner (attributes_in 4) (table rows) 0) sets (table_codec (table rows)).read 0 (λ k. Unit {0}) (λ k f here. tt)
    (λ k at f x here is. table-at (table rows) 4 low k f x is 0 at) (items_of (cut (drop header bytes))) [] header xs tt e in
    rw (to_fault-at walk (spots_in 0 (attributes_of xs)) all) all
