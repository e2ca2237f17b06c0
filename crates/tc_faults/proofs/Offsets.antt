-- Offsets of faults: counted with saturation, and inside the message.
use Rattle.std.proofs.Common.{◌≡◌, ◌⊎◌, ℕ, zero, suc, ◌+◌, ◌-◌, ◌%◌, ◌^◌, ◌<◌, ◌≤◌, List, [], ◌∷◌, ◌++◌, length, drop}
use Rattle.std.proofs.Common.{Option, Some, None, Ok, Err, Bool, true, false}
use Rattle.std.proofs.Common.{refl, sym, ap, ◌∙◌, arith, inl, inr}
use Rattle.std.specs.Prelude.{min, is_some, ◌||◌, ◌==◌, if◌then◌else◌}
use Rattle.std.specs.List.{AllByRecursion}
use Rattle.std.proofs.lemmas.Bool.{cases_lt, lt-ltb, le-ltb}
use Rattle.std.proofs.lemmas.List.{length-drop}
use Rattle.nla_frames.specs.declared.error.DecodeError.{DecodeError}
use Rattle.nla_frames.specs.Fault.{Outcome, read_as}
use Rattle.nla_frames.specs.Frame.{Frame, type_of, frame_length}
use Rattle.nla_frames.specs.Buffer.{first_of}
use Rattle.nla_frames.specs.Place.{Sets, kind_then}
use Rattle.nla_frames.specs.Reading.{keep}
use Rattle.nla_frames.specs.Cutting.{next_frame, cut, items_of}
use Rattle.nla_frames.proofs.CutSteps.{by_frames, cut_refused}
use Rattle.nla_frames.proofs.Items.{items-nil, items-next_frame}
use Rattle.tc_canon.specs.Descriptor.{Class, raw, list_of, own_list, Table, table, by_kind, Rows, others, types, unread, options, is_within, is_known}
use Rattle.tc_canon.specs.Kind.{kind_of_frame}
use Rattle.tc_canon.specs.Tables.Messages.{attributes, action_message_attributes}
use Rattle.tc_index.specs.declared.table.Table.{Table as ListedTable}
use Rattle.tc_index.specs.declared.table.Table.TheVariants as the
use Rattle.tc_index.specs.Tables.{rows_in, table_of}
use Rattle.tc_index.specs.Nesting.{class_at, class_in, list_in}
use Rattle.tc_index.specs.Attributes.{Item, Yields, each, Walk, within, with_inner, attributes_in, to_fault, message_items, tc_items, action_items}
use Rattle.tc_index.specs.Attributes.{after_header}
use Rattle.tc_index.proofs.Frames.{takes}
use Rattle.tc_index.proofs.Rows.{class-in}
use Rattle.tc_faults.specs.declared.what.What.{What}
use Rattle.tc_faults.specs.declared.what.What.TheVariants.{Action}
use Rattle.tc_faults.specs.Located.{is_wrong_kind, offset_in_frames, offset_in, own_fault, own_offset, first_offset, items_of_message, message_offset}

-- ---- saturation

-- sums that saturate lead to the same offset, up to saturation
pub same_capped : (action most a b : ℕ) (frames : List (Outcome Frame)) → min a most ≡ min b most
    → min (offset_in_frames action a frames) most ≡ min (offset_in_frames action b frames) most
same_capped action most a b [] same = refl
same_capped action most a b (Err e ∷ frames) same = same
same_capped action most a b (Ok f ∷ frames) same =
    go (is_wrong_kind f) (same_capped action most (a + frame_length f) (b + frame_length f) frames (omega (arith, same)))
  where
    go : (wrong : Bool) → min (offset_in_frames action (a + frame_length f) frames) most ≡ min (offset_in_frames action (b + frame_length f) frames) most
        → min (if wrong then a + 4 else offset_in_frames action (a + frame_length f) frames) most
        ≡ min (if wrong then b + 4 else offset_in_frames action (b + frame_length f) frames) most
    go true later = omega (arith, same)
    go false later = later

-- so the offset of the next frame is as good as the one before, if the frame between isn't at fault
pub next_capped : (action most at next : ℕ) (f : Frame) (frames : List (Outcome Frame)) (wrong : Bool) → wrong ≡ is_wrong_kind f → wrong ≡ false
    → next ≡ min (at + frame_length f) most
    → min (offset_in_frames action next frames) most ≡ min (offset_in_frames action at (Ok f ∷ frames)) most
next_capped action most at next f frames wrong is not sum =
    rw (sym is ∙ not) (same_capped action most next (at + frame_length f) frames (omega (arith, sum)))

-- ---- only actions have faults at other places than their values

abbrev is_own : Class → Bool
is_own (own_list rows) = true
is_own _ = false

abbrev has_own : Rows → Bool
has_own others = false
has_own (types first last flags class rows) = is_own class || has_own rows
has_own (unread m class rows) = has_own rows
has_own (options m kinds rows) = has_own rows

class-offset : (class : Class) (at : ℕ) (value : List ℕ) → is_own class ≡ false → offset_in class at value ≡ at
class-offset (own_list rows) at value not = absurd cc
class-offset _ at value not = refl

rows-offset : (rows : Rows) (n : ℕ) (k : List ℕ) (at : ℕ) (value : List ℕ) → has_own rows ≡ false → offset_in (class_at rows n k) at value ≡ at
rows-offset others n k at value not = refl
rows-offset (types first last flags class rows) n k at value not = go (is_own class) refl (is_within first last n) not (rows-offset rows n k at value)
  where
    go : (own : Bool) → is_own class ≡ own → (w : Bool) → (own || has_own rows) ≡ false
        → (has_own rows ≡ false → offset_in (class_at rows n k) at value ≡ at) → offset_in (if w then class else class_at rows n k) at value ≡ at
    go true is w not rest = absurd cc
    go false is true not rest = class-offset class at value is
    go false is false not rest = rest not
rows-offset (unread m class rows) n k at value not = go (n == m) (rows-offset rows n k at value not)
  where
    go : (b : Bool) → offset_in (class_at rows n k) at value ≡ at → offset_in (if b then raw else class_at rows n k) at value ≡ at
    go true rest = refl
    go false rest = rest
rows-offset (options m kinds rows) n k at value not = go (n == m) (is_known kinds k) (rows-offset rows n k at value not)
  where
    go : (b known : Bool) → offset_in (class_at rows n k) at value ≡ at
        → offset_in (if b then (if known then list_of (by_kind kinds) else raw) else class_at rows n k) at value ≡ at
    go true true rest = refl
    go true false rest = refl
    go false known rest = rest

no-own : (t : ListedTable) → has_own (rows_in t) ≡ false
no-own the.Actions = refl
no-own _ = refl

-- the fault of an attribute in another table than a list of actions is at its value
pub at-value : (t : ListedTable) (n : ℕ) (k : List ℕ) (at : ℕ) (value : List ℕ) → (t ≡ the.Actions → ⊥)
    → offset_in (class_in (table_of t) n k) at value ≡ at
at-value t n k at value other = rw (class-in t n k other) (rows-offset (rows_in t) n k at value (no-own t))

-- ---- inside the message

-- the first frame is within the bytes, and so is the rest after it
front-inside : (bytes : List ℕ) (f : Frame) (after : List ℕ) → next_frame bytes ≡ Ok (f, after)
    → (4 + length f.value ≤ length bytes) × (0 < length after → frame_length f + length after ≡ length bytes)
front-inside bytes f after found =
    let n = Prim.Native.Nat.min (4 + length f.value + (4 - (4 + length f.value) % 4) % 4) (length bytes) in
    let first : read_as f ≡ first_of (next_frame bytes) = rw found refl in
    let t = takes bytes f (4 + length f.value) n first refl refl in
    let pair : ◌≡◌ {A = Frame × List ℕ} (f, after) (f, drop n bytes) = cc (sym found ∙ t.next) in
    let same : after ≡ drop n bytes = ap (λ (x : Frame × List ℕ). x.1) pair in
    let long : length after ≡ length bytes - n = ap length same ∙ length-drop n bytes in
    (omega (arith, t.some, t.within), λ some. go n long t.within some same t.all)
  where
    go : (n : ℕ) → length after ≡ length bytes - n → n ≤ length bytes → 0 < length after → after ≡ drop n bytes
        → (n ≡ frame_length f) ⊎ (drop n bytes ≡ []) → frame_length f + length after ≡ length bytes
    go n long low some same (inl is) = omega (arith, is, long, low)
    go n long low some same (inr none) = let no : length after ≡ 0 = ap length (same ∙ none) in absurd (omega arith)

-- so are the places in the frames of an action
abbrev EndsInside : ℕ → ℕ → List ℕ → Type 0
EndsInside len at bytes = 0 < length bytes → at + length bytes ≤ len

module _ (len : ℕ) where
  frames-inside : (action : ℕ) → action ≤ len → (bytes : List ℕ) → (at : ℕ) → EndsInside len at bytes
      → offset_in_frames action at (items_of (cut bytes)) ≤ len
  frames-inside action low = by_frames (λ bytes. (at : ℕ) → EndsInside len at bytes → offset_in_frames action at (items_of (cut bytes)) ≤ len) none broken more
    where
      none : (at : ℕ) → EndsInside len at [] → offset_in_frames action at (items_of (cut [])) ≤ len
      none at ends = rw items-nil low

      broken : (bytes : List ℕ) (e : DecodeError) → 0 < length bytes → next_frame bytes ≡ Err e → (at : ℕ) → EndsInside len at bytes
          → offset_in_frames action at (items_of (cut bytes)) ≤ len
      broken bytes e some is at ends = rw (cut_refused bytes e some is) (omega (arith, ends some))

      more : (bytes : List ℕ) (f : Frame) (after : List ℕ) → next_frame bytes ≡ Ok (f, after)
          → ((at : ℕ) → EndsInside len at after → offset_in_frames action at (items_of (cut after)) ≤ len)
          → (at : ℕ) → EndsInside len at bytes → offset_in_frames action at (items_of (cut bytes)) ≤ len
      more bytes f after is later at ends =
          let front = front-inside bytes f after is in
          let whole : at + length bytes ≤ len = ends (omega (arith, front.0)) in
          rw (items-next_frame bytes (f, after) is)
          (go (is_wrong_kind f) (omega (arith, front.0, whole)) (later (at + frame_length f) (λ some. omega (arith, front.1 some, whole))))
        where
          go : (wrong : Bool) → at + 4 ≤ len → offset_in_frames action (at + frame_length f) (items_of (cut after)) ≤ len
              → (if wrong then at + 4 else offset_in_frames action (at + frame_length f) (items_of (cut after))) ≤ len
          go true here rest = here
          go false here rest = rest

  -- an attribute's value is inside, and a malformed frame begins inside
  abbrev IsInside : Item → Type 0
  IsInside (Ok p) = p.offset + length p.frame.value ≤ len
  IsInside (Err broken) = broken.offset ≤ len

  all-append : (xs ys : List Item) → AllByRecursion IsInside xs → AllByRecursion IsInside ys → AllByRecursion IsInside (xs ++ ys)
  all-append [] ys all rest = rest
  all-append (x ∷ xs) ys all rest = (all.0, all-append xs ys all.1 rest)

  all-to_fault : (xs : List Item) → AllByRecursion IsInside xs → AllByRecursion IsInside (to_fault xs)
  all-to_fault [] all = tt
  all-to_fault (Ok p ∷ xs) all = (all.0, all-to_fault xs all.1)
  all-to_fault (Err broken ∷ xs) all = (all.0, tt)

  abbrev AreInside : Yields → Sets Frame → List ℕ → Type 0
  AreInside yields sets bytes = (k : List ℕ) (at : ℕ) → EndsInside len at bytes → AllByRecursion IsInside (each yields sets k at (items_of (cut bytes)))

  module _ (yields : Yields) (sets : Sets Frame)
      (one : (k : List ℕ) (at : ℕ) (f : Frame) → at + length f.value ≤ len → AllByRecursion IsInside (yields k at f)) where
    each-inside : (bytes : List ℕ) → AreInside yields sets bytes
    each-inside = by_frames (AreInside yields sets) none broken more
      where
        none : AreInside yields sets []
        none k at ends = rw items-nil tt

        broken : (bytes : List ℕ) (e : DecodeError) → 0 < length bytes → next_frame bytes ≡ Err e → AreInside yields sets bytes
        broken bytes e some is k at ends = rw (cut_refused bytes e some is) (omega (arith, ends some), tt)

        more : (bytes : List ℕ) (f : Frame) (after : List ℕ) → next_frame bytes ≡ Ok (f, after) → AreInside yields sets after → AreInside yields sets bytes
        more bytes f after is later k at ends =
            let front = front-inside bytes f after is in
            let whole : at + length bytes ≤ len = ends (omega (arith, front.0)) in
            rw (items-next_frame bytes (f, after) is)
            (all-append (yields k (at + 4) f) (each yields sets (kind_then sets k f) (at + frame_length f) (items_of (cut after)))
            (one k (at + 4) f (omega (arith, front.0, whole)))
            (later (kind_then sets k f) (at + frame_length f) (λ some. omega (arith, front.1 some, whole))))

  abbrev WalksInside : Walk → Type 0
  WalksInside walk = (t : Table) (k : List ℕ) (depth at : ℕ) (bytes : List ℕ) → at + length bytes ≤ len → AllByRecursion IsInside (walk t k depth at bytes)

  inner-inside : (walk : Walk) → WalksInside walk → (t : Table) (depth : ℕ) (k : List ℕ) (at : ℕ) (f : Frame) → at + length f.value ≤ len
      → AllByRecursion IsInside (with_inner walk t depth k at f)
  inner-inside walk all t depth k at f inside = (inside, go (list_in (class_in t (type_of f.word) k) k f.value))
    where
      go : (list : Option (Table × List ℕ)) → AllByRecursion IsInside (within walk list (suc depth) at f.value)
      go None = tt
      go (Some list) = all list.0 list.1 (suc depth) at f.value inside

  list-inside : (n : ℕ) → WalksInside (attributes_in n)
  unfolding attributes_in
  list-inside zero t k depth at bytes inside = tt
  list-inside (suc n) t k depth at bytes inside =
      each-inside (with_inner (attributes_in n) t depth) keep (λ k at f. inner-inside (attributes_in n) (list-inside n) t depth k at f) bytes k at
      (λ some. inside)

  -- and so is the first fault
  own-inside : (class : Class) (at : ℕ) (value : List ℕ) → at + length value ≤ len → offset_in class at value ≤ len
  own-inside (own_list rows) at value inside = frames-inside at (omega arith) value at (λ some. inside)
  own-inside _ at value inside = omega arith

  first-inside : (items : List Item) → AllByRecursion IsInside items → (n : ℕ) → first_offset items ≡ Some n → n ≤ len
  first-inside [] all n is = absurd cc
  first-inside (Err broken ∷ items) all n is = let same : broken.offset ≡ n = cc is in omega (arith, same, all.0)
  first-inside (Ok p ∷ items) all n is = go (is_some (own_fault p)) is (first-inside items all.1 n)
    where
      go : (has : Bool) → (if has then Some (own_offset p) else first_offset items) ≡ Some n → (first_offset items ≡ Some n → n ≤ len) → n ≤ len
      go true is later =
          let same : own_offset p ≡ n = cc is in
          omega (arith, same, own-inside (class_in p.table (type_of p.frame.word) p.kind) p.offset p.frame.value all.0)
      go false is later = later is

message-inside : (header : ℕ) (t : Table) (sets : Sets Frame) (bytes : List ℕ) → header ≤ length bytes
    → AllByRecursion (IsInside (length bytes)) (message_items 4 header t sets bytes)
message-inside header t sets bytes whole =
    let len = length bytes in
    all-to_fault len _
    (each-inside len (with_inner (attributes_in 4) t 0) sets (λ k at f. inner-inside len (attributes_in 4) (list-inside len 4) t 0 k at f)
    (drop header bytes) [] header (λ some. omega (arith, length-drop header bytes)))

header-inside : (header : ℕ) (items : List ℕ → List Item) (bytes : List ℕ) → (header ≤ length bytes → AllByRecursion (IsInside (length bytes)) (items bytes))
    → (n : ℕ) → message_offset (after_header header items bytes) ≡ Some n → n ≤ length bytes
header-inside header items bytes all n is = go (cases_lt (length bytes) header)
  where
    go : (length bytes < header) ⊎ (header ≤ length bytes) → n ≤ length bytes
    go (inl short) = let none : Some 0 ≡ Some n = rw (lt-ltb (length bytes) header short) at is in let same : 0 ≡ n = cc none in omega (arith, same)
    go (inr long) = first-inside (length bytes) (items bytes) (all long) n (rw (le-ltb (length bytes) header long) at is)

pub offset-inside : (what : What) (bytes : List ℕ) (n : ℕ) → message_offset (items_of_message what bytes) ≡ Some n → n ≤ length bytes
unfolding tc_items action_items
offset-inside Action bytes n is =
    header-inside 4 action_items bytes (message-inside 4 (table action_message_attributes) keep bytes) n is
offset-inside _ bytes n is =
    header-inside 20 tc_items bytes (message-inside 20 (table attributes) kind_of_frame bytes) n is

-- so an offset that is counted with saturation, and then kept within the message, is the fault's
pub kept-offset : (what : What) (bytes : List ℕ) (n counted kept : ℕ) → message_offset (items_of_message what bytes) ≡ Some n → length bytes < 2 ^ 64
    → counted ≡ min n (2 ^ 64 - 1) → kept ≡ min counted (length bytes) → kept ≡ n
kept-offset what bytes n counted kept is low sat within = let inside = offset-inside what bytes n is in omega (arith, inside, low, sat, within)
