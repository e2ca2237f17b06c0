-- Writing the attributes of a list into slots: the loop's invariant.
use Rattle.std.proofs.Common.{◌≡◌, ℕ, suc, ◌+◌, ◌<◌, ◌≤◌, List, [], ◌∷◌, ◌++◌, length, drop, set, map, Bool, true, false, Option, Some, Ok, Err, refl, sym, ap, ◌∙◌, arith}
use Rattle.std.proofs.lemmas.List.{map-set, map-append, length-map, length-append, drop-set-lt, drop-drop}
use Rattle.tc_index.specs.Attributes.{Placed, Item, to_fault}
use Rattle.tc_index.specs.Views.{NodeView, node_of}
use Rattle.tc_index.specs.Nodes.{nodes_of, filled, is_whole, FillsBy, KeepsAfter, Puts}
use Rattle.tc_index.proofs.Filling.{filled-append, fills-all}
use Rattle.tc_index.proofs.Counting.{nodes-to_fault}

-- ---- concatenated lists

whole-append : (xs ys : List Item) → is_whole xs ≡ true → is_whole (xs ++ ys) ≡ is_whole ys
whole-append [] ys whole = refl
whole-append (Ok p ∷ xs) ys whole = whole-append xs ys whole
whole-append (Err broken ∷ xs) ys whole = absurd cc

nodes-append : (xs ys : List Item) → is_whole xs ≡ true → nodes_of (xs ++ ys) ≡ nodes_of xs ++ nodes_of ys
nodes-append [] ys whole = refl
nodes-append (Ok p ∷ xs) ys whole = ap (λ (ns : List NodeView). node_of p ∷ ns) (nodes-append xs ys whole)
nodes-append (Err broken ∷ xs) ys whole = absurd cc

broken-append : (xs ys : List Item) → is_whole xs ≡ false → is_whole (xs ++ ys) ≡ false
broken-append [] ys broken = absurd cc
broken-append (Ok p ∷ xs) ys broken = broken-append xs ys broken
broken-append (Err b ∷ xs) ys broken = refl

nodes-broken : (xs ys : List Item) → is_whole xs ≡ false → nodes_of (xs ++ ys) ≡ nodes_of xs
nodes-broken [] ys broken = absurd cc
nodes-broken (Ok p ∷ xs) ys broken = ap (λ (ns : List NodeView). node_of p ∷ ns) (nodes-broken xs ys broken)
nodes-broken (Err b ∷ xs) ys broken = refl

nodes-fewer : (xs ys : List Item) → length (nodes_of xs) ≤ length (nodes_of (xs ++ ys))
nodes-fewer [] ys = omega arith
nodes-fewer (Ok p ∷ xs) ys = omega (arith, nodes-fewer xs ys)
nodes-fewer (Err broken ∷ xs) ys = omega arith

-- ---- slots

module _ {S : Type 0} (seen : S → Option NodeView) where
  -- after a part of all items: `left` are left, n slots are counted, and `new` are the slots
  pub record Putting (start : ℕ) (all : List Item) (old : List S) (n : ℕ) (left : List Item) (new : List S) : Type 0 where
    pub counted : n + length (nodes_of left) ≡ start + length (nodes_of all)
    pub put : filled n (map Some (nodes_of left)) (map seen new) ≡ filled start (map Some (nodes_of all)) (map seen old)
    pub after : drop n new ≡ drop n old
    pub whole : is_whole left ≡ is_whole all

  -- one attribute
  puts-one : (start n : ℕ) (all left inner rest : List Item) (old before new : List S) (p : Placed) (s : S) → Putting start all old n left before
      → left ≡ (Ok p ∷ inner) ++ rest → seen s ≡ Some (node_of p) → new ≡ set before n s → Putting start all old (n + 1) (inner ++ rest) new
  puts-one start n all left inner rest old before new p s so_far first holds is =
      let next : n + 1 ≡ suc n = omega arith in
      let slots : map seen new ≡ set (map seen before) n (Some (node_of p)) =
      ap (λ (xs : List S). map seen xs) is ∙ map-set seen before n s ∙ ap (λ (x : Option NodeView). set (map seen before) n x) holds in
      record {
        counted = omega (arith, rw first at so_far.counted);
        put = rw (next, slots) (rw first at so_far.put);
        after = ap (λ (xs : List S). drop (n + 1) xs) is ∙ drop-set-lt (n + 1) before n s (omega arith) ∙ sym (drop-drop 1 n before)
            ∙ ap (λ (xs : List S). drop 1 xs) so_far.after ∙ drop-drop 1 n old;
        whole = rw first at so_far.whole;
      }

  -- the slots after the written ones stay unchanged
  after-more : (n m k : ℕ) (old before new : List S) → drop n before ≡ drop n old → drop m new ≡ drop m before → m ≡ n + k → drop m new ≡ drop m old
  after-more n m k old before new so_far later passed =
      let more : drop (n + k) before ≡ drop (n + k) old = sym (drop-drop k n before) ∙ ap (λ (xs : List S). drop k xs) so_far ∙ drop-drop k n old in
      later ∙ rw passed more

  -- the attributes nested in it
  puts-inner : (start n m : ℕ) (all inner rest : List Item) (old before new : List S) → Putting start all old n (inner ++ rest) before
      → Puts seen inner n before m new true → Putting start all old m rest new
  puts-inner start n m all inner rest old before new so_far done =
      let nodes : nodes_of (inner ++ rest) ≡ nodes_of inner ++ nodes_of rest = nodes-append inner rest (sym done.all) in
      let counted : length (nodes_of (inner ++ rest)) ≡ length (nodes_of inner) + length (nodes_of rest) =
      ap length nodes ∙ length-append (nodes_of inner) (nodes_of rest) in
      let passed : m ≡ n + length (map {A = NodeView} Some (nodes_of inner)) = done.count ∙ ap (λ (k : ℕ). n + k) (sym (length-map (nodes_of inner) Some)) in
      let put : filled n (map Some (nodes_of (inner ++ rest))) (map seen before) ≡ filled m (map Some (nodes_of rest)) (map seen new) =
      ap (λ (ns : List NodeView). filled n (map Some ns) (map seen before)) nodes
      ∙ ap (λ (xs : List (Option NodeView)). filled n xs (map seen before)) (map-append Some (nodes_of inner) (nodes_of rest))
      ∙ filled-append n (map Some (nodes_of inner)) (map Some (nodes_of rest)) (map seen before) ∙ rw (← passed, ← done.slots) refl in
      record {
        counted = omega (arith, so_far.counted, counted, done.count);
        put = sym put ∙ so_far.put;
        after = after-more n m (length (nodes_of inner)) old before new so_far.after done.after done.count;
        whole = sym (whole-append inner rest (sym done.all)) ∙ so_far.whole;
      }

  -- a malformed frame among those nested in it
  stops-inner : (start n m : ℕ) (all inner rest : List Item) (old before new : List S) → Putting start all old n (inner ++ rest) before
      → Puts seen inner n before m new false → Puts seen all start old m new false
  stops-inner start n m all inner rest old before new so_far done =
      let nodes : nodes_of (inner ++ rest) ≡ nodes_of inner = nodes-broken inner rest (sym done.all) in
      record {
        count = omega (arith, so_far.counted, ap length nodes, done.count);
        slots = done.slots ∙ ap (λ (ns : List NodeView). filled n (map Some ns) (map seen before)) (sym nodes) ∙ so_far.put;
        after = after-more n m (length (nodes_of inner)) old before new so_far.after done.after done.count;
        all = sym (broken-append inner rest (sym done.all)) ∙ so_far.whole;
      }

  -- ---- steps of the loop

  -- an attribute that nests none
  pub puts-leaf : (start n : ℕ) (all left inner rest : List Item) (old before new : List S) (p : Placed) (s : S) → Putting start all old n left before
      → left ≡ (Ok p ∷ inner) ++ rest → seen s ≡ Some (node_of p) → new ≡ set before n s → inner ≡ [] → Putting start all old (n + 1) rest new
  puts-leaf start n all left inner rest old before new p s so_far first holds is none =
      rw none at (puts-one start n all left inner rest old before new p s so_far first holds is)

  -- an attribute that nests others
  pub puts-list : (start n m : ℕ) (all left inner list rest : List Item) (old before new after : List S) (p : Placed) (s : S)
      → Putting start all old n left before → left ≡ (Ok p ∷ inner) ++ rest → seen s ≡ Some (node_of p) → new ≡ set before n s → inner ≡ list
      → Puts seen list (n + 1) new m after true → Putting start all old m rest after
  puts-list start n m all left inner list rest old before new after p s so_far first holds is same done =
      puts-inner start (n + 1) m all list rest old new after (rw same at (puts-one start n all left inner rest old before new p s so_far first holds is)) done

  -- one that nests a malformed frame
  pub stops : (start n m : ℕ) (all left inner list rest : List Item) (old before new after : List S) (p : Placed) (s : S)
      → Putting start all old n left before → left ≡ (Ok p ∷ inner) ++ rest → seen s ≡ Some (node_of p) → new ≡ set before n s → inner ≡ list
      → Puts seen list (n + 1) new m after false → Puts seen all start old m after false
  stops start n m all left inner list rest old before new after p s so_far first holds is same done =
      stops-inner start (n + 1) m all list rest old new after (rw same at (puts-one start n all left inner rest old before new p s so_far first holds is)) done

  -- the count is within the number of attributes
  pub room : (start n most : ℕ) (all left inner list rest : List Item) (old before : List S) (p : Placed) → Putting start all old n left before
      → left ≡ (Ok p ∷ inner) ++ rest → inner ≡ list → start + length (nodes_of all) < most → n + 1 + length (nodes_of list) < most
  room start n most all left inner list rest old before p so_far first same few =
      omega (arith, rw (first, same) at so_far.counted, few, nodes-fewer list rest)

  -- no item is left
  pub ends : (start n : ℕ) (all left : List Item) (old new : List S) → Putting start all old n left new → left ≡ [] → Puts seen all start old n new true
  ends start n all left old new so_far none =
      record {
        count = omega (arith, rw none at so_far.counted);
        slots = rw none at so_far.put;
        after = so_far.after;
        all = rw none at so_far.whole;
      }

  -- ---- the attributes of a message

  put-nodes : (items : List Item) (nodes : List NodeView) → nodes_of (to_fault items) ≡ nodes → nodes_of items ≡ nodes
  put-nodes items nodes is = sym (nodes-to_fault items) ∙ is

  pub put-count : (items : List Item) (nodes : List NodeView) (old : List S) (n : ℕ) (new : List S) (whole : Bool) → Puts seen items 0 old n new whole
      → nodes_of (to_fault items) ≡ nodes → n ≡ length nodes
  put-count items nodes old n new whole put is = omega (arith, put.count, ap length (put-nodes items nodes is))

  pub put-slots : (items : List Item) (nodes : List NodeView) (old : List S) (n : ℕ) (new : List S) (whole : Bool) → Puts seen items 0 old n new whole
      → nodes_of (to_fault items) ≡ nodes → FillsBy seen nodes old new
  put-slots items nodes old n new whole put is = fills-all seen nodes old new (rw (put-nodes items nodes is) at put.slots)

  pub put-after : (items : List Item) (nodes : List NodeView) (old : List S) (n : ℕ) (new : List S) (whole : Bool) → Puts seen items 0 old n new whole
      → nodes_of (to_fault items) ≡ nodes → KeepsAfter nodes old new
  put-after items nodes old n new whole put is = rw (put-count items nodes old n new whole put is) at put.after
