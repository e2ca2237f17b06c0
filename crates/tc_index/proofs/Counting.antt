-- Bytes have at most one attribute for every four bytes.
use Rattle.std.proofs.Common.{◌≡◌, ℕ, zero, suc, ◌+◌, ◌*◌, ◌<◌, ◌≤◌, List, [], ◌∷◌, ◌++◌, length, take, drop, Option, Some, None, Ok, Err, refl, sym, ap, ◌∙◌, arith}
use Rattle.std.proofs.Common.{zero-add, ◌/◌}
use Rattle.std.proofs.lemmas.List.{length-drop, length-take-le, drop_all}
use Rattle.nla_frames.specs.declared.error.DecodeError.{DecodeError}
use Rattle.nla_frames.specs.Frame.{Frame, type_of, padding, frame_length}
use Rattle.nla_frames.specs.Grammar.{length_at}
use Rattle.nla_frames.specs.Place.{Sets, kind_then}
use Rattle.nla_frames.specs.Reading.{keep}
use Rattle.nla_frames.specs.Cutting.{next_frame, cut, items_of}
use Rattle.nla_frames.proofs.NextFrame.{next_frame-is}
use Rattle.nla_frames.proofs.CutSteps.{by_frames, cut_refused}
use Rattle.nla_frames.proofs.Items.{items-nil, items-next_frame}
use Rattle.tc_canon.specs.Descriptor.{Table, table}
use Rattle.tc_canon.specs.Kind.{kind_of_frame}
use Rattle.tc_canon.specs.Tables.Messages.{attributes, action_message_attributes}
use Rattle.tc_index.specs.Nesting.{class_in, list_in}
use Rattle.tc_index.specs.Attributes.{Item, Yields, each, Walk, within, with_inner, attributes_in, to_fault, message_items, tc_items, action_items}
use Rattle.tc_index.specs.Views.{NodeView, node_of}
use Rattle.tc_index.specs.Nodes.{nodes_of, tc_nodes, action_nodes}

-- the number of attributes among items
abbrev count : List Item → ℕ
count [] = 0
count (Ok p ∷ items) = suc (count items)
count (Err broken ∷ items) = count items

count-append : (xs ys : List Item) → count (xs ++ ys) ≡ count xs + count ys
count-append [] ys = sym (zero-add (count ys))
count-append (Ok p ∷ xs) ys = ap suc (count-append xs ys) ∙ omega arith
count-append (Err broken ∷ xs) ys = count-append xs ys

-- up to the first malformed frame there are at most as many
nodes-count : (items : List Item) → length (nodes_of (to_fault items)) ≤ count items
nodes-count [] = omega arith
nodes-count (Ok p ∷ items) = omega (arith, nodes-count items)
nodes-count (Err broken ∷ items) = omega arith

pub nodes-to_fault : (items : List Item) → nodes_of (to_fault items) ≡ nodes_of items
nodes-to_fault [] = refl
nodes-to_fault (Ok p ∷ items) = ap (λ (nodes : List NodeView). node_of p ∷ nodes) (nodes-to_fault items)
nodes-to_fault (Err broken ∷ items) = refl

-- a frame takes its header and its value
frame-takes : (bytes : List ℕ) (f : Frame) (after : List ℕ) → next_frame bytes ≡ Ok (f, after) → 4 + length f.value + length after ≤ length bytes
frame-takes bytes f after found =
    let next = next_frame-is bytes (f, after) found in
    let l = length_at bytes in
    let value : length (drop 4 (take l bytes)) ≡ length f.value = ap (λ (x : Frame). length x.value) next.frame in
    let rest : length (drop (padding l) (drop l bytes)) ≡ length after = ap length next.rest in
    let front = length-take-le l bytes next.whole in
    let skipped = length-drop (padding l) (drop l bytes) in
    omega (arith, next.whole, next.long, value, rest, front, skipped, length-drop 4 (take l bytes), length-drop l bytes)

-- a list has at most one attribute for every four bytes
abbrev Fewer : Yields → Sets Frame → List ℕ → Type 0
Fewer yields sets bytes = (k : List ℕ) (at : ℕ) → 4 * count (each yields sets k at (items_of (cut bytes))) ≤ length bytes

each-count : (yields : Yields) (sets : Sets Frame) → ((k : List ℕ) (at : ℕ) (f : Frame) → 4 * count (yields k at f) ≤ 4 + length f.value)
    → (bytes : List ℕ) → Fewer yields sets bytes
each-count yields sets few = by_frames (Fewer yields sets) none broken more
  where
    none : Fewer yields sets []
    none k at = rw items-nil (omega arith)

    broken : (bytes : List ℕ) (e : DecodeError) → 0 < length bytes → next_frame bytes ≡ Err e → Fewer yields sets bytes
    broken bytes e some is k at = rw (cut_refused bytes e some is) (omega arith)

    more : (bytes : List ℕ) (f : Frame) (after : List ℕ) → next_frame bytes ≡ Ok (f, after) → Fewer yields sets after → Fewer yields sets bytes
    more bytes f after is later k at =
        let rest = each yields sets (kind_then sets k f) (at + frame_length f) (items_of (cut after)) in
        let taken = frame-takes bytes f after is in
        rw (items-next_frame bytes (f, after) is)
        (omega (arith, count-append (yields k (at + 4) f) rest, few k (at + 4) f, later (kind_then sets k f) (at + frame_length f), taken))

-- an attribute and those nested in it
inner-count : (walk : Walk) → ((t : Table) (k : List ℕ) (depth at : ℕ) (bytes : List ℕ) → 4 * count (walk t k depth at bytes) ≤ length bytes)
    → (t : Table) (depth : ℕ) (k : List ℕ) (at : ℕ) (f : Frame) → 4 * count (with_inner walk t depth k at f) ≤ 4 + length f.value
inner-count walk few t depth k at f = go (list_in (class_in t (type_of f.word) k) k f.value)
  where
    go : (list : Option (Table × List ℕ)) → 4 * suc (count (within walk list (suc depth) at f.value)) ≤ 4 + length f.value
    go None = omega arith
    go (Some list) = omega (arith, few list.0 list.1 (suc depth) at f.value)

-- a list and those in it
list-count : (n : ℕ) (t : Table) (k : List ℕ) (depth at : ℕ) (bytes : List ℕ) → 4 * count (attributes_in n t k depth at bytes) ≤ length bytes
unfolding attributes_in
list-count zero t k depth at bytes = omega arith
list-count (suc n) t k depth at bytes =
    each-count (with_inner (attributes_in n) t depth) keep (λ k at f. inner-count (attributes_in n) (list-count n) t depth k at f) bytes k at

-- a message
pub message-count : (header : ℕ) (t : Table) (sets : Sets Frame) (bytes : List ℕ) → length (nodes_of (message_items 4 header t sets bytes)) ≤ length bytes / 4
message-count header t sets bytes =
    let body = each (with_inner (attributes_in 4) t 0) sets [] header (items_of (cut (drop header bytes))) in
    let few = each-count (with_inner (attributes_in 4) t 0) sets (λ k at f. inner-count (attributes_in 4) (list-count 4) t 0 k at f)
    (drop header bytes) [] header in
    omega (arith, nodes-count body, few, length-drop header bytes)

pub tc-count : (bytes : List ℕ) → length (tc_nodes bytes) ≤ length bytes / 4
unfolding tc_items
tc-count bytes = message-count 20 (table attributes) kind_of_frame bytes

pub action-count : (bytes : List ℕ) → length (action_nodes bytes) ≤ length bytes / 4
unfolding action_items
action-count bytes = message-count 4 (table action_message_attributes) keep bytes

-- bytes shorter than the header
pub no-items : (header : ℕ) (t : Table) (sets : Sets Frame) (bytes : List ℕ) → length bytes < header → message_items 4 header t sets bytes ≡ []
no-items header t sets bytes short = rw (drop_all header bytes (omega arith), items-nil) refl
