-- An inserted frame of an unknown type is kept raw, and sets no kind.
use Rattle.std.proofs.Common.{◌≡◌, ℕ, Bool, true, false, List, [], ◌∷◌, ◌++◌, length, None, Ok, refl, sym, ap, subst, ◌∙◌, arith}
use Rattle.std.specs.Prelude.{◌==◌, ◌&&◌, not}
use Rattle.std.proofs.lemmas.Bool.{ne_eqb}
use Rattle.std.proofs.lemmas.List.{length-append, take_at, drop_at}
use Rattle.nla_frames.specs.Frame.{Frame, type_of}
use Rattle.nla_frames.specs.Place.{Sets, kind_then}
use Rattle.nla_frames.specs.Reading.{Reads, keep}
use Rattle.nla_frames.specs.ListGrammar.{ListReads}
use Rattle.nla_frames.proofs.ReadEach.{ReadInTurn}
use Rattle.tc_canon.specs.Descriptor.{Field, Rows, others, types, unread, options, table, is_within}
use Rattle.tc_canon.specs.Layouts.{tc_header, action_message_header, size_of}
use Rattle.tc_canon.specs.Tables.Messages.{attributes, action_message_attributes}
use Rattle.tc_meaning.specs.Tree.{Attribute, other}
use Rattle.tc_meaning.specs.Own.{kind_of_frame}
use Rattle.tc_meaning.specs.Layout.{read_fields}
use Rattle.tc_meaning.specs.Meaning.{table_codec, rows_codec}
use Rattle.tc_meaning.specs.Message.{ReadsWith}
use Rattle.tc_meaning.specs.Whole.{ReadsTc, ReadsAct}
use Rattle.tc_laws.specs.Order.{InFull}
use Rattle.tc_laws.specs.Unknown.{is_outside, put_in, KeepsUnknown}
use Rattle.tc_laws.proofs.FramesInFull.{InFull-append, ReadInTurn-ListReads, ListReads-ReadInTurn}

-- ---- what a type outside the table reads as

-- it isn't the row's type, and no other's
not_here : (here : Bool) (rest : Bool) → (not here && rest) ≡ true → (here ≡ false) × (rest ≡ true)
not_here true rest e = absurd cc
not_here false rest e = (refl, e)

-- a type that no row has reads as `Other`
outside_reads : (rows : Rows) (n : ℕ) → is_outside n rows ≡ true → (kind : List ℕ) (f : Frame)
    → (rows_codec rows n).read kind f ≡ Ok (other f.word f.value)
outside_reads others n out kind f = refl
outside_reads (types first last flags class rows) n out kind f =
    let h = not_here (is_within first last n) (is_outside n rows) out in
    rw (h.0) (outside_reads rows n h.1 kind f)
outside_reads (unread m class rows) n out kind f =
    let h = not_here (n == m) (is_outside n rows) out in
    rw (h.0) (outside_reads rows n h.1 kind f)
outside_reads (options m kinds rows) n out kind f =
    let h = not_here (n == m) (is_outside n rows) out in
    rw (h.0) (outside_reads rows n h.1 kind f)

-- it isn't the type of a kind
outside_not_kind : (n : ℕ) → is_outside n attributes ≡ true → n ≡ 1 → ⊥
outside_not_kind n out is =
    let one : is_outside 1 attributes ≡ true = subst (λ (m : ℕ). is_outside m attributes ≡ true) is out in
    cc

-- it sets no kind
outside_sets : (f : Frame) → is_outside (type_of f.word) attributes ≡ true → kind_of_frame f ≡ None
outside_sets f out = rw (ne_eqb (type_of f.word) 1 (outside_not_kind (type_of f.word) out)) refl

-- ---- lists and messages

module _ {X : Type 0} (reads : Reads X) (sets : Sets Frame) (f : Frame) (x : X) (none : sets f ≡ None) (is_read : (kind : List ℕ) → reads kind f ≡ Ok x) where
  -- frames that are read in turn
  turn-put_in : (fs : List Frame) (kind : List ℕ) (gs : List Frame) (xs : List X) → ReadInTurn reads sets kind (fs ++ gs) xs
      → ReadInTurn reads sets kind (fs ++ f ∷ gs) (put_in (length fs) x xs)
  turn-put_in [] kind gs xs turn = rw none (is_read kind, turn)
  turn-put_in (h ∷ fs) kind gs [] turn = elim turn [ ]
  turn-put_in (h ∷ fs) kind gs (y ∷ xs) turn = (turn.0, turn-put_in fs (kind_then sets kind h) gs xs turn.1)

  -- a list
  list-put_in : (kind front one back : List ℕ) (fs gs : List Frame) → InFull front fs → InFull one (f ∷ []) → InFull back gs → (xs : List X)
      → ListReads reads sets kind (front ++ back) xs → ListReads reads sets kind (front ++ (one ++ back)) (put_in (length fs) x xs)
  list-put_in kind front one back fs gs a b c xs is =
      let turn = ReadInTurn-ListReads reads sets kind (front ++ back) (fs ++ gs) (InFull-append front back fs gs a c) xs is in
      let full = InFull-append front (one ++ back) fs (f ∷ gs) a (InFull-append one back (f ∷ []) gs b c) in
      ListReads-ReadInTurn reads sets kind (front ++ (one ++ back)) (fs ++ f ∷ gs) full (put_in (length fs) x xs) (turn-put_in fs kind gs xs turn)

-- a message whose unknown types set no kind
keeps_unknown : (sets : Sets Frame) (layout : List Field) (rows : Rows) → ((f : Frame) → is_outside (type_of f.word) rows ≡ true → sets f ≡ None)
    → KeepsUnknown (size_of layout) rows (ReadsWith sets layout rows)
keeps_unknown sets layout rows none bytes m reads_as head front one back fs f gs same size a b c out = record {
  long = rw (length-append {A = ℕ}, size) (omega arith);
  header = is.header ∙ ap (read_fields layout) (take_at head (front ++ back) n size ∙ sym (take_at head (front ++ (one ++ back)) n size));
  body = subst (λ (t : List ℕ). ListReads reads sets [] t (put_in (length fs) x m.body)) (sym (drop_at head (front ++ (one ++ back)) n size)) body;
}
  where
    is : ReadsWith sets layout rows (head ++ (front ++ back)) m
    is = subst (λ (t : List ℕ). ReadsWith sets layout rows t m) same reads_as

    n : ℕ
    n = size_of layout

    reads : Reads Attribute
    reads = (table_codec (table rows)).read

    x : Attribute
    x = other f.word f.value

    body : ListReads reads sets [] (front ++ (one ++ back)) (put_in (length fs) x m.body)
    body =
        list-put_in reads sets f x (none f out) (λ kind. outside_reads rows (type_of f.word) out kind f) [] front one back fs gs a b c m.body
        (subst (λ (t : List ℕ). ListReads reads sets [] t m.body) (drop_at head (front ++ back) n size) is.body)

-- a traffic control message
pub tc-keeps_unknown : KeepsUnknown 20 attributes ReadsTc
tc-keeps_unknown = keeps_unknown kind_of_frame tc_header attributes outside_sets

-- an action message
pub act-keeps_unknown : KeepsUnknown 4 action_message_attributes ReadsAct
act-keeps_unknown = keeps_unknown keep action_message_header action_message_attributes (λ f out. refl)
