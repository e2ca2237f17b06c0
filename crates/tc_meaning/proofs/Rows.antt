-- The laws of a table's rows at one type, and of a table by the types of its frames.
use Rattle.std.proofs.Common.{◌≡◌, ◌⊎◌, ◌↔◌, ℕ, ◌%◌, ◌^◌, ◌<◌, ◌≤◌, Bool, true, false, List, Ok, refl, sym, ap, ap₂, subst, ◌∙◌, arith, cond, inl, inr}
use Rattle.std.specs.Prelude.{MatchBool}
use Rattle.std.proofs.lemmas.Bool.{cases_eq}
use Rattle.nla_frames.specs.Fault.{Outcome, seen, read_as}
use Rattle.nla_frames.specs.Value.{IsBytes}
use Rattle.nla_frames.specs.Frame.{Frame, IsWireFrame, type_of}
use Rattle.nla_frames.specs.CanonList.{IsCanonAt}
use Rattle.nla_frames.specs.Codec.{Codec, Laws, IsWireValue}
use Rattle.tc_canon.specs.Descriptor.{Kinds, is_known}
use Rattle.tc_meaning.specs.Tree.{Content, Attribute, known, kept, other, of_kind, number_of}
use Rattle.tc_meaning.specs.Meaning.{short, raw_frames, row_frames, unread_frames, options_frames, every_frame, choose, by_type, raw_frame, IsShort}
use Rattle.tc_meaning.proofs.Outcomes.{seen-ok, ok-seen, ok-same}

-- the laws of a row's codec at the type n
pub record RowLaws (n : ℕ) (c : Codec Frame Attribute) (Canon : IsCanonAt) : Type 0 where
  pub makes : (x : Attribute) → c.Typed x → number_of x ≡ n → c.Fits x → IsWireFrame (c.write x)
  pub typed : (k : List ℕ) (f : Frame) (x : Attribute) → IsWireFrame f → type_of f.word ≡ n → c.read k f ≡ Ok x → c.Typed x
  -- an attribute that was read has the type of its frame
  pub numbered : (k : List ℕ) (f : Frame) (x : Attribute) → type_of f.word ≡ n → c.read k f ≡ Ok x → number_of x ≡ n
  pub back : (k : List ℕ) (x : Attribute) → c.Typed x → number_of x ≡ n → c.Fits x → type_of (c.write x).word ≡ n
      → (c.read k (c.write x) ≡ Ok x) ↔ c.Settled k x
  -- what is written under another type isn't settled
  pub away : (k : List ℕ) (x : Attribute) → c.Typed x → number_of x ≡ n → (type_of (c.write x).word ≡ n → ⊥) → c.Settled k x → ⊥
  pub same : (k : List ℕ) (f : Frame) (x : Attribute) → IsWireFrame f → type_of f.word ≡ n → c.read k f ≡ Ok x → c.Fits x → (c.write x ≡ f) ↔ Canon k f
  pub reads : (k : List ℕ) (f : Frame) → IsWireFrame f → type_of f.word ≡ n → Canon k f → (x : Attribute) × (c.read k f ≡ Ok x) × c.Fits x

-- a frame by its parts
same_frame : (f : Frame) (word : ℕ) (value : List ℕ) → word ≡ f.word → value ≡ f.value → record { word = word; value = value } ≡ f
same_frame f word value p q = ap₂ (λ (a : ℕ) (b : List ℕ). let g : Frame = record { word = a; value = b } in g) p q

-- a word in range and a short value
wire_raw : (word : ℕ) (value : List ℕ) → word < 2 ^ 16 → IsBytes value → IsShort value → IsWireFrame (record { word = word; value = value })
wire_raw word value small bytes short = record { frame = record { word = small; value = short }; bytes = bytes }

wire_value : (f : Frame) → IsWireFrame f → IsWireValue f.value
wire_value f w = record { are_bytes = w.bytes; short = w.frame.value }

-- every type kept raw
pub raw_rows : (n : ℕ) (Canon : IsCanonAt) → ((k : List ℕ) (f : Frame) → Canon k f) → RowLaws n raw_frames Canon
raw_rows n Canon all = record {
  makes = makes_raw;
  typed = typed_raw;
  numbered = numbered_raw;
  back = back_raw;
  away = away_raw;
  same = same_raw;
  reads =
      λ k f w at c. (other f.word f.value, refl, w.frame.value);
}
  where
    makes_raw : (x : Attribute) → raw_frames.Typed x → number_of x ≡ n → raw_frames.Fits x → IsWireFrame (raw_frame x)
    makes_raw (other word value) t at f = wire_raw word value t.0 t.1 f
    makes_raw x t at f = elim t [ ]

    typed_raw : (k : List ℕ) (f : Frame) (x : Attribute) → IsWireFrame f → type_of f.word ≡ n → read_as (other f.word f.value) ≡ Ok x → raw_frames.Typed x
    typed_raw k f x w at e = subst raw_frames.Typed (ok-same (other f.word f.value) x e) (w.frame.word, w.bytes)

    numbered_raw : (k : List ℕ) (f : Frame) (x : Attribute) → type_of f.word ≡ n → read_as (other f.word f.value) ≡ Ok x → number_of x ≡ n
    numbered_raw k f x at e = subst (λ (y : Attribute). number_of y ≡ n) (ok-same (other f.word f.value) x e) at

    back_raw : (k : List ℕ) (x : Attribute) → raw_frames.Typed x → number_of x ≡ n → raw_frames.Fits x → type_of (raw_frame x).word ≡ n
        → (read_as (other (raw_frame x).word (raw_frame x).value) ≡ Ok x) ↔ Unit {0}
    back_raw k (other word value) t at f under = (λ e. tt, λ s. refl)
    back_raw k x t at f under = elim t [ ]

    away_raw : (k : List ℕ) (x : Attribute) → raw_frames.Typed x → number_of x ≡ n → (type_of (raw_frame x).word ≡ n → ⊥) → Unit {0} → ⊥
    away_raw k (other word value) t at far s = far at
    away_raw k x t at far s = elim t [ ]

    same_raw : (k : List ℕ) (f : Frame) (x : Attribute) → IsWireFrame f → type_of f.word ≡ n → read_as (other f.word f.value) ≡ Ok x → raw_frames.Fits x
        → (raw_frame x ≡ f) ↔ Canon k f
    same_raw k f x w at e fits = (λ s. all k f, λ c. ap raw_frame (sym (ok-same (other f.word f.value) x e)))

-- a row: one type with its word and its class
module _ (word n : ℕ) (c : Codec (List ℕ) Content) (Canon : List ℕ → List ℕ → Type 0) (laws : Laws IsWireValue (short c) Canon) (small : word < 2 ^ 16)
    (under : type_of word ≡ n) where
  pub makes-row : (x : Attribute) → (row_frames word n c).Typed x → (row_frames word n c).Fits x → IsWireFrame ((row_frames word n c).write x)
  makes-row (known m content) t f = let w = laws.makes content t.1 f in wire_raw word (c.write content) small w.are_bytes w.short
  makes-row (other word' value) t f = wire_raw word' value t.0 t.1 f
  makes-row (kept m word' value) t f = elim t [ ]
  makes-row (of_kind name x) t f = elim t [ ]

  typed-row : (k : List ℕ) (f : Frame) (x : Attribute) → IsWireFrame f → seen (known n) (c.read k f.value) ≡ Ok x → (row_frames word n c).Typed x
  typed-row k f x w e =
      let r = seen-ok (known n) (c.read k f.value) x e in
      subst (row_frames word n c).Typed r.2 (refl, laws.typed k f.value r.0 (wire_value f w) r.1)

  numbered-row : (k : List ℕ) (f : Frame) (x : Attribute) → seen (known n) (c.read k f.value) ≡ Ok x → number_of x ≡ n
  numbered-row k f x e =
      let r = seen-ok (known n) (c.read k f.value) x e in
      subst (λ (y : Attribute). number_of y ≡ n) r.2 refl

  back-row : (k : List ℕ) (x : Attribute) → (row_frames word n c).Typed x → (row_frames word n c).Fits x
      → ((row_frames word n c).read k ((row_frames word n c).write x) ≡ Ok x) ↔ (row_frames word n c).Settled k x
  back-row k (known m content) t f = (from, to)
    where
      from : seen (known n) (c.read k (c.write content)) ≡ Ok (known m content) → c.Settled k content
      from e =
          let r = seen-ok (known n) (c.read k (c.write content)) (known m content) e in
          let same : r.0 ≡ content = cc r.2 in
          (laws.back k content t.1 f).0 (r.1 ∙ ap (λ (y : Content). read_as y) same)

      to : c.Settled k content → seen (known n) (c.read k (c.write content)) ≡ Ok (known m content)
      to s = ok-seen (known n) (c.read k (c.write content)) content ((laws.back k content t.1 f).1 s) ∙ ap (λ (i : ℕ). read_as (known i content)) (sym t.0)
  back-row k (other word' value) t f = (λ e. let r = seen-ok (known n) (c.read k value) (other word' value) e in absurd (cc r.2), λ s. elim s [ ])
  back-row k (kept m word' value) t f = elim t [ ]
  back-row k (of_kind name x) t f = elim t [ ]

  away-row : (k : List ℕ) (x : Attribute) → (row_frames word n c).Typed x → (type_of ((row_frames word n c).write x).word ≡ n → ⊥)
      → (row_frames word n c).Settled k x → ⊥
  away-row k (known m content) t far s = far under
  away-row k (other word' value) t far s = s
  away-row k (kept m word' value) t far s = s
  away-row k (of_kind name x) t far s = s

  same-row : (k : List ℕ) (f : Frame) (x : Attribute) → IsWireFrame f → seen (known n) (c.read k f.value) ≡ Ok x → (row_frames word n c).Fits x
      → ((row_frames word n c).write x ≡ f) ↔ ((f.word ≡ word) × Canon k f.value)
  same-row k f x w e fits = go x (seen-ok (known n) (c.read k f.value) x e) fits
    where
      go : (x : Attribute) → (content : Content) × (c.read k f.value ≡ Ok content) × (known n content ≡ x) → (row_frames word n c).Fits x
          → ((row_frames word n c).write x ≡ f) ↔ ((f.word ≡ word) × Canon k f.value)
      go (known m content) r fits =
          let same : r.0 ≡ content = cc r.2 in
          let is_read : c.read k f.value ≡ Ok content = r.1 ∙ ap (λ (y : Content). read_as y) same in
          let law = laws.same k f.value content (wire_value f w) is_read fits in (
            (λ s. (sym (ap (λ (g : Frame). g.word) s), law.0 (ap (λ (g : Frame). g.value) s))),
            (λ q. same_frame f word (c.write content) (sym q.0) (law.1 q.1)),
          )
      go (other word' value) r fits = absurd (cc r.2)
      go (kept m word' value) r fits = absurd (cc r.2)
      go (of_kind name x) r fits = absurd (cc r.2)

  reads-row : (k : List ℕ) (f : Frame) → IsWireFrame f → Canon k f.value
      → (x : Attribute) × (seen (known n) (c.read k f.value) ≡ Ok x) × (row_frames word n c).Fits x
  reads-row k f w canon =
      let r = laws.reads k f.value (wire_value f w) canon in
      (known n r.0, ok-seen (known n) (c.read k f.value) r.0 r.1, r.2)

  pub row_rows : RowLaws n (row_frames word n c) (λ k f. (f.word ≡ word) × Canon k f.value)
  row_rows = record {
    makes = λ x t at f. makes-row x t f;
    typed = λ k f x w at e. typed-row k f x w e;
    numbered = λ k f x at e. numbered-row k f x e;
    back = λ k x t at f here. back-row k x t f;
    away = λ k x t at far s. away-row k x t far s;
    same = λ k f x w at e fits. same-row k f x w e fits;
    reads = λ k f w at q. reads-row k f w q.1;
  }

-- a type that is written and never read
pub unread_rows : (n : ℕ) (c : Codec (List ℕ) Content) (Canon : List ℕ → List ℕ → Type 0) (Any : IsCanonAt) → Laws IsWireValue (short c) Canon → n < 2 ^ 16
    → type_of n ≡ n
    → ((k : List ℕ) (f : Frame) → Any k f) → RowLaws n (unread_frames n c) Any
unread_rows n c Canon Any laws small under all = record {
  makes = λ x t at f. makes-row n n c Canon laws small under x t f;
  typed = λ k f x w at e. subst (unread_frames n c).Typed (ok-same (other f.word f.value) x e) (w.frame.word, w.bytes);
  numbered = λ k f x at e. subst (λ (y : Attribute). number_of y ≡ n) (ok-same (other f.word f.value) x e) at;
  back = λ k x t at f here. back_unread k x t;
  away = λ k x t at far s. away_unread k x at far s;
  same = λ k f x w at e fits. (λ s. all k f, λ q. ap (unread_frames n c).write (sym (ok-same (other f.word f.value) x e)));
  reads = λ k f w at q. (other f.word f.value, refl, w.frame.value);
}
  where
    back_unread : (k : List ℕ) (x : Attribute) → (unread_frames n c).Typed x
        → ((unread_frames n c).read k ((unread_frames n c).write x) ≡ Ok x) ↔ (unread_frames n c).Settled k x
    back_unread k (known m content) t = (λ e. absurd cc, λ s. elim s [ ])
    back_unread k (other word value) t = (λ e. tt, λ s. refl)
    back_unread k (kept m word value) t = elim t [ ]
    back_unread k (of_kind name x) t = elim t [ ]

    away_unread : (k : List ℕ) (x : Attribute) → number_of x ≡ n → (type_of ((unread_frames n c).write x).word ≡ n → ⊥) → (unread_frames n c).Settled k x → ⊥
    away_unread k (other word value) at far s = far at
    away_unread k (known m content) at far s = s
    away_unread k (kept m word value) at far s = s
    away_unread k (of_kind name x) at far s = s

-- a message's options
module _ (n : ℕ) (ks : Kinds) (c : Codec (List ℕ) Content) (Canon : List ℕ → List ℕ → Type 0) (laws : Laws IsWireValue (short c) Canon) (small : n < 2 ^ 16)
    (under : type_of n ≡ n) where
  -- as they are read where it is known whether the kind is
  options_by : Bool → List ℕ → Frame → Outcome Attribute
  options_by b k f = cond b (seen (known n) (c.read k f.value)) (read_as (kept n f.word f.value))

  makes-options : (x : Attribute) → (options_frames n ks c).Typed x → (options_frames n ks c).Fits x → IsWireFrame ((options_frames n ks c).write x)
  makes-options (kept m word value) t f = wire_raw word value t.1.0 t.1.1 f
  makes-options (known m content) t f = makes-row n n c Canon laws small under (known m content) t f
  makes-options (other word value) t f = wire_raw word value t.0 t.1 f
  makes-options (of_kind name x) t f = elim t [ ]

  -- what is typed in a row is typed among options
  typed_row-options : (x : Attribute) → (row_frames n n c).Typed x → (options_frames n ks c).Typed x
  typed_row-options (known m content) t = t
  typed_row-options (other word value) t = t
  typed_row-options (kept m word value) t = elim t [ ]
  typed_row-options (of_kind name x) t = elim t [ ]

  typed-options : (b : Bool) (k : List ℕ) (f : Frame) (x : Attribute) → IsWireFrame f → options_by b k f ≡ Ok x → (options_frames n ks c).Typed x
  unfolding options_by
  typed-options true k f x w e = typed_row-options x (typed-row n n c Canon laws small under k f x w e)
  typed-options false k f x w e = subst (options_frames n ks c).Typed (ok-same (kept n f.word f.value) x e) (refl, (w.frame.word, w.bytes))

  numbered-options : (b : Bool) (k : List ℕ) (f : Frame) (x : Attribute) → options_by b k f ≡ Ok x → number_of x ≡ n
  unfolding options_by
  numbered-options true k f x e = numbered-row n n c Canon laws small under k f x e
  numbered-options false k f x e = subst (λ (y : Attribute). number_of y ≡ n) (ok-same (kept n f.word f.value) x e) refl

  back-options : (b : Bool) (k : List ℕ) → is_known ks k ≡ b → (x : Attribute) → (options_frames n ks c).Typed x → (options_frames n ks c).Fits x
      → type_of ((options_frames n ks c).write x).word ≡ n
      → (options_by b k ((options_frames n ks c).write x) ≡ Ok x) ↔ (options_frames n ks c).Settled k x
  unfolding options_by
  back-options true k is (known m content) t f at =
      let law = back-row n n c Canon laws small under k (known m content) t f in
      (λ e. (is, law.0 e), λ s. law.1 s.1)
  back-options false k is (known m content) t f at = (λ e. absurd cc, λ s. let q = s.0 in absurd cc)
  back-options true k is (kept m word value) t f at =
      (λ e. let r = seen-ok (known n) (c.read k value) (kept m word value) e in absurd (cc r.2), λ s. let q = s.0 in absurd cc)
  back-options false k is (kept m word value) t f at = (λ e. (is, at), λ s. ap (λ (i : ℕ). read_as (kept i word value)) (sym t.0))
  back-options true k is (other word value) t f at =
      (λ e. let r = seen-ok (known n) (c.read k value) (other word value) e in absurd (cc r.2), λ s. elim s [ ])
  back-options false k is (other word value) t f at = (λ e. absurd cc, λ s. elim s [ ])
  back-options b k is (of_kind name x) t f at = elim t [ ]

  away-options : (k : List ℕ) (x : Attribute) → (options_frames n ks c).Typed x → (type_of ((options_frames n ks c).write x).word ≡ n → ⊥)
      → (options_frames n ks c).Settled k x → ⊥
  away-options k (known m content) t far s = far under
  away-options k (kept m word value) t far s = far s.1
  away-options k (other word value) t far s = s
  away-options k (of_kind name x) t far s = s

  same-options : (b : Bool) (k : List ℕ) (f : Frame) (x : Attribute) → IsWireFrame f → options_by b k f ≡ Ok x → (options_frames n ks c).Fits x
      → ((options_frames n ks c).write x ≡ f) ↔ MatchBool b ((f.word ≡ n) × Canon k f.value) (Unit {0})
  unfolding options_by
  same-options true k f x w e fits = same-row n n c Canon laws small under k f x w e fits
  same-options false k f x w e fits = (λ s. tt, λ q. ap (options_frames n ks c).write (sym (ok-same (kept n f.word f.value) x e)))

  reads-options : (b : Bool) (k : List ℕ) (f : Frame) → IsWireFrame f → MatchBool b ((f.word ≡ n) × Canon k f.value) (Unit {0})
      → (x : Attribute) × (options_by b k f ≡ Ok x) × (options_frames n ks c).Fits x
  unfolding options_by
  reads-options true k f w q = reads-row n n c Canon laws small under k f w q.1
  reads-options false k f w q = (kept n f.word f.value, refl, w.frame.value)

  pub options_rows : RowLaws n (options_frames n ks c) (λ k f. MatchBool (is_known ks k) ((f.word ≡ n) × Canon k f.value) (Unit {0}))
  unfolding options_by
  options_rows = record {
    makes = λ x t at f. makes-options x t f;
    typed = λ k f x w at e. typed-options (is_known ks k) k f x w e;
    numbered = λ k f x at e. numbered-options (is_known ks k) k f x e;
    back = λ k x t at f here. back-options (is_known ks k) k refl x t f here;
    away = λ k x t at far s. away-options k x t far s;
    same = λ k f x w at e fits. same-options (is_known ks k) k f x w e fits;
    reads = λ k f w at q. reads-options (is_known ks k) k f w q;
  }

-- one of two rows
pub choose_rows : (n : ℕ) (b : Bool) (chosen rest : Codec Frame Attribute) (A B : IsCanonAt) → (b ≡ true → RowLaws n chosen A) → (b ≡ false → RowLaws n rest B)
    → RowLaws n (choose b chosen rest) (λ k f. MatchBool b (A k f) (B k f))
choose_rows n true chosen rest A B this that = this refl
choose_rows n false chosen rest A B this that = that refl

-- the same where both have one canonical form
pub choose_same : (n : ℕ) (b : Bool) (chosen rest : Codec Frame Attribute) (A : IsCanonAt) → (b ≡ true → RowLaws n chosen A) → (b ≡ false → RowLaws n rest A)
    → RowLaws n (choose b chosen rest) A
choose_same n true chosen rest A this that = this refl
choose_same n false chosen rest A this that = that refl

-- a table by the types of its frames
pub by_type_laws : (at : ℕ → Codec Frame Attribute) (Canon : ℕ → IsCanonAt) → ((n : ℕ) → RowLaws n (at n) (Canon n))
    → Laws IsWireFrame (by_type at) (λ k f. Canon (type_of f.word) k f)
by_type_laws at Canon rows = record { makes = makes_table; typed = typed_table; back = back_table; same = same_table; reads = reads_table }
  where
    makes_table : (x : Attribute) → (by_type at).Typed x → (by_type at).Fits x → IsWireFrame ((by_type at).write x)
    makes_table x t f = (rows (number_of x)).makes x t refl f

    typed_table : (k : List ℕ) (f : Frame) (x : Attribute) → IsWireFrame f → (by_type at).read k f ≡ Ok x → (by_type at).Typed x
    typed_table k f x w e =
        let row = rows (type_of f.word) in
        subst (λ (m : ℕ). (at m).Typed x) (sym (row.numbered k f x refl e)) (row.typed k f x w refl e)

    back_table : (k : List ℕ) (x : Attribute) → (by_type at).Typed x → (by_type at).Fits x
        → ((by_type at).read k ((by_type at).write x) ≡ Ok x) ↔ (by_type at).Settled k x
    back_table k x t f = go (type_of ((at (number_of x)).write x).word) refl (cases_eq (type_of ((at (number_of x)).write x).word) (number_of x))
      where
        row : RowLaws (number_of x) (at (number_of x)) (Canon (number_of x))
        row = rows (number_of x)

        go : (m : ℕ) → type_of ((at (number_of x)).write x).word ≡ m → (m ≡ number_of x) ⊎ (m ≡ number_of x → ⊥)
            → ((at m).read k ((at (number_of x)).write x) ≡ Ok x) ↔ (at (number_of x)).Settled k x
        go m is (inl same) =
            subst (λ (i : ℕ). ((at i).read k ((at (number_of x)).write x) ≡ Ok x) ↔ (at (number_of x)).Settled k x) (sym same)
            (row.back k x t refl f (is ∙ same))
        go m is (inr far) = (
          (λ e. absurd (far (sym ((rows m).numbered k ((at (number_of x)).write x) x is e)))),
          (λ s. absurd (row.away k x t refl (λ here. far (sym is ∙ here)) s)),
        )

    same_table : (k : List ℕ) (f : Frame) (x : Attribute) → IsWireFrame f → (by_type at).read k f ≡ Ok x → (by_type at).Fits x
        → ((by_type at).write x ≡ f) ↔ Canon (type_of f.word) k f
    same_table k f x w e fits =
        let row = rows (type_of f.word) in
        let number = row.numbered k f x refl e in
        subst (λ (m : ℕ). ((at m).write x ≡ f) ↔ Canon (type_of f.word) k f) (sym number)
        (row.same k f x w refl e (subst (λ (m : ℕ). (at m).Fits x) number fits))

    reads_table : (k : List ℕ) (f : Frame) → IsWireFrame f → Canon (type_of f.word) k f → (x : Attribute) × ((by_type at).read k f ≡ Ok x) × (by_type at).Fits x
    reads_table k f w canon =
        let row = rows (type_of f.word) in
        let r = row.reads k f w refl canon in
        (r.0, r.1, subst (λ (m : ℕ). (at m).Fits r.0) (sym (row.numbered k f r.0 refl r.1)) r.2)

-- a table whose types all mean the same
module _ (c : Codec (List ℕ) Content) (Canon : List ℕ → List ℕ → Type 0) (laws : Laws IsWireValue (short c) Canon) where
  makes-every : (x : Attribute) → (every_frame c).Typed x → (every_frame c).Fits x → IsWireFrame ((every_frame c).write x)
  makes-every (known word content) t f = let w = laws.makes content t.1 f in wire_raw word (c.write content) t.0 w.are_bytes w.short
  makes-every x t f = elim t [ ]

  back-every : (k : List ℕ) (x : Attribute) → (every_frame c).Typed x → (every_frame c).Fits x
      → ((every_frame c).read k ((every_frame c).write x) ≡ Ok x) ↔ (every_frame c).Settled k x
  back-every k (known word content) t f = (from, to)
    where
      from : seen (known (type_of word)) (c.read k (c.write content)) ≡ Ok (known word content) → (word ≤ 0x3FFF) × c.Settled k content
      from e =
          let r = seen-ok (known (type_of word)) (c.read k (c.write content)) (known word content) e in
          let number : type_of word ≡ word = cc r.2 in
          let same : r.0 ≡ content = cc r.2 in
          (below word number, (laws.back k content t.1 f).0 (r.1 ∙ ap (λ (y : Content). read_as y) same))
        where
          below : (m : ℕ) → m % 0x4000 ≡ m → m ≤ 0x3FFF
          below m e = omega arith

      to : (word ≤ 0x3FFF) × c.Settled k content → seen (known (type_of word)) (c.read k (c.write content)) ≡ Ok (known word content)
      to s =
          let number : type_of word ≡ word = whole word s.0 in
          ok-seen (known (type_of word)) (c.read k (c.write content)) content ((laws.back k content t.1 f).1 s.1)
          ∙ ap (λ (i : ℕ). read_as (known i content)) number
        where
          whole : (m : ℕ) → m ≤ 0x3FFF → m % 0x4000 ≡ m
          whole m e = omega arith
  back-every k x t f = elim t [ ]

  same-every : (k : List ℕ) (f : Frame) (x : Attribute) → IsWireFrame f → (every_frame c).read k f ≡ Ok x → (every_frame c).Fits x
      → ((every_frame c).write x ≡ f) ↔ ((f.word < 0x4000) × Canon k f.value)
  same-every k f x w e fits = go x (seen-ok (known (type_of f.word)) (c.read k f.value) x e) fits
    where
      below : (m : ℕ) → m % 0x4000 < 0x4000
      below m = omega arith

      whole : (m : ℕ) → m < 0x4000 → m % 0x4000 ≡ m
      whole m e = omega arith

      go : (x : Attribute) → (content : Content) × (c.read k f.value ≡ Ok content) × (known (type_of f.word) content ≡ x) → (every_frame c).Fits x
          → ((every_frame c).write x ≡ f) ↔ ((f.word < 0x4000) × Canon k f.value)
      go (known word content) r fits =
          let number : type_of f.word ≡ word = cc r.2 in
          let same : r.0 ≡ content = cc r.2 in
          let is_read : c.read k f.value ≡ Ok content = r.1 ∙ ap (λ (y : Content). read_as y) same in
          let law = laws.same k f.value content (wire_value f w) is_read fits in (
            (λ s. (rw (← ap (λ (g : Frame). g.word) s, ← number) (below f.word), law.0 (ap (λ (g : Frame). g.value) s))),
            (λ q. same_frame f word (c.write content) (sym number ∙ whole f.word q.0) (law.1 q.1)),
          )
      go (other word' value) r fits = absurd (cc r.2)
      go (kept m word' value) r fits = absurd (cc r.2)
      go (of_kind name x) r fits = absurd (cc r.2)

  pub every_laws : Laws IsWireFrame (every_frame c) (λ k f. (f.word < 0x4000) × Canon k f.value)
  every_laws = record { makes = makes-every; typed = typed_every; back = back-every; same = same-every; reads = reads_every }
    where
      below : (m : ℕ) → m < 2 ^ 16 → m % 0x4000 < 2 ^ 16
      below m e = omega arith

      typed_every : (k : List ℕ) (f : Frame) (x : Attribute) → IsWireFrame f → (every_frame c).read k f ≡ Ok x → (every_frame c).Typed x
      typed_every k f x w e =
          let r = seen-ok (known (type_of f.word)) (c.read k f.value) x e in
          subst (every_frame c).Typed r.2 (below f.word w.frame.word, laws.typed k f.value r.0 (wire_value f w) r.1)

      reads_every : (k : List ℕ) (f : Frame) → IsWireFrame f → (f.word < 0x4000) × Canon k f.value
          → (x : Attribute) × ((every_frame c).read k f ≡ Ok x) × (every_frame c).Fits x
      reads_every k f w q =
          let r = laws.reads k f.value (wire_value f w) q.1 in
          (known (type_of f.word) r.0, ok-seen (known (type_of f.word)) (c.read k f.value) r.0 r.1, r.2)
