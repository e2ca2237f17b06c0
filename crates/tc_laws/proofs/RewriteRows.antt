-- Rows of tables that are written and read again.
use Rattle.std.proofs.Common.{◌≡◌, ◌↔◌, ℕ, ◌%◌, ◌≤◌, Bool, true, false, List, [], length, Ok, cond, refl, sym, ap, subst, ◌∙◌, arith}
use Rattle.std.specs.List.{AllByRecursion}
use Rattle.nla_frames.specs.Fault.{Outcome, seen, read_as}
use Rattle.nla_frames.specs.Frame.{Frame, IsWireFrame, type_of}
use Rattle.nla_frames.specs.CanonList.{IsCanonAt}
use Rattle.nla_frames.specs.Codec.{Codec, IsWireValue}
use Rattle.tc_canon.specs.Descriptor.{Kinds, is_known}
use Rattle.tc_meaning.specs.Tree.{Content, Attribute, known, kept, other, number_of}
use Rattle.tc_meaning.specs.Meaning.{short, raw_frames, row_frames, unread_frames, options_frames, every_frame, choose, by_type}
use Rattle.tc_laws.specs.Loose.{Part, parts_in_known}
use Rattle.tc_laws.specs.Norm.{in_known}
use Rattle.tc_meaning.proofs.Outcomes.{seen-ok, ok-seen, ok-same}
use Rattle.tc_meaning.proofs.Rows.{RowLaws}
use Rattle.tc_laws.proofs.TrimLaws.{IsWhole}
use Rattle.tc_laws.proofs.RewriteValues.{RewriteLaws, IsSettledPart}
use Rattle.tc_laws.proofs.RewriteLists.{frame_size}

-- a change and parts of a content, whatever its type
abbrev pub of_row : (Content → Content) → Attribute → Attribute
of_row next = in_known (λ n. next)

abbrev pub row_parts : (Content → List Part) → Attribute → List Part
row_parts parts = parts_in_known (λ n. parts)

pub wire_value : (f : Frame) → IsWireFrame f → IsWireValue f.value
wire_value f w = record { are_bytes = w.bytes; short = w.frame.value }

-- the effect of rewriting on an attribute of a row at the type n
pub record RowRewriteLaws (n : ℕ) (c : Codec Frame Attribute) (next : Content → Content) (parts : Content → List Part) : Type 0 where
  pub settled : (k : List ℕ) (f : Frame) (x : Attribute) → IsWireFrame f → type_of f.word ≡ n → c.read k f ≡ Ok x
      → c.Settled k x ↔ AllByRecursion IsSettledPart (row_parts parts x)
  pub again : (k : List ℕ) (f : Frame) (x : Attribute) → IsWireFrame f → type_of f.word ≡ n → c.read k f ≡ Ok x → c.Fits x
      → c.read k (c.write x) ≡ Ok (of_row next x)
  -- what was read is written under the same type
  pub under : (k : List ℕ) (f : Frame) (x : Attribute) → type_of f.word ≡ n → c.read k f ≡ Ok x → type_of (c.write x).word ≡ n
  pub typed : (x : Attribute) → c.Typed x → c.Typed (of_row next x)
  pub fits : (x : Attribute) → c.Fits x → c.Fits (of_row next x)
  pub smaller : (x : Attribute) → frame_size (c.write (of_row next x)) ≤ frame_size (c.write x)
  pub same : (x : Attribute) → c.Typed x → c.Fits x → c.write (of_row next x) ≡ c.write x → AllByRecursion IsWhole (row_parts parts x)
  pub whole : (x : Attribute) → AllByRecursion IsWhole (row_parts parts x) → c.write (of_row next x) ≡ c.write x

-- ---- kept raw

pub raw_next : (n : ℕ) → RowRewriteLaws n raw_frames (λ x. x) (λ x. [])
raw_next n = record {
  settled = settled_raw;
  again = again_raw;
  under = under_raw;
  typed = typed_raw;
  fits = fits_raw;
  smaller = smaller_raw;
  same = same_raw;
  whole = whole_raw;
}
  where
    settled_raw : (k : List ℕ) (f : Frame) (x : Attribute) → IsWireFrame f → type_of f.word ≡ n → read_as (other f.word f.value) ≡ Ok x
        → Unit {0} ↔ AllByRecursion IsSettledPart (row_parts (λ y. []) x)
    settled_raw k f x w at e = subst (λ (y : Attribute). Unit {0} ↔ AllByRecursion IsSettledPart (row_parts (λ z. []) y)) (ok-same (other f.word f.value) x e)
        (λ s. tt, λ s. tt)

    again_raw : (k : List ℕ) (f : Frame) (x : Attribute) → IsWireFrame f → type_of f.word ≡ n → read_as (other f.word f.value) ≡ Ok x → raw_frames.Fits x
        → raw_frames.read k (raw_frames.write x) ≡ Ok (of_row (λ y. y) x)
    again_raw k f x w at e fits = subst (λ (y : Attribute). raw_frames.read k (raw_frames.write y) ≡ Ok (of_row (λ z. z) y))
        (ok-same (other f.word f.value) x e) refl

    under_raw : (k : List ℕ) (f : Frame) (x : Attribute) → type_of f.word ≡ n → read_as (other f.word f.value) ≡ Ok x → type_of (raw_frames.write x).word ≡ n
    under_raw k f x at e = subst (λ (y : Attribute). type_of (raw_frames.write y).word ≡ n) (ok-same (other f.word f.value) x e) at

    typed_raw : (x : Attribute) → raw_frames.Typed x → raw_frames.Typed (of_row (λ y. y) x)
    typed_raw (known m content) t = t
    typed_raw x t = t

    fits_raw : (x : Attribute) → raw_frames.Fits x → raw_frames.Fits (of_row (λ y. y) x)
    fits_raw (known m content) f = f
    fits_raw x f = f

    smaller_raw : (x : Attribute) → frame_size (raw_frames.write (of_row (λ y. y) x)) ≤ frame_size (raw_frames.write x)
    smaller_raw (known m content) = omega arith
    smaller_raw x = omega arith

    same_raw : (x : Attribute) → raw_frames.Typed x → raw_frames.Fits x → raw_frames.write (of_row (λ y. y) x) ≡ raw_frames.write x
        → AllByRecursion IsWhole (row_parts (λ y. []) x)
    same_raw (known m content) t f s = tt
    same_raw x t f s = tt

    whole_raw : (x : Attribute) → AllByRecursion IsWhole (row_parts (λ y. []) x) → raw_frames.write (of_row (λ y. y) x) ≡ raw_frames.write x
    whole_raw (known m content) all = refl
    whole_raw x all = refl

-- ---- one row

module _ (word n : ℕ) (c : Codec (List ℕ) Content) (next : Content → Content) (parts : Content → List Part)
    (r : RewriteLaws IsWireValue length (short c) next parts) (under : type_of word ≡ n) where
  settled-row : (k : List ℕ) (f : Frame) (x : Attribute) → IsWireFrame f → seen (known n) (c.read k f.value) ≡ Ok x
      → (row_frames word n c).Settled k x ↔ AllByRecursion IsSettledPart (row_parts parts x)
  settled-row k f x w e =
      let q = seen-ok (known n) (c.read k f.value) x e in
      subst (λ (y : Attribute). (row_frames word n c).Settled k y ↔ AllByRecursion IsSettledPart (row_parts parts y)) q.2
      (r.settled k f.value q.0 (wire_value f w) q.1)

  again-row : (k : List ℕ) (f : Frame) (x : Attribute) → IsWireFrame f → seen (known n) (c.read k f.value) ≡ Ok x → (row_frames word n c).Fits x
      → (row_frames word n c).read k ((row_frames word n c).write x) ≡ Ok (of_row next x)
  again-row k f x w e fits =
      let q = seen-ok (known n) (c.read k f.value) x e in
      let fits_there : (row_frames word n c).Fits (known n q.0) = subst (row_frames word n c).Fits (sym q.2) fits in
      subst (λ (y : Attribute). (row_frames word n c).read k ((row_frames word n c).write y) ≡ Ok (of_row next y)) q.2
      (ok-seen (known n) (c.read k (c.write q.0)) (next q.0) (r.again k f.value q.0 (wire_value f w) q.1 fits_there))

  under-row : (k : List ℕ) (f : Frame) (x : Attribute) → seen (known n) (c.read k f.value) ≡ Ok x → type_of ((row_frames word n c).write x).word ≡ n
  under-row k f x e =
      let q = seen-ok (known n) (c.read k f.value) x e in
      subst (λ (y : Attribute). type_of ((row_frames word n c).write y).word ≡ n) q.2 under

  typed-row : (x : Attribute) → (row_frames word n c).Typed x → (row_frames word n c).Typed (of_row next x)
  typed-row (known m content) t = (t.0, r.typed content t.1)
  typed-row x t = t

  fits-row : (x : Attribute) → (row_frames word n c).Fits x → (row_frames word n c).Fits (of_row next x)
  fits-row (known m content) f = r.fits content f
  fits-row x f = f

  smaller-row : (x : Attribute) → frame_size ((row_frames word n c).write (of_row next x)) ≤ frame_size ((row_frames word n c).write x)
  smaller-row (known m content) = r.smaller content
  smaller-row x = omega arith

  same-row : (x : Attribute) → (row_frames word n c).Typed x → (row_frames word n c).Fits x
      → (row_frames word n c).write (of_row next x) ≡ (row_frames word n c).write x → AllByRecursion IsWhole (row_parts parts x)
  same-row (known m content) t f s = r.same content t.1 f (ap (λ (g : Frame). g.value) s)
  same-row x t f s = tt

  whole-row : (x : Attribute) → AllByRecursion IsWhole (row_parts parts x) → (row_frames word n c).write (of_row next x) ≡ (row_frames word n c).write x
  whole-row (known m content) all = ap (λ (v : List ℕ). let g : Frame = record { word = word; value = v } in g) (r.whole content all)
  whole-row x all = refl

  pub row_next : RowRewriteLaws n (row_frames word n c) next parts
  row_next = record {
    settled = λ k f x w at e. settled-row k f x w e;
    again = λ k f x w at e fits. again-row k f x w e fits;
    under = λ k f x at e. under-row k f x e;
    typed = typed-row;
    fits = fits-row;
    smaller = smaller-row;
    same = same-row;
    whole = whole-row;
  }

-- ---- a type that is written and never read

pub unread_next : (n : ℕ) (c : Codec (List ℕ) Content) (next : Content → Content) (parts : Content → List Part)
    → RewriteLaws IsWireValue length (short c) next parts → type_of n ≡ n
    → RowRewriteLaws n (unread_frames n c) next parts
unread_next n c next parts r under = record {
  settled = settled_unread;
  again = again_unread;
  under = under_unread;
  typed = row.typed;
  fits = row.fits;
  smaller = row.smaller;
  same = row.same;
  whole = row.whole;
}
  where
    row : RowRewriteLaws n (row_frames n n c) next parts
    row = row_next n n c next parts r under

    settled_unread : (k : List ℕ) (f : Frame) (x : Attribute) → IsWireFrame f → type_of f.word ≡ n → read_as (other f.word f.value) ≡ Ok x
        → (unread_frames n c).Settled k x ↔ AllByRecursion IsSettledPart (row_parts parts x)
    settled_unread k f x w at e = subst (λ (y : Attribute). (unread_frames n c).Settled k y ↔ AllByRecursion IsSettledPart (row_parts parts y))
        (ok-same (other f.word f.value) x e) (λ s. tt, λ s. tt)

    again_unread : (k : List ℕ) (f : Frame) (x : Attribute) → IsWireFrame f → type_of f.word ≡ n → read_as (other f.word f.value) ≡ Ok x
        → (unread_frames n c).Fits x
        → (unread_frames n c).read k ((unread_frames n c).write x) ≡ Ok (of_row next x)
    again_unread k f x w at e fits =
        subst (λ (y : Attribute). (unread_frames n c).read k ((unread_frames n c).write y) ≡ Ok (of_row next y)) (ok-same (other f.word f.value) x e) refl

    under_unread : (k : List ℕ) (f : Frame) (x : Attribute) → type_of f.word ≡ n → read_as (other f.word f.value) ≡ Ok x
        → type_of ((unread_frames n c).write x).word ≡ n
    under_unread k f x at e = subst (λ (y : Attribute). type_of ((unread_frames n c).write y).word ≡ n) (ok-same (other f.word f.value) x e) at

-- ---- a message's options

module _ (n : ℕ) (ks : Kinds) (c : Codec (List ℕ) Content) (next : Content → Content) (parts : Content → List Part)
    (r : RewriteLaws IsWireValue length (short c) next parts) (under : type_of n ≡ n) where
  -- as they are read where it is known whether the kind is
  options_by : Bool → List ℕ → Frame → Outcome Attribute
  options_by b k f = cond b (seen (known n) (c.read k f.value)) (read_as (kept n f.word f.value))

  settled-options : (b : Bool) (k : List ℕ) → is_known ks k ≡ b → (f : Frame) (x : Attribute) → IsWireFrame f → type_of f.word ≡ n → options_by b k f ≡ Ok x
      → (options_frames n ks c).Settled k x ↔ AllByRecursion IsSettledPart (row_parts parts x)
  unfolding options_by
  settled-options true k is f x w at e =
      let q = seen-ok (known n) (c.read k f.value) x e in
      let law = r.settled k f.value q.0 (wire_value f w) q.1 in
      subst (λ (y : Attribute). (options_frames n ks c).Settled k y ↔ AllByRecursion IsSettledPart (row_parts parts y)) q.2
      (λ s. law.0 s.1, λ all. (is, law.1 all))
  settled-options false k is f x w at e =
      subst (λ (y : Attribute). (options_frames n ks c).Settled k y ↔ AllByRecursion IsSettledPart (row_parts parts y)) (ok-same (kept n f.word f.value) x e)
      (λ s. tt, λ all. (is, at))

  again-options : (b : Bool) (k : List ℕ) (f : Frame) (x : Attribute) → IsWireFrame f → options_by b k f ≡ Ok x → (options_frames n ks c).Fits x
      → options_by b k ((options_frames n ks c).write x) ≡ Ok (of_row next x)
  unfolding options_by
  again-options true k f x w e fits = again-row n n c next parts r under k f x w e fits
  again-options false k f x w e fits =
      subst (λ (y : Attribute). read_as (kept n ((options_frames n ks c).write y).word ((options_frames n ks c).write y).value) ≡ Ok (of_row next y))
      (ok-same (kept n f.word f.value) x e) refl

  under-options : (b : Bool) (k : List ℕ) (f : Frame) (x : Attribute) → type_of f.word ≡ n → options_by b k f ≡ Ok x
      → type_of ((options_frames n ks c).write x).word ≡ n
  unfolding options_by
  under-options true k f x at e = under-row n n c next parts r under k f x e
  under-options false k f x at e = subst (λ (y : Attribute). type_of ((options_frames n ks c).write y).word ≡ n) (ok-same (kept n f.word f.value) x e) at

  typed-options : (x : Attribute) → (options_frames n ks c).Typed x → (options_frames n ks c).Typed (of_row next x)
  typed-options (known m content) t = (t.0, r.typed content t.1)
  typed-options x t = t

  same-options : (x : Attribute) → (options_frames n ks c).Typed x → (options_frames n ks c).Fits x
      → (options_frames n ks c).write (of_row next x) ≡ (options_frames n ks c).write x → AllByRecursion IsWhole (row_parts parts x)
  same-options (known m content) t f s = r.same content t.1 f (ap (λ (g : Frame). g.value) s)
  same-options x t f s = tt

  pub options_next : RowRewriteLaws n (options_frames n ks c) next parts
  unfolding options_by
  options_next = record {
    settled = λ k f x w at e. settled-options (is_known ks k) k refl f x w at e;
    again = λ k f x w at e fits. again-options (is_known ks k) k f x w e fits;
    under = λ k f x at e. under-options (is_known ks k) k f x at e;
    typed = typed-options;
    fits = fits-row n n c next parts r under;
    smaller = smaller-row n n c next parts r under;
    same = same-options;
    whole = whole-row n n c next parts r under;
  }

-- ---- one of two rows

pub choose_next : (n : ℕ) (b : Bool) (chosen rest : Codec Frame Attribute) (next next' : Content → Content) (parts parts' : Content → List Part)
    → (b ≡ true → RowRewriteLaws n chosen next parts) → RowRewriteLaws n rest next' parts'
    → RowRewriteLaws n (choose b chosen rest) (λ x. cond b (next x) (next' x)) (λ x. cond b (parts x) (parts' x))
choose_next n true chosen rest next next' parts parts' this that = this refl
choose_next n false chosen rest next next' parts parts' this that = that

-- ---- a table by the types of its frames

module _ (at : ℕ → Codec Frame Attribute) (Canon : ℕ → IsCanonAt) (laws : (n : ℕ) → RowLaws n (at n) (Canon n)) (next : ℕ → Content → Content)
    (parts : ℕ → Content → List Part)
    (rows : (n : ℕ) → RowRewriteLaws n (at n) (next n) (parts n)) where
  same_next : (x : Attribute) → of_row (next (number_of x)) x ≡ in_known next x
  same_next (known n content) = refl
  same_next x = refl

  same_parts : (x : Attribute) → row_parts (parts (number_of x)) x ≡ parts_in_known parts x
  same_parts (known n content) = refl
  same_parts x = refl

  settled-table : (k : List ℕ) (f : Frame) (x : Attribute) → IsWireFrame f → (by_type at).read k f ≡ Ok x
      → (by_type at).Settled k x ↔ AllByRecursion IsSettledPart (parts_in_known parts x)
  settled-table k f x w e =
      let number = (laws (type_of f.word)).numbered k f x refl e in
      let here = (rows (type_of f.word)).settled k f x w refl e in
      subst (λ (ps : List Part). (by_type at).Settled k x ↔ AllByRecursion IsSettledPart ps) (same_parts x)
      (subst (λ (m : ℕ). (at m).Settled k x ↔ AllByRecursion IsSettledPart (row_parts (parts m) x)) (sym number) here)

  again-table : (k : List ℕ) (f : Frame) (x : Attribute) → IsWireFrame f → (by_type at).read k f ≡ Ok x → (by_type at).Fits x
      → (by_type at).read k ((by_type at).write x) ≡ Ok (in_known next x)
  again-table k f x w e fits =
      let n = type_of f.word in
      let row = rows (type_of f.word) in
      let number = (laws (type_of f.word)).numbered k f x refl e in
      let here = row.again k f x w refl e (subst (λ (m : ℕ). (at m).Fits x) number fits) in
      let under = row.under k f x refl e in
      let there = subst (λ (m : ℕ). (at m).read k ((at (type_of f.word)).write x) ≡ Ok (of_row (next (type_of f.word)) x)) (sym under) here in
      subst (λ (m : ℕ). (at (type_of ((at m).write x).word)).read k ((at m).write x) ≡ Ok (of_row (next m) x)) (sym number) there
      ∙ ap (λ (y : Attribute). read_as y) (same_next x)

  typed-table : (x : Attribute) → (by_type at).Typed x → (by_type at).Typed (in_known next x)
  typed-table (known n content) t = (rows n).typed (known n content) t
  typed-table x t = t

  fits-table : (x : Attribute) → (by_type at).Fits x → (by_type at).Fits (in_known next x)
  fits-table (known n content) f = (rows n).fits (known n content) f
  fits-table x f = f

  smaller-table : (x : Attribute) → frame_size ((by_type at).write (in_known next x)) ≤ frame_size ((by_type at).write x)
  smaller-table (known n content) = (rows n).smaller (known n content)
  smaller-table x = omega arith

  same-table : (x : Attribute) → (by_type at).Typed x → (by_type at).Fits x → (by_type at).write (in_known next x) ≡ (by_type at).write x
      → AllByRecursion IsWhole (parts_in_known parts x)
  same-table (known n content) t f s = (rows n).same (known n content) t f s
  same-table x t f s = tt

  whole-table : (x : Attribute) → AllByRecursion IsWhole (parts_in_known parts x) → (by_type at).write (in_known next x) ≡ (by_type at).write x
  whole-table (known n content) all = (rows n).whole (known n content) all
  whole-table x all = refl

  pub by_type_next : RewriteLaws IsWireFrame frame_size (by_type at) (in_known next) (parts_in_known parts)
  by_type_next = record {
    settled = settled-table;
    again = again-table;
    typed = typed-table;
    fits = fits-table;
    smaller = smaller-table;
    same = same-table;
    whole = whole-table;
  }

-- ---- a table whose types all mean the same

module _ (c : Codec (List ℕ) Content) (next : Content → Content) (parts : Content → List Part) (r : RewriteLaws IsWireValue length (short c) next parts) where
  below : (m : ℕ) → m % 0x4000 ≤ 0x3FFF
  below m = omega arith

  twice : (m : ℕ) → m % 0x4000 % 0x4000 ≡ m % 0x4000
  twice m = omega arith

  settled-every : (k : List ℕ) (f : Frame) (x : Attribute) → IsWireFrame f → (every_frame c).read k f ≡ Ok x
      → (every_frame c).Settled k x ↔ AllByRecursion IsSettledPart (row_parts parts x)
  settled-every k f x w e =
      let q = seen-ok (known (type_of f.word)) (c.read k f.value) x e in
      let law = r.settled k f.value q.0 (wire_value f w) q.1 in
      subst (λ (y : Attribute). (every_frame c).Settled k y ↔ AllByRecursion IsSettledPart (row_parts parts y)) q.2
      (λ s. law.0 s.1, λ all. (below f.word, law.1 all))

  again-every : (k : List ℕ) (f : Frame) (x : Attribute) → IsWireFrame f → (every_frame c).read k f ≡ Ok x → (every_frame c).Fits x
      → (every_frame c).read k ((every_frame c).write x) ≡ Ok (of_row next x)
  again-every k f x w e fits =
      let q = seen-ok (known (type_of f.word)) (c.read k f.value) x e in
      let fits_there : (every_frame c).Fits (known (type_of f.word) q.0) = subst (every_frame c).Fits (sym q.2) fits in
      let is_read = r.again k f.value q.0 (wire_value f w) q.1 fits_there in
      subst (λ (y : Attribute). (every_frame c).read k ((every_frame c).write y) ≡ Ok (of_row next y)) q.2
      (ok-seen (known (type_of (type_of f.word))) (c.read k (c.write q.0)) (next q.0) is_read ∙ ap (λ (i : ℕ). read_as (known i (next q.0))) (twice f.word))

  typed-every : (x : Attribute) → (every_frame c).Typed x → (every_frame c).Typed (of_row next x)
  typed-every (known m content) t = (t.0, r.typed content t.1)
  typed-every x t = t

  fits-every : (x : Attribute) → (every_frame c).Fits x → (every_frame c).Fits (of_row next x)
  fits-every (known m content) f = r.fits content f
  fits-every x f = f

  smaller-every : (x : Attribute) → frame_size ((every_frame c).write (of_row next x)) ≤ frame_size ((every_frame c).write x)
  smaller-every (known m content) = r.smaller content
  smaller-every x = omega arith

  same-every : (x : Attribute) → (every_frame c).Typed x → (every_frame c).Fits x → (every_frame c).write (of_row next x) ≡ (every_frame c).write x
      → AllByRecursion IsWhole (row_parts parts x)
  same-every (known m content) t f s = r.same content t.1 f (ap (λ (g : Frame). g.value) s)
  same-every x t f s = tt

  whole-every : (x : Attribute) → AllByRecursion IsWhole (row_parts parts x) → (every_frame c).write (of_row next x) ≡ (every_frame c).write x
  whole-every (known m content) all = ap (λ (v : List ℕ). let g : Frame = record { word = m; value = v } in g) (r.whole content all)
  whole-every x all = refl

  pub every_next : RewriteLaws IsWireFrame frame_size (every_frame c) (of_row next) (row_parts parts)
  every_next = record {
    settled = settled-every;
    again = again-every;
    typed = typed-every;
    fits = fits-every;
    smaller = smaller-every;
    same = same-every;
    whole = whole-every;
  }
