-- Lists of frames that are written and read again, from the laws of their elements.
use Rattle.std.proofs.Common.{◌≡◌, ◌↔◌, ℕ, ◌+◌, ◌≤◌, List, [], ◌∷◌, ◌++◌, length, map, Ok, refl, sym, ap, ap₂, subst, ◌∙◌, arith, length-append}
use Rattle.std.specs.List.{flat_map, AllByRecursion}
use Rattle.nla_frames.specs.Frame.{Frame, IsWireFrame, frame_bytes, padding}
use Rattle.nla_frames.specs.Place.{Sets, kind_then}
use Rattle.nla_frames.specs.Reading.{keep, read_list}
use Rattle.nla_frames.specs.Cutting.{Cutting, cut}
use Rattle.nla_frames.specs.Emission.{list_bytes, ListFits}
use Rattle.nla_frames.specs.CanonList.{IsCanonAt}
use Rattle.nla_frames.specs.Codec.{Codec, Laws, IsWireBytes, SettledEach, list_codec}
use Rattle.nla_frames.proofs.CutFrames.{IsWireFrame-cut}
use Rattle.nla_frames.proofs.ReadEach.{ReadInTurn}
use Rattle.nla_frames.proofs.ListLaws.{ReadInTurn-read_list, read_list-ReadInTurn, cut-written, typed-each, kind_then-same}
use Rattle.nla_frames.proofs.FrameBytes.{length_frame_bytes}
use Rattle.tc_meaning.specs.Tree.{Attribute}
use Rattle.tc_meaning.specs.Own.{kind_of_attribute, kind_before, kinds_set, read_own, SettledOwn, own_codec}
use Rattle.tc_laws.specs.Loose.{Part}
use Rattle.tc_meaning.proofs.OwnLaws.{ReadsKinds, read_own-ok, frames-set, read_own-is, settled-all}
use Rattle.tc_laws.proofs.TrimLaws.{IsWhole, all-append, append-all}
use Rattle.tc_laws.proofs.RewriteValues.{RewriteLaws, IsSettledPart}

abbrev pub frame_size : Frame → ℕ
frame_size f = length f.value

-- a shorter value takes no more bytes with its padding
padded-less : (m n : ℕ) → m ≤ n → m + padding m ≤ n + padding n
padded-less m n less = omega arith

-- of both facts the one and the other
both : {P Q A B : Type 0} → P ↔ A → Q ↔ B → (P × Q) ↔ (A × B)
both p q = (λ h. (p.0 h.0, q.0 h.1), λ h. (p.1 h.0, q.1 h.1))

through : {P Q R : Type 0} → P ↔ Q → Q ↔ R → P ↔ R
through p q = (λ h. q.0 (p.0 h), λ h. p.1 (q.1 h))

all-parts : {X : Type 0} (P : X → Type 0) (xs ys : List X) → (AllByRecursion P xs × AllByRecursion P ys) ↔ AllByRecursion P (xs ++ ys)
all-parts P xs ys = (λ h. append-all P xs ys h.0 h.1, λ h. all-append P xs ys h)

module _ {X : Type 0} (c : Codec Frame X) (Canon : IsCanonAt) (laws : Laws IsWireFrame c Canon) (next : X → X) (parts : X → List Part)
    (r : RewriteLaws IsWireFrame frame_size c next parts) where
  typed-next : (xs : List X) → AllByRecursion c.Typed xs → AllByRecursion c.Typed (map next xs)
  typed-next [] t = tt
  typed-next (x ∷ xs) t = (r.typed x t.0, typed-next xs t.1)

  fits-next : (xs : List X) → AllByRecursion c.Fits xs → AllByRecursion c.Fits (map next xs)
  fits-next [] f = tt
  fits-next (x ∷ xs) f = (r.fits x f.0, fits-next xs f.1)

  smaller-next : (xs : List X) → length (list_bytes c.write (map next xs)) ≤ length (list_bytes c.write xs)
  unfolding list_bytes
  smaller-next [] = omega arith
  smaller-next (x ∷ xs) =
      let rest = smaller-next xs in
      let one = padded-less (length (c.write (next x)).value) (length (c.write x).value) (r.smaller x) in
      let a = length-append (frame_bytes (c.write (next x))) (flat_map (λ (y : X). frame_bytes (c.write y)) (map next xs)) in
      let b = length-append (frame_bytes (c.write x)) (flat_map (λ (y : X). frame_bytes (c.write y)) xs) in
      omega (arith, rest, one, a, b, length_frame_bytes (c.write (next x)), length_frame_bytes (c.write x))

  list_fits-next : (xs : List X) → ListFits c.Fits c.write xs → ListFits c.Fits c.write (map next xs)
  list_fits-next xs f = let less = smaller-next xs in record { each = fits-next xs f.each; whole = omega (arith, less, f.whole) }

  whole-next : (xs : List X) → AllByRecursion IsWhole (flat_map parts xs) → list_bytes c.write (map next xs) ≡ list_bytes c.write xs
  unfolding list_bytes
  whole-next [] all = refl
  whole-next (x ∷ xs) all =
      let h = all-append IsWhole (parts x) (flat_map parts xs) all in
      ap₂ (λ (f : Frame) (bytes : List ℕ). frame_bytes f ++ bytes) (r.whole x h.0) (whole-next xs h.1)

  same-each : (xs : List X) → AllByRecursion c.Typed xs → AllByRecursion c.Fits xs → map c.write (map next xs) ≡ map c.write xs
      → AllByRecursion IsWhole (flat_map parts xs)
  same-each [] t f e = tt
  same-each (x ∷ xs) t f e =
      let first : c.write (next x) ≡ c.write x = cc e in
      let rest : map c.write (map next xs) ≡ map c.write xs = cc e in
      append-all IsWhole (parts x) (flat_map parts xs) (r.same x t.0 f.0 first) (same-each xs t.1 f.1 rest)

  same-next : (xs : List X) → AllByRecursion c.Typed xs → ListFits c.Fits c.write xs → list_bytes c.write (map next xs) ≡ list_bytes c.write xs
      → AllByRecursion IsWhole (flat_map parts xs)
  same-next xs t f e =
      let here = cut-written c Canon laws xs t f.each in
      let there = cut-written c Canon laws (map next xs) (typed-next xs t) (fits-next xs f.each) in
      same-each xs t f.each (ap (λ (k : Cutting). k.frames) (sym there ∙ ap cut e ∙ here))

  -- under the kind that is set last before each place
  module _ (by_frame : Sets Frame) (by_value : Sets X)
      (agree : (kind : List ℕ) (f : Frame) (x : X) → IsWireFrame f → c.read kind f ≡ Ok x → by_frame f ≡ by_value x)
      (stays : (x : X) → by_value (next x) ≡ by_value x) where
    settled-each : (kind : List ℕ) (fs : List Frame) (xs : List X) → AllByRecursion IsWireFrame fs → ReadInTurn c.read by_frame kind fs xs
        → SettledEach c.Settled by_value kind xs ↔ AllByRecursion IsSettledPart (flat_map parts xs)
    settled-each kind [] [] wire turn = (λ s. tt, λ s. tt)
    settled-each kind [] (x ∷ xs) wire turn = elim turn [ ]
    settled-each kind (f ∷ fs) [] wire turn = elim turn [ ]
    settled-each kind (f ∷ fs) (x ∷ xs) wire turn =
        let then_same = kind_then-same by_frame by_value kind f x (agree kind f x wire.0 turn.0) in
        let rest = settled-each (kind_then by_frame kind f) fs xs wire.1 turn.1 in
        let rest_there = subst (λ (k : List ℕ). SettledEach c.Settled by_value k xs ↔ AllByRecursion IsSettledPart (flat_map parts xs)) then_same rest in
        through (both (r.settled kind f x wire.0 turn.0) rest_there) (all-parts IsSettledPart (parts x) (flat_map parts xs))

    again-each : (kind : List ℕ) (fs : List Frame) (xs : List X) → AllByRecursion IsWireFrame fs → AllByRecursion c.Typed xs → AllByRecursion c.Fits xs
        → ReadInTurn c.read by_frame kind fs xs
        → ReadInTurn c.read by_frame kind (map c.write xs) (map next xs)
    again-each kind [] [] wire t fits turn = tt
    again-each kind [] (x ∷ xs) wire t fits turn = elim turn [ ]
    again-each kind (f ∷ fs) [] wire t fits turn = elim turn [ ]
    again-each kind (f ∷ fs) (x ∷ xs) wire t fits turn =
        let first = r.again kind f x wire.0 turn.0 fits.0 in
        let here = agree kind f x wire.0 turn.0 in
        let there = agree kind (c.write x) (next x) (laws.makes x t.0 fits.0) first in
        let sets_same : by_frame f ≡ by_frame (c.write x) = here ∙ sym (stays x) ∙ sym there in
        let kinds_same : kind_then by_frame kind f ≡ kind_then by_frame kind (c.write x) = kind_then-same by_frame by_frame kind f (c.write x) sets_same in (
          first,
          subst (λ (k : List ℕ). ReadInTurn c.read by_frame k (map c.write xs) (map next xs)) kinds_same
              (again-each (kind_then by_frame kind f) fs xs wire.1 t.1 fits.1 turn.1),
        )

    again-list : (kind bytes : List ℕ) (xs : List X) → IsWireBytes bytes → read_list c.read by_frame kind bytes ≡ Ok xs → ListFits c.Fits c.write xs
        → read_list c.read by_frame kind (list_bytes c.write xs) ≡ Ok (map next xs)
    again-list kind bytes xs w e f =
        let wire = IsWireFrame-cut bytes w.are_bytes in
        let turn = (ReadInTurn-read_list c.read by_frame kind bytes xs e).1 in
        let t = typed-each c Canon laws by_frame kind (cut bytes).frames xs wire turn in
        read_list-ReadInTurn c.read by_frame kind (list_bytes c.write xs) (map c.write xs) (map next xs) (cut-written c Canon laws xs t f.each)
        (again-each kind (cut bytes).frames xs wire t f.each turn)

    -- the laws of the list
    pub next_list : RewriteLaws IsWireBytes length (list_codec by_frame by_value c) (map next) (flat_map parts)
    next_list = record {
      settled = λ kind bytes xs w e.
          settled-each kind (cut bytes).frames xs (IsWireFrame-cut bytes w.are_bytes) (ReadInTurn-read_list c.read by_frame kind bytes xs e).1;
      again = again-list;
      typed = typed-next;
      fits = list_fits-next;
      smaller = smaller-next;
      same = same-next;
      whole = whole-next;
    }

-- ---- a list that sets its own kind

module _ (c : Codec Frame Attribute) (Canon : IsCanonAt) (laws : Laws IsWireFrame c Canon) (reads_kinds : ReadsKinds c) (next : Attribute → Attribute)
    (parts : Attribute → List Part)
    (r : RewriteLaws IsWireFrame frame_size c next parts) (stays : (x : Attribute) → kind_of_attribute (next x) ≡ kind_of_attribute x) where
  list_laws : RewriteLaws IsWireBytes length (list_codec keep keep c) (map next) (flat_map parts)
  list_laws = next_list c Canon laws next parts r keep keep (λ k f x w e. refl) (λ x. refl)

  -- the same kinds are set
  kinds-next : (xs : List Attribute) → kinds_set kind_of_attribute (map next xs) ≡ kinds_set kind_of_attribute xs
  kinds-next [] = refl
  kinds-next (x ∷ xs) = ap₂ kind_before (stays x) (kinds-next xs)

  settled-own : (k bytes : List ℕ) (xs : List Attribute) → IsWireBytes bytes → read_own c.read bytes ≡ Ok xs
      → SettledOwn c.Settled xs ↔ AllByRecursion IsSettledPart (flat_map parts xs)
  settled-own k bytes xs w e =
      let own = read_own-ok c bytes xs e in
      let same_kinds = sym (frames-set c reads_kinds own.own bytes xs own.is_read) ∙ own.one_kind in
      let law = list_laws.settled own.own bytes xs w own.is_read in
      let each = settled-all c reads_kinds Canon laws own.own xs in (
        (λ s.
            let one : s.0 ∷ [] ≡ own.own ∷ [] = sym s.1 ∙ same_kinds in
            let is : s.0 ≡ own.own = cc one in
            law.0 (each.1 (subst (λ (name : List ℕ). AllByRecursion (c.Settled name) xs) is s.2))),
        (λ all. (own.own, same_kinds, each.0 (law.1 all))),
      )

  again-own : (k bytes : List ℕ) (xs : List Attribute) → IsWireBytes bytes → read_own c.read bytes ≡ Ok xs → ListFits c.Fits c.write xs
      → read_own c.read (list_bytes c.write xs) ≡ Ok (map next xs)
  again-own k bytes xs w e f =
      let own = read_own-ok c bytes xs e in
      let is_read = list_laws.again own.own bytes xs w own.is_read f in
      let same_kinds = frames-set c reads_kinds own.own (list_bytes c.write xs) (map next xs) is_read ∙ kinds-next xs ∙ sym (frames-set c reads_kinds own.own bytes xs own.is_read)
      ∙ own.one_kind in
      read_own-is c reads_kinds own.own (list_bytes c.write xs) (map next xs) is_read same_kinds

  pub next_own : RewriteLaws IsWireBytes length (own_codec c) (map next) (flat_map parts)
  next_own = record {
    settled = settled-own;
    again = again-own;
    typed = list_laws.typed;
    fits = list_laws.fits;
    smaller = list_laws.smaller;
    same = list_laws.same;
    whole = list_laws.whole;
  }
