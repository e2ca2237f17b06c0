-- The laws of a list of frames, from those of its elements.
use Rattle.std.proofs.Common.{◌≡◌, ◌↔◌, ℕ, List, [], ◌∷◌, map, None, Option, Ok, refl, sym, ap, subst, ◌∙◌, unwrap_or}
use Rattle.std.specs.List.{flat_map, AllByRecursion}
use Rattle.std.proofs.lemmas.List.{append-nil}
use Rattle.nla_frames.specs.Frame.{Frame, IsFrame, IsWireFrame, frame_bytes}
use Rattle.nla_frames.specs.Cutting.{Cutting, cut, items_of}
use Rattle.nla_frames.specs.Place.{Sets, kind_then}
use Rattle.nla_frames.specs.Reading.{read_list, read_each, Reads}
use Rattle.nla_frames.specs.Emission.{list_bytes, ListFits}
use Rattle.nla_frames.specs.CanonList.{CanonEach, IsCanonList}
use Rattle.nla_frames.specs.Codec.{Codec, Laws, IsWireBytes, SettledEach, list_codec}
use Rattle.nla_frames.proofs.CutFrames.{IsWireFrame-cut, cut-flat_map, IsBytes-list_bytes, list_bytes-map}
use Rattle.nla_frames.proofs.ReadEach.{ReadInTurn, read_each-ReadInTurn, ReadInTurn-read_each}

-- the kind after two things that set the same
pub kind_then-same : {X Y : Type 0} (f : Sets X) (g : Sets Y) (kind : List ℕ) (x : X) (y : Y) → f x ≡ g y → kind_then f kind x ≡ kind_then g kind y
kind_then-same f g kind x y e = ap (λ (s : Option (List ℕ)). unwrap_or s kind) e

-- frames that are written are frames
pub wire-frames : {X : Type 0} (frame : X → Frame) (xs : List X) → AllByRecursion (λ x. IsWireFrame (frame x)) xs → AllByRecursion IsFrame (map frame xs)
wire-frames frame [] all = tt
wire-frames frame (x ∷ xs) all = (all.0.frame, wire-frames frame xs all.1)

module _ {X : Type 0} (reads : Reads X) (sets : Sets Frame) where
  -- what is read of a list is read of the frames that are cut, all of them
  pub ReadInTurn-read_list : (kind bytes : List ℕ) (xs : List X) → read_list reads sets kind bytes ≡ Ok xs
      → ((cut bytes).fault ≡ None) × ReadInTurn reads sets kind (cut bytes).frames xs
  unfolding read_list
  ReadInTurn-read_list kind bytes xs e = ReadInTurn-read_each reads sets kind (cut bytes).frames (cut bytes).fault xs e

  -- frames that are read, and cut whole, are read as a list
  pub read_list-ReadInTurn : (kind bytes : List ℕ) (fs : List Frame) (xs : List X) → cut bytes ≡ record { frames = fs; fault = None }
      → ReadInTurn reads sets kind fs xs
      → read_list reads sets kind bytes ≡ Ok xs
  unfolding read_list read_each
  read_list-ReadInTurn kind bytes fs xs e turn =
      ap (λ (c : Cutting). read_each reads sets kind (items_of c)) e
      ∙ read_each-ReadInTurn reads sets kind fs xs [] turn
      ∙ ap (λ (ys : List X). Ok ys) (append-nil xs)

module _ {X : Type 0} (c : Codec Frame X) (Canon : List ℕ → Frame → Type 0) (laws : Laws IsWireFrame c Canon) where
  -- what fits is written as frames
  pub makes-each : (xs : List X) → AllByRecursion c.Typed xs → AllByRecursion c.Fits xs → AllByRecursion (λ x. IsWireFrame (c.write x)) xs
  makes-each [] typed fits = tt
  makes-each (x ∷ xs) typed fits = (laws.makes x typed.0 fits.0, makes-each xs typed.1 fits.1)

  -- values that fit are cut as their frames
  pub cut-written : (xs : List X) → AllByRecursion c.Typed xs → AllByRecursion c.Fits xs
      → cut (list_bytes c.write xs) ≡ record { frames = map c.write xs; fault = None }
  cut-written xs typed fits = ap cut (list_bytes-map c.write xs) ∙ cut-flat_map (map c.write xs) (wire-frames c.write xs (makes-each xs typed fits))

  module _ (by_frame : Sets Frame) where
    -- what is read is typed
    pub typed-each : (kind : List ℕ) (fs : List Frame) (xs : List X) → AllByRecursion IsWireFrame fs → ReadInTurn c.read by_frame kind fs xs
        → AllByRecursion c.Typed xs
    typed-each kind [] [] wire turn = tt
    typed-each kind [] (x ∷ xs) wire turn = elim turn [ ]
    typed-each kind (f ∷ fs) [] wire turn = elim turn [ ]
    typed-each kind (f ∷ fs) (x ∷ xs) wire turn = (laws.typed kind f x wire.0 turn.0, typed-each (kind_then by_frame kind f) fs xs wire.1 turn.1)

    -- frames that were read and are written as they were are canonical
    pub canon-each : (kind : List ℕ) (xs : List X) → AllByRecursion c.Typed xs → AllByRecursion c.Fits xs → ReadInTurn c.read by_frame kind (map c.write xs) xs
        → CanonEach Canon by_frame kind (map c.write xs)
    canon-each kind [] typed fits turn = tt
    canon-each kind (x ∷ xs) typed fits turn = (
      (laws.same kind (c.write x) x (laws.makes x typed.0 fits.0) turn.0 fits.0).0 refl,
      canon-each (kind_then by_frame kind (c.write x)) xs typed.1 fits.1 turn.1,
    )

    -- canonical frames are written as they were
    pub written-each : (kind : List ℕ) (fs : List Frame) (xs : List X) → AllByRecursion IsWireFrame fs → AllByRecursion c.Fits xs
        → ReadInTurn c.read by_frame kind fs xs
        → CanonEach Canon by_frame kind fs → map c.write xs ≡ fs
    written-each kind [] [] wire fits turn canon = refl
    written-each kind [] (x ∷ xs) wire fits turn canon = elim turn [ ]
    written-each kind (f ∷ fs) [] wire fits turn canon = elim turn [ ]
    written-each kind (f ∷ fs) (x ∷ xs) wire fits turn canon =
        let first = (laws.same kind f x wire.0 turn.0 fits.0).1 canon.0 in
        let others = written-each (kind_then by_frame kind f) fs xs wire.1 fits.1 turn.1 canon.1 in
        cc

    -- canonical frames are read
    pub reads-each : (kind : List ℕ) (fs : List Frame) → AllByRecursion IsWireFrame fs → CanonEach Canon by_frame kind fs
        → (xs : List X) × ReadInTurn c.read by_frame kind fs xs × AllByRecursion c.Fits xs
    reads-each kind [] wire canon = ([], tt, tt)
    reads-each kind (f ∷ fs) wire canon =
        let first = laws.reads kind f wire.0 canon.0 in
        let others = reads-each (kind_then by_frame kind f) fs wire.1 canon.1 in
        (first.0 ∷ others.0, (first.1, others.1), (first.2, others.2))

    module _ (by_value : Sets X) (agree : (kind : List ℕ) (f : Frame) (x : X) → IsWireFrame f → c.read kind f ≡ Ok x → by_frame f ≡ by_value x) where
      -- what reads back as itself is settled
      settled-each : (kind : List ℕ) (xs : List X) → AllByRecursion c.Typed xs → AllByRecursion c.Fits xs → ReadInTurn c.read by_frame kind (map c.write xs) xs
          → SettledEach c.Settled by_value kind xs
      settled-each kind [] typed fits turn = tt
      settled-each kind (x ∷ xs) typed fits turn =
          let wire = laws.makes x typed.0 fits.0 in
          let next = kind_then-same by_frame by_value kind (c.write x) x (agree kind (c.write x) x wire turn.0) in (
            (laws.back kind x typed.0 fits.0).0 turn.0,
            subst (λ (k : List ℕ). SettledEach c.Settled by_value k xs) next (settled-each (kind_then by_frame kind (c.write x)) xs typed.1 fits.1 turn.1),
          )

      -- what is settled reads back as itself
      back-each : (kind : List ℕ) (xs : List X) → AllByRecursion c.Typed xs → AllByRecursion c.Fits xs → SettledEach c.Settled by_value kind xs
          → ReadInTurn c.read by_frame kind (map c.write xs) xs
      back-each kind [] typed fits settled = tt
      back-each kind (x ∷ xs) typed fits settled =
          let wire = laws.makes x typed.0 fits.0 in
          let is_read = (laws.back kind x typed.0 fits.0).1 settled.0 in
          let next = kind_then-same by_frame by_value kind (c.write x) x (agree kind (c.write x) x wire is_read) in (
            is_read,
            subst (λ (k : List ℕ). ReadInTurn c.read by_frame k (map c.write xs) xs) (sym next)
                (back-each (kind_then by_value kind x) xs typed.1 fits.1 settled.1),
          )

      -- the laws of the list
      pub list_laws : Laws IsWireBytes (list_codec by_frame by_value c) (λ kind bytes. IsCanonList Canon by_frame kind bytes)
      list_laws = record { makes = makes_list; typed = typed_list; back = back_list; same = same_list; reads = reads_list }
        where
          makes_list : (xs : List X) → AllByRecursion c.Typed xs → ListFits c.Fits c.write xs → IsWireBytes (list_bytes c.write xs)
          makes_list xs typed fits = record { are_bytes = IsBytes-list_bytes c.write xs (makes-each xs typed fits.each); long = fits.whole }

          typed_list : (kind bytes : List ℕ) (xs : List X) → IsWireBytes bytes → read_list c.read by_frame kind bytes ≡ Ok xs → AllByRecursion c.Typed xs
          typed_list kind bytes xs wire e =
              typed-each kind (cut bytes).frames xs (IsWireFrame-cut bytes wire.are_bytes) (ReadInTurn-read_list c.read by_frame kind bytes xs e).1

          in_turn : (kind : List ℕ) (xs : List X) → AllByRecursion c.Typed xs → AllByRecursion c.Fits xs
              → read_list c.read by_frame kind (list_bytes c.write xs) ≡ Ok xs
              → ReadInTurn c.read by_frame kind (map c.write xs) xs
          in_turn kind xs typed fits e =
              subst (λ (k : Cutting). ReadInTurn c.read by_frame kind k.frames xs) (cut-written xs typed fits)
              (ReadInTurn-read_list c.read by_frame kind (list_bytes c.write xs) xs e).1

          back_list : (kind : List ℕ) (xs : List X) → AllByRecursion c.Typed xs → ListFits c.Fits c.write xs
              → (read_list c.read by_frame kind (list_bytes c.write xs) ≡ Ok xs) ↔ SettledEach c.Settled by_value kind xs
          back_list kind xs typed fits = (
            (λ e. settled-each kind xs typed fits.each (in_turn kind xs typed fits.each e)),
            (λ s. read_list-ReadInTurn c.read by_frame kind (list_bytes c.write xs) (map c.write xs) xs (cut-written xs typed fits.each)
                (back-each kind xs typed fits.each s)),
          )

          same_list : (kind bytes : List ℕ) (xs : List X) → IsWireBytes bytes → read_list c.read by_frame kind bytes ≡ Ok xs → ListFits c.Fits c.write xs
              → (list_bytes c.write xs ≡ bytes) ↔ IsCanonList Canon by_frame kind bytes
          same_list kind bytes xs wire e fits = (to_canon, from_canon)
            where
              typed : AllByRecursion c.Typed xs
              typed = typed_list kind bytes xs wire e

              to_canon : list_bytes c.write xs ≡ bytes → IsCanonList Canon by_frame kind bytes
              to_canon s = record {
                list = map c.write xs;
                frames = wire-frames c.write xs (makes-each xs typed fits.each);
                whole = sym s ∙ list_bytes-map c.write xs;
                holds = canon-each kind xs typed fits.each (in_turn kind xs typed fits.each (ap (read_list c.read by_frame kind) s ∙ e));
              }

              from_canon : IsCanonList Canon by_frame kind bytes → list_bytes c.write xs ≡ bytes
              from_canon canon =
                  let whole : cut bytes ≡ record { frames = canon.list; fault = None } = ap cut canon.whole ∙ cut-flat_map canon.list canon.frames in
                  let turn : ReadInTurn c.read by_frame kind canon.list xs =
                  subst (λ (k : Cutting). ReadInTurn c.read by_frame kind k.frames xs) whole (ReadInTurn-read_list c.read by_frame kind bytes xs e).1 in
                  let are_wire : AllByRecursion IsWireFrame canon.list =
                  subst (λ (k : Cutting). AllByRecursion IsWireFrame k.frames) whole (IsWireFrame-cut bytes wire.are_bytes) in
                  list_bytes-map c.write xs ∙ ap (flat_map frame_bytes) (written-each kind canon.list xs are_wire fits.each turn canon.holds) ∙ sym canon.whole

          reads_list : (kind bytes : List ℕ) → IsWireBytes bytes → IsCanonList Canon by_frame kind bytes
              → (xs : List X) × (read_list c.read by_frame kind bytes ≡ Ok xs) × ListFits c.Fits c.write xs
          reads_list kind bytes wire canon =
              let whole : cut bytes ≡ record { frames = canon.list; fault = None } = ap cut canon.whole ∙ cut-flat_map canon.list canon.frames in
              let are_wire : AllByRecursion IsWireFrame canon.list =
              subst (λ (k : Cutting). AllByRecursion IsWireFrame k.frames) whole (IsWireFrame-cut bytes wire.are_bytes) in
              let r = reads-each kind canon.list are_wire canon.holds in
              let same : list_bytes c.write r.0 ≡ bytes =
              list_bytes-map c.write r.0 ∙ ap (flat_map frame_bytes) (written-each kind canon.list r.0 are_wire r.2 r.1 canon.holds)
              ∙ sym canon.whole in (
                r.0,
                read_list-ReadInTurn c.read by_frame kind bytes canon.list r.0 whole r.1,
                record { each = r.2; whole = rw same wire.long },
              )
