-- The laws of a list of frames that set their own kind.
use Rattle.std.proofs.Common.{◌≡◌, ◌↔◌, ℕ, Bool, true, false, List, [], ◌∷◌, ◌++◌, map, Option, Some, None, Ok, cond, refl, sym, ap, ap₂, subst, ◌∙◌}
use Rattle.std.specs.List.{AllByRecursion}
use Rattle.std.specs.Str.{is_utf8}
use Rattle.std.proofs.lemmas.List.{append-nil}
use Rattle.nla_frames.specs.declared.error.DecodeError.{DecodeError}
use Rattle.nla_frames.specs.Fault.{Outcome, seen, read_as, ◌>>=◌}
use Rattle.nla_frames.specs.Value as plain_values
use Rattle.nla_frames.specs.Value.{IsBytes, strip}
use Rattle.nla_frames.specs.Frame.{Frame, IsWireFrame}
use Rattle.nla_frames.specs.Cutting.{Cutting, cut, items_of, fault_at_end}
use Rattle.nla_frames.specs.Reading.{keep, read_list}
use Rattle.nla_frames.specs.Emission.{list_bytes, ListFits}
use Rattle.nla_frames.specs.CanonList.{IsCanonAt, IsPaddedList, CanonEach, IsCanonList}
use Rattle.nla_frames.specs.Codec.{Codec, Laws, IsWireBytes, SettledEach, list_codec}
use Rattle.nla_frames.proofs.CutFrames.{cut-flat_map}
use Rattle.nla_frames.proofs.ReadEach.{ReadInTurn}
use Rattle.nla_frames.proofs.ListLaws.{list_laws, ReadInTurn-read_list}
use Rattle.tc_canon.specs.Kind.{is_kind_frame, kinds_of_frames, SetsOneKind}
use Rattle.tc_canon.specs.Canonical.{IsCanonOwn}
use Rattle.tc_meaning.specs.Tree.{Attribute}
use Rattle.tc_meaning.specs.Own.{kind_of_frame, kind_of_attribute, kind_before, kinds_set, read_kinds, only_kind, read_own, SettledOwn, own_codec}
use Rattle.tc_meaning.proofs.Outcomes.{seen-ok, then-ok, ok-same}
use Rattle.tc_meaning.proofs.Texts.{text-ok, text-reads}

-- the search finds the kinds that the frames set
read_kinds-frames : (fs : List Frame) (fault : Option DecodeError) (kinds : List (List ℕ)) → read_kinds (map Ok fs ++ fault_at_end fault) ≡ Ok kinds
    → kinds_of_frames fs ≡ kinds
unfolding read_kinds
read_kinds-frames [] None kinds e = ok-same [] kinds e
read_kinds-frames [] (Some d) kinds e = absurd cc
read_kinds-frames (f ∷ fs) fault kinds e = go (is_kind_frame f) (λ ks h. read_kinds-frames fs fault ks h) e
  where
    go : (b : Bool) → ((ks : List (List ℕ)) → read_kinds (map Ok fs ++ fault_at_end fault) ≡ Ok ks → kinds_of_frames fs ≡ ks)
        → cond b (plain_values.text f.value >>= λ kind. seen (λ ks. kind ∷ ks) (read_kinds (map Ok fs ++ fault_at_end fault)))
        (read_kinds (map Ok fs ++ fault_at_end fault)) ≡ Ok kinds
        → kind_before (cond b (Some (strip f.value)) None) (kinds_of_frames fs) ≡ kinds
    go true later h =
        let r = then-ok (plain_values.text f.value) (λ kind. seen (λ ks. kind ∷ ks) (read_kinds (map Ok fs ++ fault_at_end fault))) kinds h in
        let q = seen-ok (λ ks. r.0 ∷ ks) (read_kinds (map Ok fs ++ fault_at_end fault)) kinds r.2 in
        ap₂ (λ (a : List ℕ) (b : List (List ℕ)). a ∷ b) (text-ok f.value r.0 r.1).1 (later q.0 q.1) ∙ q.2
    go false later h = later kinds h

-- frames of type 1 that have a text are found
frames-read_kinds : (fs : List Frame) → AllByRecursion (λ f. is_kind_frame f ≡ true → is_utf8 (strip f.value) ≡ true) fs
    → read_kinds (map Ok fs) ≡ Ok (kinds_of_frames fs)
unfolding read_kinds
frames-read_kinds [] all = refl
frames-read_kinds (f ∷ fs) all = go (is_kind_frame f) refl (frames-read_kinds fs all.1)
  where
    go : (b : Bool) → is_kind_frame f ≡ b → read_kinds (map Ok fs) ≡ Ok (kinds_of_frames fs)
        → cond b (plain_values.text f.value >>= λ kind. seen (λ ks. kind ∷ ks) (read_kinds (map Ok fs))) (read_kinds (map Ok fs))
        ≡ Ok (kind_before (cond b (Some (strip f.value)) None) (kinds_of_frames fs))
    go true e others = rw (text-reads f.value (all.0 e), others) refl
    go false e others = others

-- one kind was found
pub only_kind-ok : (kinds : List (List ℕ)) (kind : List ℕ) → only_kind kinds ≡ Ok kind → kinds ≡ kind ∷ []
only_kind-ok [] kind e = absurd cc
only_kind-ok (a ∷ []) kind e = ap (λ (t : List ℕ). t ∷ []) (ok-same a kind e)
only_kind-ok (a ∷ b ∷ kinds) kind e = absurd cc

module _ (c : Codec Frame Attribute) where
  -- a list that was read under the kind that its frames set
  pub record IsOwn (bytes : List ℕ) (xs : List Attribute) : Type 0 where
    pub own : List ℕ
    pub one_kind : kinds_of_frames (cut bytes).frames ≡ own ∷ []
    pub is_read : read_list c.read keep own bytes ≡ Ok xs

  pub read_own-ok : (bytes : List ℕ) (xs : List Attribute) → read_own c.read bytes ≡ Ok xs → IsOwn bytes xs
  unfolding read_own
  read_own-ok bytes xs e =
      let r = then-ok (read_kinds (items_of (cut bytes)) >>= only_kind) (λ kind. read_list c.read keep kind bytes) xs e in
      let q = then-ok (read_kinds (items_of (cut bytes))) only_kind r.0 r.1 in
      record {
        own = r.0;
        one_kind = read_kinds-frames (cut bytes).frames (cut bytes).fault q.0 q.1 ∙ only_kind-ok q.0 r.0 q.2;
        is_read = r.2;
      }

  -- what the laws require of the elements: a frame sets the same kind as the attribute read from it, and that kind is
  -- a text
  pub record ReadsKinds : Type 0 where
    pub agree : (k : List ℕ) (f : Frame) (x : Attribute) → c.read k f ≡ Ok x → kind_of_frame f ≡ kind_of_attribute x
    pub has_text : (k : List ℕ) (f : Frame) (x : Attribute) → c.read k f ≡ Ok x → is_kind_frame f ≡ true → is_utf8 (strip f.value) ≡ true

  module _ (reads_kinds : ReadsKinds) where
    texts-each : (k : List ℕ) (fs : List Frame) (xs : List Attribute) → ReadInTurn c.read keep k fs xs
        → AllByRecursion (λ f. is_kind_frame f ≡ true → is_utf8 (strip f.value) ≡ true) fs
    texts-each k [] [] turn = tt
    texts-each k [] (x ∷ xs) turn = tt
    texts-each k (f ∷ fs) [] turn = elim turn [ ]
    texts-each k (f ∷ fs) (x ∷ xs) turn = (reads_kinds.has_text k f x turn.0, texts-each k fs xs turn.1)

    -- the kinds that are set are the same in the frames and in the values
    kinds-each : (k : List ℕ) (fs : List Frame) (xs : List Attribute) → ReadInTurn c.read keep k fs xs
        → kinds_set kind_of_frame fs ≡ kinds_set kind_of_attribute xs
    kinds-each k [] [] turn = refl
    kinds-each k [] (x ∷ xs) turn = elim turn [ ]
    kinds-each k (f ∷ fs) [] turn = elim turn [ ]
    kinds-each k (f ∷ fs) (x ∷ xs) turn = ap₂ kind_before (reads_kinds.agree k f x turn.0) (kinds-each k fs xs turn.1)

    -- the kind of a list whose values were all read
    pub frames-set : (k bytes : List ℕ) (xs : List Attribute) → read_list c.read keep k bytes ≡ Ok xs
        → kinds_of_frames (cut bytes).frames ≡ kinds_set kind_of_attribute xs
    frames-set k bytes xs e = kinds-each k (cut bytes).frames xs (ReadInTurn-read_list c.read keep k bytes xs e).1

    -- a list that is read under the one kind that its frames set
    pub read_own-is : (k bytes : List ℕ) (xs : List Attribute) → read_list c.read keep k bytes ≡ Ok xs → kinds_of_frames (cut bytes).frames ≡ k ∷ []
        → read_own c.read bytes ≡ Ok xs
    unfolding read_own
    read_own-is k bytes xs e same_kinds =
        let turn = ReadInTurn-read_list c.read keep k bytes xs e in
        let items : items_of (cut bytes) ≡ map Ok (cut bytes).frames =
        ap (λ (d : Option DecodeError). map Ok (cut bytes).frames ++ fault_at_end d) turn.0 ∙ append-nil (map Ok (cut bytes).frames) in
        let found : read_kinds (items_of (cut bytes)) ≡ Ok (k ∷ []) =
        ap read_kinds items ∙ frames-read_kinds (cut bytes).frames (texts-each k (cut bytes).frames xs turn.1) ∙ ap (λ (ks : List (List ℕ)). read_as ks) same_kinds in
        ap (λ (r : Outcome (List (List ℕ))). r >>= only_kind >>= λ kind. read_list c.read keep kind bytes) found ∙ e

    module _ (Canon : IsCanonAt) (laws : Laws IsWireFrame c Canon) where
      -- the laws of the list under any kind
      of_list : Laws IsWireBytes (list_codec keep keep c) (λ kind bytes. IsCanonList Canon keep kind bytes)
      of_list = list_laws c Canon laws keep keep (λ kind f x w e. refl)

      -- settled one by one, or all
      pub settled-all : (k : List ℕ) (xs : List Attribute) → SettledEach c.Settled keep k xs ↔ AllByRecursion (c.Settled k) xs
      settled-all k [] = (λ s. tt, λ s. tt)
      settled-all k (x ∷ xs) = let others = settled-all k xs in (λ s. (s.0, others.0 s.1), λ s. (s.0, others.1 s.1))

      pub own_laws : Laws IsWireBytes (own_codec c) (λ kind bytes. IsCanonOwn Canon bytes)
      own_laws = record {
        makes = of_list.makes;
        typed = λ k bytes xs w e. let own = read_own-ok bytes xs e in of_list.typed own.own bytes xs w own.is_read;
        back = λ k xs t f. (back_from xs t f, back_to xs t f);
        same = λ k bytes xs w e f. (same_from bytes xs w e f, same_to bytes xs w e f);
        reads = λ k bytes w canon. reads bytes w canon;
      }
        where
          back_from : (xs : List Attribute) → AllByRecursion c.Typed xs → ListFits c.Fits c.write xs → read_own c.read (list_bytes c.write xs) ≡ Ok xs
              → SettledOwn c.Settled xs
          back_from xs t f e =
              let own = read_own-ok (list_bytes c.write xs) xs e in (
                own.own,
                sym (frames-set own.own (list_bytes c.write xs) xs own.is_read) ∙ own.one_kind,
                (settled-all own.own xs).0 ((of_list.back own.own xs t f).0 own.is_read),
              )

          back_to : (xs : List Attribute) → AllByRecursion c.Typed xs → ListFits c.Fits c.write xs → SettledOwn c.Settled xs
              → read_own c.read (list_bytes c.write xs) ≡ Ok xs
          back_to xs t f s =
              let is_read = (of_list.back s.0 xs t f).1 ((settled-all s.0 xs).1 s.2) in
              read_own-is s.0 (list_bytes c.write xs) xs is_read (frames-set s.0 (list_bytes c.write xs) xs is_read ∙ s.1)

          -- frames that are padded are those that are cut
          cut-padded : (Holds : List Frame → Type 0) (bytes : List ℕ) (canon : IsPaddedList Holds bytes) → (cut bytes).frames ≡ canon.list
          cut-padded Holds bytes canon = ap (λ (k : Cutting). k.frames) (ap cut canon.whole ∙ cut-flat_map canon.list canon.frames)

          -- the same list without that fact
          one_of : (own : List ℕ) (bytes : List ℕ) → IsPaddedList (λ fs. SetsOneKind fs own × CanonEach Canon keep own fs) bytes → IsCanonList Canon keep own bytes
          one_of own bytes canon = record { list = canon.list; frames = canon.frames; whole = canon.whole; holds = canon.holds.1 }

          same_from : (bytes : List ℕ) (xs : List Attribute) → IsWireBytes bytes → read_own c.read bytes ≡ Ok xs → ListFits c.Fits c.write xs
              → list_bytes c.write xs ≡ bytes → IsCanonOwn Canon bytes
          same_from bytes xs w e f s =
              let own = read_own-ok bytes xs e in
              let canon = (of_list.same own.own bytes xs w own.is_read f).0 s in
              let same_kinds = ap kinds_of_frames (sym (cut-padded (CanonEach Canon keep own.own) bytes canon)) ∙ own.one_kind in
              (own.own, record { list = canon.list; frames = canon.frames; whole = canon.whole; holds = (same_kinds, canon.holds) })

          same_to : (bytes : List ℕ) (xs : List Attribute) → IsWireBytes bytes → read_own c.read bytes ≡ Ok xs → ListFits c.Fits c.write xs
              → IsCanonOwn Canon bytes → list_bytes c.write xs ≡ bytes
          same_to bytes xs w e f canon =
              let own = read_own-ok bytes xs e in
              let one : canon.0 ∷ [] ≡ own.own ∷ [] = sym canon.1.holds.0 ∙ ap kinds_of_frames (sym (cut-padded _ bytes canon.1)) ∙ own.one_kind in
              let same : canon.0 ≡ own.own = cc one in
              (of_list.same own.own bytes xs w own.is_read f).1 (subst (λ (k : List ℕ). IsCanonList Canon keep k bytes) same (one_of canon.0 bytes canon.1))

          reads : (bytes : List ℕ) → IsWireBytes bytes → IsCanonOwn Canon bytes
              → (xs : List Attribute) × (read_own c.read bytes ≡ Ok xs) × ListFits c.Fits c.write xs
          reads bytes w canon =
              let r = of_list.reads canon.0 bytes w (one_of canon.0 bytes canon.1) in
              (r.0, read_own-is canon.0 bytes r.0 r.1 (ap kinds_of_frames (cut-padded _ bytes canon.1) ∙ canon.1.holds.0), r.2)
