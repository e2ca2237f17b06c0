-- Both readings of the same bytes: version 1, and now.
use Rattle.std.proofs.Common.{◌≡◌, ◌↔◌, ℕ, Bool, true, false, List, [], ◌∷◌, ◌≤◌, length, take, drop, Ok, Err, cond, ltb, refl, sym, ap, subst, ◌∙◌, arith}
use Rattle.std.specs.List.{AllByRecursion}
use Rattle.nla_frames.specs.declared.error.DecodeError.{DecodeError}
use Rattle.nla_frames.specs.Fault.{Outcome, seen, read_as, refused, ◌>>=◌}
use Rattle.nla_frames.specs.Frame.{Frame, IsWireFrame}
use Rattle.nla_frames.specs.Cutting.{cut}
use Rattle.nla_frames.specs.Place.{kind_then}
use Rattle.nla_frames.specs.Reading.{read_list}
use Rattle.nla_frames.specs.Value.{IsBytes}
use Rattle.nla_frames.proofs.Bytes.{IsBytes-drop, IsBytes-take}
use Rattle.nla_frames.proofs.CutFrames.{IsWireFrame-cut}
use Rattle.nla_frames.proofs.ReadEach.{ReadInTurn}
use Rattle.nla_frames.proofs.ListLaws.{ReadInTurn-read_list}
use Rattle.tc_canon.specs.Descriptor.{table}
use Rattle.tc_canon.specs.Layouts.{tc_header}
use Rattle.tc_canon.specs.Tables.Messages.{attributes}
use Rattle.tc_meaning.specs.Tree.{Attribute}
use Rattle.tc_meaning.specs.Own.{kind_of_frame}
use Rattle.tc_meaning.specs.Layout.{read_fields, TypedFields}
use Rattle.tc_meaning.proofs.Fields.{typed-fields}
use Rattle.std.proofs.lemmas.List.{length-take-le}
use Rattle.nla_frames.specs.declared.error.DecodeError.TheVariants.{BufferTooSmall}
use Rattle.tc_meaning.specs.Message.{Message, OneReading, OneMessage, read_with}
use Rattle.tc_meaning.specs.Whole.{ReadsTc, FaultTc, read_tc, TypedTc}
use Rattle.tc_laws.specs.FirstVersion.{are_unknown_options, lone_option, read_attribute1, ReadsTc1, FaultTc1, read_tc1, upgrade_each, upgrade}
use Rattle.tc_meaning.proofs.Outcomes.{seen-ok, ok-same}
use Rattle.tc_meaning.proofs.TableLaws.{table_laws}
use Rattle.tc_meaning.proofs.MessageLaws.{one_reading, one_message, read_by-ok}
use Rattle.tc_laws.proofs.UpgradeLaws.{attribute, list-both, upgrade-upgrade}

-- a header's bytes and a list, as a message, unless the bytes are too short
abbrev made_of : Bool → List ℕ → Outcome (List Attribute) → DecodeError → Outcome Message
made_of is_short front r e = cond is_short (refused e) (r >>= λ body. read_as (record { header = read_fields tc_header front; body = body }))

-- a message is made of the upgraded list
made-upgrade : (is_short : Bool) (front : List ℕ) (r : Outcome (List Attribute)) (e : DecodeError)
    → made_of is_short front (seen (upgrade_each []) r) e ≡ seen upgrade (made_of is_short front r e)
made-upgrade true front r e = refl
made-upgrade false front (Ok body) e = refl
made-upgrade false front (Err d) e = refl

-- what is read of bytes now is the upgrade of what version 1 reads
pub read_tc-upgrade : (bytes : List ℕ) → read_tc bytes ≡ seen upgrade (read_tc1 bytes)
unfolding read_with read_tc1
read_tc-upgrade bytes =
    let front = take 20 bytes in
    let rest = drop 20 bytes in
    let is_short = ltb (length bytes) 20 in
    let e = BufferTooSmall (length bytes) 20 in
    ap (λ (r : Outcome (List Attribute)). made_of is_short front r e) (list-both [] rest)
    ∙ made-upgrade is_short front (read_list read_attribute1 kind_of_frame [] rest) e

-- what is seen to be refused is refused, and the other way round
seen-err : {X Y : Type 0} (see : X → Y) (r : Outcome X) (e : DecodeError) → (r ≡ refused e) ↔ (seen see r ≡ refused e)
seen-err see (Ok x) e = (λ h. absurd cc, λ h. absurd cc)
seen-err see (Err d) e = (λ h. cc, λ h. cc)

module _ (bytes : List ℕ) (w : IsBytes bytes) where
  -- the reading and the fault of version 1 are its grammar's
  pub tc1-reading : OneReading read_attribute1 kind_of_frame tc_header bytes (read_tc1 bytes)
  unfolding read_tc1
  tc1-reading = one_reading read_attribute1 kind_of_frame tc_header bytes w

  -- so are those of now
  tc2-reading : OneMessage kind_of_frame tc_header attributes bytes (read_tc bytes)
  tc2-reading = one_message kind_of_frame tc_header attributes bytes w

  -- what version 1 reads is now read as its upgrade
  pub tc1-upgraded : (m : Message) → ReadsTc1 bytes m → ReadsTc bytes (upgrade m)
  tc1-upgraded m g = (tc2-reading.reading (upgrade m)).0 (read_tc-upgrade bytes ∙ ap (seen upgrade) ((tc1-reading.reading m).1 g))

  -- and it reads nothing else
  pub tc1-all_upgraded : (n : Message) → ReadsTc bytes n → (m : Message) × ReadsTc1 bytes m × (upgrade m ≡ n)
  tc1-all_upgraded n g =
      let r = seen-ok upgrade (read_tc1 bytes) n (sym (read_tc-upgrade bytes) ∙ (tc2-reading.reading n).1 g) in
      (r.0, (tc1-reading.reading r.0).0 r.1, r.2)

  -- what is read now is its own upgrade
  pub tc1-nothing_left : (n : Message) → ReadsTc bytes n → upgrade n ≡ n
  tc1-nothing_left n g =
      let r = tc1-all_upgraded n g in
      sym (ap upgrade r.2) ∙ upgrade-upgrade r.0 ∙ r.2

  -- the faults are the same
  pub tc1-same_faults : (e : DecodeError) → FaultTc1 bytes e ↔ FaultTc bytes e
  tc1-same_faults e =
      let both = seen-err upgrade (read_tc1 bytes) e in
      let same = read_tc-upgrade bytes in
      let one = tc1-reading.fault e in
      let two = tc2-reading.fault e in
      (λ g. two.0 (same ∙ both.0 (one.1 g)), λ g. one.0 (both.1 (sym same ∙ two.1 g)))

  -- ---- what version 1 reads is typed

  typed-one : (kind : List ℕ) (f : Frame) (x : Attribute) → IsWireFrame f → read_attribute1 kind f ≡ Ok x → attribute.Typed x
  typed-one kind f x wire e = go (are_unknown_options kind f.word) e
    where
      go : (b : Bool) → cond b (read_as (lone_option f.word f.value)) (attribute.read kind f) ≡ Ok x → attribute.Typed x
      go true h = subst attribute.Typed (ok-same (lone_option f.word f.value) x h) (refl, (refl, ((wire.frame.word, wire.bytes), tt)))
      go false h = (table_laws (table attributes) refl).typed kind f x wire h

  typed-each : (kind : List ℕ) (fs : List Frame) (xs : List Attribute) → AllByRecursion IsWireFrame fs → ReadInTurn read_attribute1 kind_of_frame kind fs xs
      → AllByRecursion attribute.Typed xs
  typed-each kind [] [] wire turn = tt
  typed-each kind [] (x ∷ xs) wire turn = elim turn [ ]
  typed-each kind (f ∷ fs) [] wire turn = tt
  typed-each kind (f ∷ fs) (x ∷ xs) wire turn = (typed-one kind f x wire.0 turn.0, typed-each (kind_then kind_of_frame kind f) fs xs wire.1 turn.1)

  -- numbers lie in their types, and texts are UTF-8
  pub tc1-typed : (m : Message) → ReadsTc1 bytes m → TypedTc m
  unfolding read_tc1
  tc1-typed m g =
      let is = read_by-ok read_attribute1 kind_of_frame tc_header bytes m ((tc1-reading.reading m).1 g) in
      let rest = drop 20 bytes in
      let turn = ReadInTurn-read_list read_attribute1 kind_of_frame [] rest m.body is.body in
      let long : 20 ≤ length (take 20 bytes) = rw (length-take-le 20 bytes is.long) (omega arith) in
      record {
        header = subst (TypedFields tc_header) is.header (typed-fields tc_header (take 20 bytes) (IsBytes-take 20 bytes w) long);
        body = typed-each [] (cut rest).frames m.body (IsWireFrame-cut rest (IsBytes-drop 20 bytes w)) turn.1;
      }
