-- The laws of whole messages.
use Rattle.std.proofs.Common.{◌≡◌, ◌⊎◌, ◌↔◌, ℕ, ◌+◌, ◌<◌, ◌≤◌, List, [], ◌++◌, length, take, drop, Ok, Err, ltb, refl, sym, ap, ap₂, subst, ◌∙◌, arith, inl}
use Rattle.std.proofs.Common.{inr}
use Rattle.std.proofs.lemmas.List.{length-append, length-drop, length-take-le, take_at, drop_at, take-append-drop, append-nil, length-take}
use Rattle.std.proofs.lemmas.Bool.{ltb-false, lt-ltb, le-ltb, cases_lt}
use Rattle.nla_frames.specs.declared.error.DecodeError.{DecodeError}
use Rattle.nla_frames.specs.declared.error.DecodeError.TheVariants.{BufferTooSmall}
use Rattle.nla_frames.specs.Fault.{read_as, refused, ◌>>=◌}
use Rattle.nla_frames.specs.Value.{IsBytes}
use Rattle.nla_frames.specs.Frame.{Frame, IsWireFrame}
use Rattle.nla_frames.specs.Place.{Sets}
use Rattle.nla_frames.specs.Reading.{Reads, read_list}
use Rattle.nla_frames.specs.ListGrammar.{HasOneOutcome}
use Rattle.nla_frames.specs.Emission.{list_bytes}
use Rattle.nla_frames.specs.CanonList.{IsCanonList}
use Rattle.nla_frames.specs.Codec.{Laws, IsWireBytes, list_codec}
use Rattle.nla_frames.proofs.Bytes.{IsBytes-append, IsBytes-take, IsBytes-drop}
use Rattle.nla_frames.proofs.ListGrammarLaws.{one_outcome}
use Rattle.nla_frames.proofs.ListLaws.{list_laws}
use Rattle.tc_canon.specs.Descriptor.{Field, Rows, table}
use Rattle.tc_canon.specs.Layouts.{size_of}
use Rattle.tc_canon.specs.Canonical.{CanonFields, CanonTable}
use Rattle.tc_meaning.specs.Tree.{Scalar, Attribute}
use Rattle.tc_meaning.specs.Layout.{read_fields, fields_bytes, TypedFields, SettledFields}
use Rattle.tc_meaning.specs.Meaning.{table_codec}
use Rattle.tc_meaning.specs.Message.{Message, ReadsBy, FaultBy, read_by, read_with, message_bytes, FitsMessage, TypedMessage, SettledWith, OneReading}
use Rattle.tc_meaning.specs.Message.{OneMessage, CanonWith, message_codec}
use Rattle.tc_meaning.proofs.Outcomes.{kept-ok, then-ok, then-err, ok-same, err-same}
use Rattle.tc_meaning.proofs.Fields.{length-fields_bytes, IsBytes-fields_bytes, typed-fields, back-fields, same-fields}

-- ---- reading is the grammar

module _ (reads : Reads Attribute) (sets : Sets Frame) (layout : List Field) where
  -- what was read of a message
  pub record IsReadBy (bytes : List ℕ) (m : Message) : Type 0 where
    pub long : size_of layout ≤ length bytes
    pub header : read_fields layout (take (size_of layout) bytes) ≡ m.header
    pub body : read_list reads sets [] (drop (size_of layout) bytes) ≡ Ok m.body

  -- the header and the body, as a message
  made : List ℕ → List Attribute → Message
  made bytes body = record { header = read_fields layout (take (size_of layout) bytes); body = body }

  pub read_by-ok : (bytes : List ℕ) (m : Message) → read_by reads sets layout bytes ≡ Ok m → IsReadBy bytes m
  unfolding made
  read_by-ok bytes m e =
      let body = read_list reads sets [] (drop (size_of layout) bytes) in
      let r = kept-ok (ltb (length bytes) (size_of layout)) (BufferTooSmall (length bytes) (size_of layout)) (body >>= λ xs. read_as (made bytes xs)) m e in
      let q = then-ok body (λ xs. read_as (made bytes xs)) m r.1 in
      let same = ok-same (made bytes q.0) m q.2 in
      record {
        long = ltb-false (length bytes) (size_of layout) r.0;
        header = ap (λ (n : Message). n.header) same;
        body = q.1 ∙ ap (λ (n : Message). read_as n.body) same;
      }

  pub ok-read_by : (bytes : List ℕ) (m : Message) → IsReadBy bytes m → read_by reads sets layout bytes ≡ Ok m
  ok-read_by bytes m is =
      rw (le-ltb (length bytes) (size_of layout) is.long, is.body)
      (ap (λ (h : List Scalar). let n : Message = record { header = h; body = m.body } in read_as n) is.header)

  -- reading gives exactly what the grammar says
  pub one_reading : (bytes : List ℕ) → IsBytes bytes → OneReading reads sets layout bytes (read_by reads sets layout bytes)
  unfolding made
  one_reading bytes w = record { reading = reading; fault = fault }
    where
      list : HasOneOutcome reads sets [] (drop (size_of layout) bytes) (read_list reads sets [] (drop (size_of layout) bytes))
      list = one_outcome reads sets [] (drop (size_of layout) bytes) (IsBytes-drop (size_of layout) bytes w)

      reading : (m : Message) → (read_by reads sets layout bytes ≡ Ok m) ↔ ReadsBy reads sets layout bytes m
      reading m = (
        (λ e. let is = read_by-ok bytes m e in record { long = is.long; header = sym is.header; body = (list.reading m.body).0 is.body }),
        (λ g. ok-read_by bytes m (record { long = g.long; header = sym g.header; body = (list.reading m.body).1 g.body })),
      )

      faulty : (e : DecodeError) → read_by reads sets layout bytes ≡ Err e → (length bytes < size_of layout) ⊎ (size_of layout ≤ length bytes)
          → FaultBy reads sets layout bytes e
      faulty e h (inl short) =
          let is : read_by reads sets layout bytes ≡ refused (BufferTooSmall (length bytes) (size_of layout)) =
          rw (lt-ltb (length bytes) (size_of layout) short) refl in
          inl (short, err-same Message e (BufferTooSmall (length bytes) (size_of layout)) (sym h ∙ is))
      faulty e h (inr long) =
          let body = read_list reads sets [] (drop (size_of layout) bytes) in
          let is : read_by reads sets layout bytes ≡ (body >>= λ xs. read_as (made bytes xs)) = rw (le-ltb (length bytes) (size_of layout) long) refl in
          inr (long, (list.fault e).0 (then-err body (made bytes) e (sym is ∙ h)))

      faults : (e : DecodeError) → FaultBy reads sets layout bytes e → read_by reads sets layout bytes ≡ Err e
      faults e (inl h) = rw (lt-ltb (length bytes) (size_of layout) h.0) (ap (λ (d : DecodeError). refused d) (sym h.1))
      faults e (inr h) = rw (le-ltb (length bytes) (size_of layout) h.0, (list.fault e).1 h.1) refl

      fault : (e : DecodeError) → (read_by reads sets layout bytes ≡ Err e) ↔ FaultBy reads sets layout bytes e
      fault e = (λ h. faulty e h (cases_lt (length bytes) (size_of layout)), faults e)

-- of a table of attributes
module _ (sets : Sets Frame) (layout : List Field) (rows : Rows) where
  abbrev pub IsRead : List ℕ → Message → Type 0
  IsRead = IsReadBy (table_codec (table rows)).read sets layout

  pub read_with-ok : (bytes : List ℕ) (m : Message) → read_with sets layout rows bytes ≡ Ok m → IsRead bytes m
  unfolding read_with
  read_with-ok = read_by-ok (table_codec (table rows)).read sets layout

  pub ok-read_with : (bytes : List ℕ) (m : Message) → IsRead bytes m → read_with sets layout rows bytes ≡ Ok m
  unfolding read_with
  ok-read_with = ok-read_by (table_codec (table rows)).read sets layout

  pub one_message : (bytes : List ℕ) → IsBytes bytes → OneMessage sets layout rows bytes (read_with sets layout rows bytes)
  unfolding read_with
  one_message = one_reading (table_codec (table rows)).read sets layout

-- ---- reading and writing

module _ (by_frame : Sets Frame) (by_value : Sets Attribute) (layout : List Field) (rows : Rows)
    (laws : Laws IsWireFrame (table_codec (table rows)) (CanonTable (table rows)))
    (agree : (kind : List ℕ) (f : Frame) (x : Attribute) → IsWireFrame f → (table_codec (table rows)).read kind f ≡ Ok x → by_frame f ≡ by_value x) where
  -- the laws of the body
  pub body_laws : Laws IsWireBytes (list_codec by_frame by_value (table_codec (table rows)))
      (λ kind bytes. IsCanonList (CanonTable (table rows)) by_frame kind bytes)
  body_laws = list_laws (table_codec (table rows)) (CanonTable (table rows)) laws by_frame by_value agree

  pub wire-body : (bytes : List ℕ) → IsWireBytes bytes → IsWireBytes (drop (size_of layout) bytes)
  wire-body bytes w = record { are_bytes = IsBytes-drop (size_of layout) bytes w.are_bytes; long = rw length-drop (omega (arith, w.long)) }

  pub front-message : (m : Message) → TypedMessage layout rows m → take (size_of layout) (message_bytes layout rows m) ≡ fields_bytes layout m.header
  unfolding message_bytes
  front-message m t = take_at (fields_bytes layout m.header) _ (size_of layout) (length-fields_bytes layout m.header t.header)

  pub rest-message : (m : Message) → TypedMessage layout rows m
      → drop (size_of layout) (message_bytes layout rows m) ≡ list_bytes (table_codec (table rows)).write m.body
  unfolding message_bytes
  rest-message m t = drop_at (fields_bytes layout m.header) _ (size_of layout) (length-fields_bytes layout m.header t.header)

  pub length-message : (m : Message) → TypedMessage layout rows m
      → length (message_bytes layout rows m) ≡ size_of layout + length (list_bytes (table_codec (table rows)).write m.body)
  unfolding message_bytes
  length-message m t = rw (length-append, length-fields_bytes layout m.header t.header) refl

  makes-message : (m : Message) → TypedMessage layout rows m → FitsMessage layout rows m → IsWireBytes (message_bytes layout rows m)
  unfolding message_bytes
  makes-message m t f = record { are_bytes = are_bytes; long = rw (length-message m t) f.whole }
    where
      are_bytes : IsBytes (message_bytes layout rows m)
      are_bytes = IsBytes-append (fields_bytes layout m.header) _ (IsBytes-fields_bytes layout m.header t.header)
          (body_laws.makes m.body t.body f.body).are_bytes

  pub typed-read : (bytes : List ℕ) (m : Message) → IsWireBytes bytes → IsRead by_frame layout rows bytes m → TypedMessage layout rows m
  typed-read bytes m w is = record {
    header = subst (TypedFields layout) is.header
        (typed-fields layout (take (size_of layout) bytes) (IsBytes-take (size_of layout) bytes w.are_bytes)
        (rw (length-take-le (size_of layout) bytes is.long) (omega arith)));
    body = body_laws.typed [] (drop (size_of layout) bytes) m.body (wire-body bytes w) is.body;
  }

  -- a header in front of nothing reads back exactly when it is settled
  pub header-back : (xs : List Scalar) → TypedFields layout xs → (read_fields layout (fields_bytes layout xs) ≡ xs) ↔ SettledFields layout xs
  header-back xs t =
      let law = back-fields layout xs [] t in
      let same = ap (read_fields layout) (append-nil (fields_bytes layout xs)) in
      (λ e. law.0 (same ∙ e), λ s. sym same ∙ law.1 s)

  back-message : (m : Message) → TypedMessage layout rows m → FitsMessage layout rows m
      → (read_with by_frame layout rows (message_bytes layout rows m) ≡ Ok m) ↔ SettledWith layout rows by_value m
  back-message m t f = (from, to)
    where
      from : read_with by_frame layout rows (message_bytes layout rows m) ≡ Ok m → SettledWith layout rows by_value m
      from e =
          let is = read_with-ok by_frame layout rows (message_bytes layout rows m) m e in
          record {
            header = (header-back m.header t.header).0 (ap (read_fields layout) (sym (front-message m t)) ∙ is.header);
            body = (body_laws.back [] m.body t.body f.body).0 (ap (read_list (table_codec (table rows)).read by_frame []) (sym (rest-message m t)) ∙ is.body);
          }

      to : SettledWith layout rows by_value m → read_with by_frame layout rows (message_bytes layout rows m) ≡ Ok m
      to s = ok-read_with by_frame layout rows (message_bytes layout rows m) m (record {
        long = rw (length-message m t) (omega arith);
        header = ap (read_fields layout) (front-message m t) ∙ (header-back m.header t.header).1 s.header;
        body = ap (read_list (table_codec (table rows)).read by_frame []) (rest-message m t) ∙ (body_laws.back [] m.body t.body f.body).1 s.body;
      })

  same-message : (bytes : List ℕ) (m : Message) → IsWireBytes bytes → read_with by_frame layout rows bytes ≡ Ok m → FitsMessage layout rows m
      → (message_bytes layout rows m ≡ bytes) ↔ CanonWith by_frame layout rows bytes
  unfolding message_bytes
  same-message bytes m w e f = (from, to)
    where
      is : IsRead by_frame layout rows bytes m
      is = read_with-ok by_frame layout rows bytes m e

      t : TypedMessage layout rows m
      t = typed-read bytes m w is

      length-front : length (take (size_of layout) bytes) ≡ size_of layout
      length-front = length-take-le (size_of layout) bytes is.long

      header_law : (fields_bytes layout m.header ≡ take (size_of layout) bytes) ↔ CanonFields layout (take (size_of layout) bytes)
      header_law =
          let law = same-fields layout (take (size_of layout) bytes) (IsBytes-take (size_of layout) bytes w.are_bytes) length-front in (
            (λ s. (length-front, law.0 (ap (fields_bytes layout) is.header ∙ s))),
            (λ c. ap (fields_bytes layout) (sym is.header) ∙ law.1 c.1),
          )

      body_law : (list_bytes (table_codec (table rows)).write m.body ≡ drop (size_of layout) bytes)
          ↔ IsCanonList (CanonTable (table rows)) by_frame [] (drop (size_of layout) bytes)
      body_law = body_laws.same [] (drop (size_of layout) bytes) m.body (wire-body bytes w) is.body f.body

      from : message_bytes layout rows m ≡ bytes → CanonWith by_frame layout rows bytes
      from s = record {
        header = header_law.0 (sym (front-message m t) ∙ ap (take (size_of layout)) s);
        body = body_law.0 (sym (rest-message m t) ∙ ap (drop (size_of layout)) s);
      }

      to : CanonWith by_frame layout rows bytes → message_bytes layout rows m ≡ bytes
      to c = ap₂ (λ (a b : List ℕ). a ++ b) (header_law.1 c.header) (body_law.1 c.body) ∙ take-append-drop (size_of layout) bytes

  reads-message : (bytes : List ℕ) → IsWireBytes bytes → CanonWith by_frame layout rows bytes
      → (m : Message) × (read_with by_frame layout rows bytes ≡ Ok m) × FitsMessage layout rows m
  reads-message bytes w c =
      let wire = wire-body bytes w in
      let r = body_laws.reads [] (drop (size_of layout) bytes) wire c.body in
      let same = (body_laws.same [] (drop (size_of layout) bytes) r.0 wire r.1 r.2).1 c.body in
      let long = front_long c.header.0 in
      let m : Message = record { header = read_fields layout (take (size_of layout) bytes); body = r.0 } in (
        m,
        ok-read_with by_frame layout rows bytes m (record { long = long; header = refl; body = r.1 }),
        record { body = r.2; whole = rw (same, length-drop) (omega (arith, w.long)) },
      )
    where
      front_long : length (take (size_of layout) bytes) ≡ size_of layout → size_of layout ≤ length bytes
      front_long e = let h = length-take (size_of layout) bytes in omega arith

  -- the laws of messages
  pub message_laws : Laws IsWireBytes (message_codec by_frame by_value layout rows) (λ kind bytes. CanonWith by_frame layout rows bytes)
  message_laws = record {
    makes = makes-message;
    typed = λ kind bytes m w e. typed-read bytes m w (read_with-ok by_frame layout rows bytes m e);
    back = λ kind m t f. back-message m t f;
    same = λ kind bytes m w e f. same-message bytes m w e f;
    reads = λ kind bytes w c. reads-message bytes w c;
  }
