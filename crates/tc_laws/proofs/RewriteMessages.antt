-- Whole messages that are written and read again.
use Rattle.std.proofs.Common.{◌≡◌, ◌↔◌, ℕ, ◌≤◌, true, List, [], ◌++◌, length, map, take, drop, Ok, ap, subst, ◌∙◌, arith, length-append}
use Rattle.std.specs.List.{flat_map, AllByRecursion}
use Rattle.std.proofs.lemmas.List.{append_cancel_left}
use Rattle.nla_frames.specs.Frame.{Frame, IsWireFrame}
use Rattle.nla_frames.specs.Place.{Sets}
use Rattle.nla_frames.specs.Reading.{read_list}
use Rattle.nla_frames.specs.Value.{strip}
use Rattle.nla_frames.specs.Emission.{list_bytes}
use Rattle.nla_frames.specs.Codec.{Laws, IsWireBytes, list_codec}
use Rattle.tc_canon.specs.Descriptor.{Field, Rows, table}
use Rattle.tc_canon.specs.Layouts.{size_of}
use Rattle.tc_canon.specs.Canonical.{CanonTable}
use Rattle.tc_meaning.specs.Tree.{Attribute}
use Rattle.tc_meaning.specs.Layout.{read_fields, fields_bytes, SettledFields}
use Rattle.tc_meaning.specs.Meaning.{table_codec}
use Rattle.tc_meaning.specs.Sound.{is_sound_rows}
use Rattle.tc_meaning.specs.Message.{Message, read_with, message_bytes, FitsMessage, TypedMessage, SettledWith, message_codec}
use Rattle.tc_laws.specs.Loose.{without_nuls, table_parts, message_parts}
use Rattle.tc_laws.specs.Norm.{trimmed_table, next, norm}
use Rattle.tc_meaning.proofs.MessageLaws.{read_with-ok, ok-read_with, wire-body, front-message, rest-message, length-message, typed-read, header-back}
use Rattle.tc_laws.proofs.TrimLaws.{IsWhole}
use Rattle.tc_laws.proofs.RewriteValues.{RewriteLaws, IsSettledPart}
use Rattle.tc_laws.proofs.RewriteLists.{next_list}
use Rattle.tc_laws.proofs.NormTables.{norm_list, table_norm}
use Rattle.tc_laws.proofs.RewriteTables.{table_next, settled-read}

module _ (by_frame : Sets Frame) (by_value : Sets Attribute) (layout : List Field) (rows : Rows) (sound : is_sound_rows rows ≡ true)
    (laws : Laws IsWireFrame (table_codec (table rows)) (CanonTable (table rows)))
    (agree : (kind : List ℕ) (f : Frame) (x : Attribute) → IsWireFrame f → (table_codec (table rows)).read kind f ≡ Ok x → by_frame f ≡ by_value x)
    (stays : (change : List ℕ → List ℕ) (x : Attribute) → by_value (trimmed_table change (table rows) x) ≡ by_value x) where
  body_next : RewriteLaws IsWireBytes length (list_codec by_frame by_value (table_codec (table rows))) (map (trimmed_table strip (table rows)))
      (flat_map (table_parts (table rows)))
  body_next = next_list (table_codec (table rows)) (CanonTable (table rows)) laws (trimmed_table strip (table rows)) (table_parts (table rows))
      (table_next (table rows) sound) by_frame by_value agree (stays strip)

  settled-message : (bytes : List ℕ) (m : Message) → IsWireBytes bytes → read_with by_frame layout rows bytes ≡ Ok m
      → SettledWith layout rows by_value m ↔ AllByRecursion IsSettledPart (message_parts rows m)
  settled-message bytes m w e =
      let is = read_with-ok by_frame layout rows bytes m e in
      let law = body_next.settled [] (drop (size_of layout) bytes) m.body (wire-body by_frame by_value layout rows laws agree bytes w) is.body in
      let header = subst (SettledFields layout) is.header (settled-read layout (take (size_of layout) bytes)) in
      (λ s. law.0 s.body, λ all. record { header = header; body = law.1 all })

  again-message : (bytes : List ℕ) (m : Message) → IsWireBytes bytes → read_with by_frame layout rows bytes ≡ Ok m → FitsMessage layout rows m
      → read_with by_frame layout rows (message_bytes layout rows m) ≡ Ok (next rows m)
  again-message bytes m w e f =
      let is = read_with-ok by_frame layout rows bytes m e in
      let t = typed-read by_frame by_value layout rows laws agree bytes m w is in
      let header = subst (SettledFields layout) is.header (settled-read layout (take (size_of layout) bytes)) in
      let body = body_next.again [] (drop (size_of layout) bytes) m.body (wire-body by_frame by_value layout rows laws agree bytes w) is.body f.body in
      ok-read_with by_frame layout rows (message_bytes layout rows m) (next rows m) (record {
        long = rw (length-message by_frame by_value layout rows laws agree m t) (omega arith);
        header = ap (read_fields layout) (front-message by_frame by_value layout rows laws agree m t)
            ∙ (header-back by_frame by_value layout rows laws agree m.header t.header).1 header;
        body = ap (read_list (table_codec (table rows)).read by_frame []) (rest-message by_frame by_value layout rows laws agree m t) ∙ body;
      })

  fits-message : (m : Message) → FitsMessage layout rows m → FitsMessage layout rows (next rows m)
  fits-message m f =
      let less = body_next.smaller m.body in
      record { body = body_next.fits m.body f.body; whole = omega (arith, less, f.whole) }

  smaller-message : (m : Message) → length (message_bytes layout rows (next rows m)) ≤ length (message_bytes layout rows m)
  unfolding message_bytes
  smaller-message m =
      let less = body_next.smaller m.body in
      let a = length-append (fields_bytes layout m.header) (list_bytes (table_codec (table rows)).write (map (trimmed_table strip (table rows)) m.body)) in
      let b = length-append (fields_bytes layout m.header) (list_bytes (table_codec (table rows)).write m.body) in
      omega (arith, less, a, b)

  same-message : (m : Message) → TypedMessage layout rows m → FitsMessage layout rows m → message_bytes layout rows (next rows m) ≡ message_bytes layout rows m
      → AllByRecursion IsWhole (message_parts rows m)
  unfolding message_bytes
  same-message m t f e = body_next.same m.body t.body f.body (append_cancel_left (fields_bytes layout m.header) _ _ e)

  whole-message : (m : Message) → AllByRecursion IsWhole (message_parts rows m) → message_bytes layout rows (next rows m) ≡ message_bytes layout rows m
  unfolding message_bytes
  whole-message m all = ap (λ (body : List ℕ). fields_bytes layout m.header ++ body) (body_next.whole m.body all)

  -- the norm of what was read is settled
  pub message_norm : (bytes : List ℕ) (m : Message) → IsWireBytes bytes → read_with by_frame layout rows bytes ≡ Ok m
      → SettledWith layout rows by_value (norm rows m)
  message_norm bytes m w e =
      let is = read_with-ok by_frame layout rows bytes m e in
      let body = norm_list (table_codec (table rows)) (trimmed_table without_nuls (table rows)) (table_norm (table rows) sound) by_frame by_value agree
      (stays without_nuls) in
      let header = subst (SettledFields layout) is.header (settled-read layout (take (size_of layout) bytes)) in
      record { header = header; body = body [] (drop (size_of layout) bytes) m.body (wire-body by_frame by_value layout rows laws agree bytes w) is.body }

  pub message_next : RewriteLaws IsWireBytes length (message_codec by_frame by_value layout rows) (next rows) (message_parts rows)
  message_next = record {
    settled = λ k bytes m w e. settled-message bytes m w e;
    again = λ k bytes m w e f. again-message bytes m w e f;
    typed = λ m t. record { header = t.header; body = body_next.typed m.body t.body };
    fits = fits-message;
    smaller = smaller-message;
    same = same-message;
    whole = whole-message;
  }
