-- The bytes of a message: its header, and then its attributes.
use Rattle.std.proofs.Common.{◌≡◌, ℕ, ◌+◌, ◌-◌, ◌≤◌, ◌<◌, ◌^◌, Option, Some, None, List, ◌++◌, length, take, drop, sym, ap, ◌∙◌, arith}
use Rattle.std.proofs.lemmas.List.{length-append, length-take, length-drop}
use Rattle.std.proofs.lemmas.Grind.{common_steps}
use Rattle.std.specs.Option.{SomeIff}
use Rattle.nla_frames.specs.Emission.{Measures, ListFits, Writes, HasRoom, list_bytes}
use Rattle.nla_frames.proofs.Writing.{back_and_front}
use Rattle.tc_canon.specs.Descriptor.{Field, Rows, table}
use Rattle.tc_canon.specs.Layouts.{size_of}
use Rattle.tc_meaning.specs.Layout.{fields_bytes, TypedFields}
use Rattle.tc_meaning.specs.Meaning.{table_codec}
use Rattle.tc_meaning.specs.Message.{Message, FitsMessage, message_bytes}
use Rattle.tc_meaning.proofs.Fields.{length-fields_bytes}
use borrow.Rule.Slice.PartMut.{put_mid}

-- a back that is written, and then so many bytes before it
pieces_written : (front back old after new : List ℕ) (n : ℕ) → length front ≡ n → HasRoom (front ++ back) old
    → Writes back (take (length old - n) (drop n old)) after
    → Writes front (put_mid n (length old - n) old after) new → Writes (front ++ back) old new
pieces_written front back old after new n long room written_back written_front =
    back_and_front front back old after new n (sym long) (omega (arith, length-append front back)) written_back written_front

module _ (layout : List Field) (rows : Rows) (m : Message) (typed : TypedFields layout m.header) where
  abbrev body_bytes : List ℕ
  body_bytes = list_bytes (table_codec (table rows)).write m.body

  front_length : length (fields_bytes layout m.header) ≡ size_of layout
  front_length = length-fields_bytes layout m.header typed

  -- how many bytes a message has
  message_length : length (message_bytes layout rows m) ≡ size_of layout + length body_bytes
  unfolding message_bytes
  message_length = length-append (fields_bytes layout m.header) body_bytes ∙ ap (λ (n : ℕ). n + length body_bytes) front_length

  -- it is written if its attributes are, and then its header
  pub message_written : (old after new : List ℕ) → HasRoom (message_bytes layout rows m) old
      → Writes body_bytes (take (length old - size_of layout) (drop (size_of layout) old)) after
      → Writes (fields_bytes layout m.header) (put_mid (size_of layout) (length old - size_of layout) old after) new
      → Writes (message_bytes layout rows m) old new
  unfolding message_bytes
  message_written old after new room written_body written_header =
      pieces_written (fields_bytes layout m.header) body_bytes old after new (size_of layout) front_length room written_body written_header

  -- where it has room, so have its header and its attributes
  pub room_for_header : (buffer : List ℕ) → HasRoom (message_bytes layout rows m) buffer → size_of layout ≤ length buffer
  room_for_header buffer room = omega (arith, message_length, room)

  pub room_for_body : (buffer : List ℕ) → HasRoom (message_bytes layout rows m) buffer
      → HasRoom body_bytes (take (length buffer - size_of layout) (drop (size_of layout) buffer))
  room_for_body buffer room = simp (length-take, length-drop) (omega (arith, message_length, room))

  -- a part that is put back leaves as many bytes
  pub header_before_part : (buffer part : List ℕ) → size_of layout ≤ length buffer
      → length part ≡ length (take (length buffer - size_of layout) (drop (size_of layout) buffer))
      → HasRoom (fields_bytes layout m.header) (put_mid (size_of layout) (length buffer - size_of layout) buffer part)
  header_before_part buffer part long same =
      let whole : length (put_mid (size_of layout) (length buffer - size_of layout) buffer part) ≡ length buffer = grind (arith, common_steps) in
      omega (arith, front_length, whole)

  -- it is measured by its list and its header
  pub message_measured : (len : ℕ) (measured : Option ℕ)
      → ListFits (table_codec (table rows)).Fits (table_codec (table rows)).write m.body × (len ≡ length body_bytes)
      → SomeIff measured (len + size_of layout < 2 ^ 64) (len + size_of layout) → Measures measured (FitsMessage layout rows m) (message_bytes layout rows m)
  message_measured len None list over = λ fits. over (omega (arith, fits.whole, list.1))
  message_measured len (Some n) list sum = (record { body = list.0; whole = omega (arith, sum.0, list.1) }, omega (arith, sum.1, list.1, message_length))
