-- A message that is read in two steps: its header, and then its attributes.
use Rattle.std.proofs.Common.{◌≡◌, List, ℕ, [], drop, refl, sym, ◌∙◌}
use Rattle.std.proofs.lemmas.Bool.{le-ltb}
use Rattle.nla_frames.specs.declared.error.DecodeError.{DecodeError}
use Rattle.nla_frames.specs.Fault.{Returns, read_as, refused}
use Rattle.nla_frames.specs.Frame.{Frame}
use Rattle.nla_frames.specs.Place.{Sets}
use Rattle.nla_frames.specs.Reading.{read_list}
use Rattle.nla_frames.proofs.Outcomes.{Returns-err}
use Rattle.tc_canon.specs.Descriptor.{Field, Rows, table}
use Rattle.tc_canon.specs.Layouts.{size_of}
use Rattle.tc_meaning.specs.Tree.{Scalar, Attribute}
use Rattle.tc_meaning.specs.Content.{read_record}
use Rattle.tc_meaning.specs.Meaning.{table_codec}
use Rattle.tc_meaning.specs.Message.{Message, read_with}
use Rattle.tc_meaning.proofs.Fields.{read_record-ok, read_fields-take}
use Rattle.tc_meaning.proofs.MessageLaws.{ok-read_with}

module _ (sets : Sets Frame) (layout : List Field) (rows : Rows) (bytes : List ℕ) (header : List Scalar)
    (header-is : read_as header ≡ read_record layout bytes) where
  -- its list is read
  pub message_read : (body : List Attribute) → read_list (table_codec (table rows)).read sets [] (drop (size_of layout) bytes) ≡ read_as body
      → read_with sets layout rows bytes ≡ read_as (record { header = header; body = body })
  message_read body body-is =
      let record_is = read_record-ok layout bytes header (sym header-is) in
      ok-read_with sets layout rows bytes (record { header = header; body = body }) (record {
        long = record_is.0;
        header = sym (read_fields-take layout bytes record_is.0) ∙ record_is.1;
        body = body-is;
      })

  -- its list is refused
  pub message_refused : (e : DecodeError)
      → Returns (refused {X = List Attribute} e) (read_list (table_codec (table rows)).read sets [] (drop (size_of layout) bytes))
      → Returns (refused {X = Message} e) (read_with sets layout rows bytes)
  unfolding read_with
  message_refused e given =
      let record_is = read_record-ok layout bytes header (sym header-is) in
      Returns-err e (read_list (table_codec (table rows)).read sets [] (drop (size_of layout) bytes)) (read_with sets layout rows bytes) given
      (λ is. rw (le-ltb _ _ record_is.0, is) refl)
