-- The value of an option, read by its row.
use Rattle.std.proofs.Common.{◌≡◌, ℕ, List, [], ap, refl, ◌∙◌}
use Rattle.nla_frames.specs.declared.error.DecodeError.{DecodeError}
use Rattle.nla_frames.specs.Fault.{Returns, seen, read_as, refused}
use Rattle.nla_frames.specs.Frame.{Frame, type_of}
use Rattle.nla_frames.specs.Codec.{Codec}
use Rattle.nla_frames.proofs.Outcomes.{Returns-err}
use Rattle.tc_canon.specs.Descriptor.{Rows, table}
use Rattle.tc_meaning.specs.Tree.{known}
use Rattle.tc_meaning.specs.Content.{Shape, via}
use Rattle.tc_meaning.specs.Meaning.{table_codec, rows_codec, row_frames}

-- of the type that has this shape and this codec in these rows
module _ {X : Type 0} (rows : Rows) (n : ℕ) (shape : Shape X) (codec : Codec (List ℕ) X)
    (row : rows_codec rows n ≡ row_frames n n (via shape codec)) (f : Frame) (here : type_of f.word ≡ n) where
  by_row : (table_codec (table rows)).read [] f ≡ seen (known n) (seen shape.into (codec.read [] f.value))
  by_row = rw (here, row) refl

  pub value_read : (x : X) → codec.read [] f.value ≡ read_as x → (table_codec (table rows)).read [] f ≡ read_as (known n (shape.into x))
  value_read x is = by_row ∙ ap (λ o. seen (known n) (seen shape.into o)) is

  pub value_refused : (e : DecodeError) → Returns (refused e) (codec.read [] f.value) → Returns (refused e) ((table_codec (table rows)).read [] f)
  value_refused e given = Returns-err e _ _ given (λ is. by_row ∙ ap (λ o. seen (known n) (seen shape.into o)) is)
