-- A list read at its row is the table's reading.
use Rattle.std.proofs.Common.{◌≡◌, ℕ, List, Ok, refl}
use Rattle.nla_frames.specs.declared.error.DecodeError.{DecodeError}
use Rattle.nla_frames.specs.Fault.{Outcome, Returns, refused}
use Rattle.nla_frames.specs.Frame.{Frame, type_of}
use Rattle.nla_frames.specs.Reading.{read_list, keep}
use Rattle.nla_frames.proofs.Outcomes.{Returns-err}
use Rattle.tc_canon.specs.Descriptor.{Table, Rows, list_of}
use Rattle.tc_meaning.specs.Tree.{Attribute, known, items, attributes_of}
use Rattle.tc_meaning.specs.Meaning.{class_codec, table_codec, rows_codec, row_frames}

module _ (rows : Rows) (t : Table) (n word : ℕ) (row : rows_codec rows n ≡ row_frames word n (class_codec (list_of t))) where
  pub reads_items : (k : List ℕ) (f : Frame) → type_of f.word ≡ n → (xs : List Attribute)
      → ◌≡◌ {A = Outcome (List Attribute)} (read_list (table_codec t).read keep k f.value) (Ok xs)
      → ◌≡◌ {A = Outcome Attribute} ((rows_codec rows (type_of f.word)).read k f) (Ok (known n (items (attributes_of xs))))
  reads_items k f here xs is = rw (here, row, is) refl

  pub refuses_items : (k : List ℕ) (f : Frame) → type_of f.word ≡ n → (e : DecodeError) → Returns (refused e) (read_list (table_codec t).read keep k f.value)
      → Returns (refused e) ((rows_codec rows (type_of f.word)).read k f)
  refuses_items k f here e given =
      Returns-err e (read_list (table_codec t).read keep k f.value) ((rows_codec rows (type_of f.word)).read k f) given (λ is. rw (here, row, is) refl)
