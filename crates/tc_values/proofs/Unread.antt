-- An attribute of a type that no row reads is kept raw.
use Rattle.std.proofs.Common.{◌≡◌, ℕ, ◌+◌, Bool, true, false, List, cond, refl}
use Rattle.std.specs.Prelude.{◌==◌}
use Rattle.nla_frames.specs.Fault.{read_as}
use Rattle.nla_frames.specs.Frame.{Frame}
use Rattle.nla_frames.specs.Reading.{keep}
use Rattle.nla_frames.specs.Codec.{Codec, list_codec}
use Rattle.tc_canon.specs.Descriptor.{Rows, others, types, unread, options, is_within}
use Rattle.tc_meaning.specs.Tree.{Attribute, other}
use Rattle.tc_meaning.specs.Content.{via}
use Rattle.tc_meaning.specs.Meaning.{a_list, choose, row_frames, unread_frames, options_frames, class_codec, rows_codec, kinds_codec}
use Rattle.tc_values.specs.Row.{reads_at}

module _ (kind : List ℕ) (f : Frame) where
  abbrev pub IsKept : Codec Frame Attribute → Type 0
  IsKept codec = codec.read kind f ≡ read_as (other f.word f.value)

  choose_kept : (b this_reads rest_reads : Bool) (this rest : Codec Frame Attribute) → (this_reads ≡ false → IsKept this) → (rest_reads ≡ false → IsKept rest)
      → cond b this_reads rest_reads ≡ false → IsKept (choose b this rest)
  choose_kept true this_reads rest_reads this rest by_this by_rest e = by_this e
  choose_kept false this_reads rest_reads this rest by_this by_rest e = by_rest e

  pub rows_kept : (rows : Rows) (n : ℕ) → reads_at rows n ≡ false → IsKept (rows_codec rows n)
  rows_kept others n e = refl
  rows_kept (types first last flags class rows) n e =
      let this = row_frames (flags + n) n (class_codec class) in
      choose_kept (is_within first last n) true (reads_at rows n) this (rows_codec rows n) (λ bad. absurd (cc bad)) (rows_kept rows n) e
  rows_kept (unread m class rows) n e =
      choose_kept (n == m) false (reads_at rows n) (unread_frames m (class_codec class)) (rows_codec rows n) (λ _. refl) (rows_kept rows n) e
  rows_kept (options m kinds rows) n e =
      let this = options_frames m kinds (via a_list (list_codec keep keep (kinds_codec kinds))) in
      choose_kept (n == m) true (reads_at rows n) this (rows_codec rows n) (λ bad. absurd (cc bad)) (rows_kept rows n) e
