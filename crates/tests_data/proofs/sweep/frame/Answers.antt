use Rattle.std.proofs.Common.{◌≡◌, ℕ, length, replicate, ◌+◌, take, arith, refl}
use Rattle.std.proofs.lemmas.List.{take-replicate}
use Rattle.std.proofs.lemmas.Grind.{common_steps}
use Rattle.tests_data.specs.Inputs.{padding}
use Rattle.tests_data.proofs.sweep.frame.Goals as goal

pub returns : goal.returns
returns c short =
    let size = length c.args.value.now in
    let counted : c.unwrap_or-length.result ≡ 4 + size =
    grind (arith, common_steps, c.saturating_add.ensures, c.try_from.ensures, c.unwrap_or-length.ensures, short) in
    let zeros : take {A = ℕ} (padding size) (replicate 3 0) ≡ replicate (padding size) 0 = take-replicate (padding size) 3 0 (omega arith) in
    rw (
      c.in_ok-extend_from_slice-4.ensures.items,
      c.in_ok-extend_from_slice-3.ensures.items,
      c.in_ok-extend_from_slice-2.ensures.items,
      c.in_ok-extend_from_slice.ensures.items,
      c.new-bytes.ensures.items,
      c.to_le_bytes.ensures,
      c.to_le_bytes-2.ensures,
      counted,
      zeros,
    )
    refl
