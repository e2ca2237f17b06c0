use Rattle.std.proofs.Common.{arith}
use Rattle.std.proofs.lemmas.Grind.{common_steps}
use Rattle.tc_texts.proofs.Numerals.{hex_1, hex_2, hex_3, hex_4}
use Rattle.tc_texts.proofs.digits.push_hex.Goals as goal
use Rattle.tc_texts.proofs.digits.push_hex.Goals.{then-n-ge4096, else-n-ge4096, then-n-ge256, else-n-ge256, then-n-ge16, else-n-ge16}

pub returns-clause-bytes : goal.returns-clause-bytes
returns-clause-bytes g c =
    elim c.if-n-ge4096.branch [
      | then-n-ge4096 w ↦ elim c.if-n-ge256.branch [
        | then-n-ge256 v ↦ elim c.if-n-ge16.branch [
          | then-n-ge16 u ↦ rw (hex_4 c.args.n (omega arith)) (grind (arith, common_steps))
          | else-n-ge16 u ↦ absurd (omega arith)
        ]
        | else-n-ge256 v ↦ absurd (omega arith)
      ]
      | else-n-ge4096 w ↦ elim c.if-n-ge256.branch [
        | then-n-ge256 v ↦ elim c.if-n-ge16.branch [
          | then-n-ge16 u ↦ rw (hex_3 c.args.n (omega arith) (omega arith)) (grind (arith, common_steps))
          | else-n-ge16 u ↦ absurd (omega arith)
        ]
        | else-n-ge256 v ↦ elim c.if-n-ge16.branch [
          | then-n-ge16 u ↦ rw (hex_2 c.args.n (omega arith) (omega arith)) (grind (arith, common_steps))
          | else-n-ge16 u ↦ rw (hex_1 c.args.n (omega arith)) (grind (arith, common_steps))
        ]
      ]
    ]
