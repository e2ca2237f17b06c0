use Rattle.std.proofs.Common.{true, false, sym, ◌∙◌}
use Rattle.nla_frames.proofs.Bytes.{IsBytes-slice}
use Rattle.forms_values.proofs.Leaves.{bits_found, bits_small}
use Rattle.forms_values.proofs.numbers.bits_of.Goals as goal

pub returns-then-is_big : goal.returns-then-is_big
returns-then-is_big c =
    let value = bits_found c.args.number true c.args.bytes.now c.big.result (sym c.is_big.ensures ∙ c.if-is_big.true) c.big.ensures in
    record { value = value; small = bits_small c.args.number c.args.bytes.now c.big.result c.requires (IsBytes-slice c.args.bytes.now c.type_inv.bytes) value }

pub returns-else-is_big : goal.returns-else-is_big
returns-else-is_big c =
    let value = bits_found c.args.number false c.args.bytes.now c.little.result (sym c.is_big.ensures ∙ c.if-is_big.false) c.little.ensures in
    record {
      value = value;
      small = bits_small c.args.number c.args.bytes.now c.little.result c.requires
          (IsBytes-slice c.args.bytes.now c.type_inv.bytes) value;
    }
