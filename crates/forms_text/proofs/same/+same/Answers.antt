use Rattle.std.proofs.Common.{◌≡◌, length, arith}
use Rattle.forms_text.proofs.Alike.{same_length}
use Rattle.forms_text.proofs.same.+same.Goals as goal

pub same_items-returns-then-len : goal.same_items-returns-then-len
same_items-returns-then-len t c = (
  λ e. cc,
  λ same.
      let e : length c.args.one.now.items ≡ length c.args.other.now.items = same_length c.args.one.now.items c.args.other.now.items same in
      absurd (omega arith),
)
