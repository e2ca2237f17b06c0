use Rattle.std.proofs.Common.{length}
use Rattle.tc_records.proofs.laws.selectors.+keys_forget_nothing.Given as goal

abbrev pub decreases-keys_forget_nothing : goal.decreases-keys_forget_nothing
decreases-keys_forget_nothing l = length l.a.now
