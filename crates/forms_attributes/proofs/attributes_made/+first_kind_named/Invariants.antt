use Rattle.std.proofs.Common.{length}
use Rattle.forms_attributes.proofs.attributes_made.+first_kind_named.Given as goal

abbrev pub decreases-first_kind_named : goal.decreases-first_kind_named
decreases-first_kind_named l = length l.items.now
