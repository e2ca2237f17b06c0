use Rattle.std.proofs.Common.{◌≡◌, drop}
use Rattle.forms_values.specs.Places.{kind_place}
use Rattle.forms_values.specs.Tables.{kinds_view}
use Rattle.forms_attributes.proofs.rows.kind_place.Given as goal

-- the place from here is the place from the start
abbrev pub invariant-loop-it : goal.invariant-loop-it
invariant-loop-it l = kind_place l.kind l.others (kinds_view l.kinds) ≡ kind_place l.kind l.others (kinds_view (drop l.it-index l.kinds))
