-- The abstract value of an action's times: a list of fields.
use Rattle.std.specs.Prelude.{List, [], ◌∷◌}
use Rattle.tc_meaning.specs.Tree.{Scalar, plain}
use Rattle.tc_records.specs.declared.actions.tcf.Tcf.{Tcf}

abbrev pub tcf_scalars : Tcf → List Scalar
tcf_scalars t = plain t.install ∷ plain t.lastuse ∷ plain t.expires ∷ plain t.firstuse ∷ []
