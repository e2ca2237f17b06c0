use Rattle.std.proofs.Common.{◌≡◌, ◌↔◌, refl, sym, ap, ◌∙◌, subst, inr, map, string_bytes}
use Rattle.std.proofs.lemmas.Iterator.{items_from_drains}
use Rattle.std.proofs.lemmas.Iterator.Adapters.{YieldsList-from_vec}
use Rattle.std.proofs.lemmas.List.{map-id}
use Rattle.std.specs.Vec.Iter.{into_iter_items}
use Rattle.tcrewrite_lib.specs.Arguments.{HasMode}
use Rattle.tc_capture.specs.declared.kind.MessageType.{MessageType}
use Rattle.tcrewrite_lib.specs.declared.program.Arguments.TheVariants.{Report}
use Rattle.tcrewrite_lib.proofs.program.read_arguments.Goals as goal

-- what was collected is all that the iterator had
pub returns-in-Ok-from_iter-clause-read : goal.returns-in-Ok-from_iter-clause-read
returns-in-Ok-from_iter-clause-read g c =
    let ran = c.in-Ok-from_iter.ensures.ran in
    let drained : map (λ y. y) ran.1 ≡ into_iter_items ran.0 =
    items_from_drains ran.1 ran.3 (YieldsList-from_vec (into_iter_items ran.0) refl ran.0.rest.ok.0) in
    let all : c.in-Ok-from_iter.words.items ≡ into_iter_items c.in-Ok.words = ran.4.0 ∙ sym (map-id ran.1) ∙ drained ∙ ap into_iter_items ran.2 in
    rw c.in-Ok.is (inr (subst (λ words. (mode : MessageType) → (c.parse_arguments.result ≡ Report mode) ↔ HasMode (map string_bytes words) mode)
    (c.deref.ensures.value ∙ all) c.parse_arguments.ensures.report))
