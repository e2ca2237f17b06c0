-- The bytes of two messages are the same if and only if their JSON is.
use Rattle.std.proofs.Common.{◌≡◌, ◌↔◌, ℕ, List, [], ap}
use Rattle.nla_frames.specs.Value.{IsBytes}
use Rattle.forms_values.specs.declared.form.Form.{Form}
use Rattle.forms_values.specs.Sent.{events}
use Rattle.forms_json.specs.Shown.{shown_of}
use Rattle.forms_values.specs.Tables.{Table}
use Rattle.forms_values.specs.Widths.{deepest}
use Rattle.forms_json.proofs.Law.{shown_injective}
use Rattle.tc_message_json.proofs.Events.{one_json}

same_shown : (table : Table) (form : Form) (a b : List ℕ) → IsBytes a → IsBytes b → shown_of table form a ≡ shown_of table form b → a ≡ b
unfolding shown_of
same_shown table form a b are are' e = shown_injective table deepest [] form a b are are' e

pub same_sent : (table : Table) (form : Form) (a b : List ℕ) → IsBytes a → IsBytes b
    → (a ≡ b) ↔ (events (shown_of table form a) ≡ events (shown_of table form b))
same_sent table form a b are are' =
    (λ e. ap (λ (x : List ℕ). events (shown_of table form x)) e, λ e. same_shown table form a b are are' (one_json _ _ e))
