-- Events that are sent one after the other.
use Rattle.std.proofs.Common.{◌≡◌, ℕ, ◌+◌, ◌-◌, List, [], ◌∷◌, ◌++◌, length, Some, None, subst, ◌∙◌, sym, ap, append_assoc, append-nil}
use Rattle.std.specs.Prelude.{◌==◌}
use Rattle.std.proofs.lemmas.Bool.{cond-true, cond-false, false_from_ne_true, eq-eqb}
use Rattle.std.specs.Str.{IsUtf8, is_utf8}
use Rattle.std.proofs.lemmas.Str.{IsUtf8-from_is_utf8, is_utf8-from_IsUtf8}
use Rattle.serde.specs.Event.{Event, Log, Logs, text, field_key, map_begins, map_ends, seq_begins, seq_ends}
use Rattle.tc_texts.specs.Addresses.{mac_text}
use Rattle.forms_values.specs.declared.form.Form.TheVariants as form
use Rattle.forms_values.specs.Raw.{raw}
use Rattle.forms_values.specs.Sent.{Sent, events, items_events, members_events}
use Rattle.forms_values.specs.Tables.{no_table}
use Rattle.forms_values.specs.Values.{plain_shown}
use Rattle.serde.specs.declared.name.Case.TheVariants.{AsIs}
use Rattle.serde_json.specs.Data.{no_members, member, object, Data, Items, array, Members, string}

pub sent_then : (a b : List Event) (old mid new : Log) → Sent a old mid → Sent b mid new → Sent (a ++ b) old new
sent_then a b None mid new h k = tt
sent_then a b (Some before) mid new h k = subst (λ m. Sent b m new) h k ∙ ap Some (append_assoc before a b)

pub sent_one : (e : Event) (old new : Log) → Logs old new e → Sent (e ∷ []) old new
sent_one e None new h = tt
sent_one e (Some before) new h = h

-- at the start nothing is sent
pub sent_none : (old : Log) → Sent [] old old
sent_none None = tt
sent_none (Some before) = ap Some (sym (append-nil before))

pub mac_sent : (b t : List ℕ) (old new : Log) → length b ≡ 6 → t ≡ mac_text b → Logs old new (text t) → Sent (events (plain_shown no_table form.Mac b)) old new
mac_sent b t old new long same h =
    let shown : plain_shown no_table form.Mac b ≡ string (mac_text b) = cond-true (length b == 6) (string (mac_text b)) (raw b) (eq-eqb (length b) 6 long) in
    subst (λ d. Sent (events d) old new) (sym shown) (sent_one (text (mac_text b)) old new (subst (λ x. Logs old new (text x)) same h))

-- a list between its begin and its end
pub list_sent : (ds : Items) (old first last new : Log) → Logs old first (seq_begins None) → Sent (items_events ds) first last → Logs last new seq_ends
    → Sent (events (array ds)) old new
list_sent ds old first last new h k e =
    sent_then (seq_begins None ∷ []) (items_events ds ++ seq_ends ∷ []) old first new (sent_one (seq_begins None) old first h)
    (sent_then (items_events ds) (seq_ends ∷ []) first last new k (sent_one seq_ends last new e))

-- an object between its begin and its end
pub map_sent : (ms : Members) (old first last new : Log) → Logs old first (map_begins None) → Sent (members_events ms) first last → Logs last new map_ends
    → Sent (events (object ms)) old new
map_sent ms old first last new h k e =
    sent_then (map_begins None ∷ []) (members_events ms ++ map_ends ∷ []) old first new (sent_one (map_begins None) old first h)
    (sent_then (members_events ms) (map_ends ∷ []) first last new k (sent_one map_ends last new e))

-- a member, and the members after it
pub member_sent : (name : List ℕ) (d : Data) (ms : Members) (old named held new : Log) → Logs old named (field_key name AsIs) → Sent (events d) named held
    → Sent (members_events ms) held new → Sent (members_events (member name d ms)) old new
member_sent name d ms old named held new h k after =
    sent_then (field_key name AsIs ∷ []) (events d ++ members_events ms) old named new (sent_one (field_key name AsIs) old named h)
    (sent_then (events d) (members_events ms) named held new k after)

-- an object with a member, and with the members after it
pub object_sent : (name : List ℕ) (d : Data) (ms : Members) (old first named held last new : Log) → Logs old first (map_begins None)
    → Logs first named (field_key name AsIs) → Sent (events d) named held → Sent (members_events ms) held last → Logs last new map_ends
    → Sent (events (object (member name d ms))) old new
object_sent name d ms old first named held last new h k it after e =
    map_sent (member name d ms) old first last new h (member_sent name d ms first named held last k it after) e

-- a member that is sent whole, and the members after it
pub then_sent : (name : List ℕ) (d : Data) (ms : Members) (old mid new : Log) → Sent (members_events (member name d no_members)) old mid
    → Sent (members_events ms) mid new → Sent (members_events (member name d ms)) old new
then_sent name d ms old mid new one after =
    sent_then (field_key name AsIs ∷ events d) (members_events ms) old mid new
    (subst (λ es. Sent (field_key name AsIs ∷ es) old mid) (append-nil (events d)) one) after

-- ---- texts without a NUL

pub bare_sent : (b t : List ℕ) (old new : Log) → t ≡ b → IsUtf8 b → Logs old new (text t) → Sent (events (plain_shown no_table form.Bare b)) old new
bare_sent b t old new same utf8 h =
    let shown : plain_shown no_table form.Bare b ≡ string b = cond-true (is_utf8 b) (string b) (raw b) (is_utf8-from_IsUtf8 b utf8) in
    subst (λ d. Sent (events d) old new) (sym shown) (sent_one (text b) old new (subst (λ x. Logs old new (text x)) same h))

pub bare_raw : (b : List ℕ) (old new : Log) → (IsUtf8 b → ⊥) → Sent (events (raw b)) old new → Sent (events (plain_shown no_table form.Bare b)) old new
bare_raw b old new not h =
    let shown : plain_shown no_table form.Bare b ≡ raw b =
    cond-false (is_utf8 b) (string b) (raw b) (false_from_ne_true (is_utf8 b) (λ e. not (IsUtf8-from_is_utf8 b e))) in
    subst (λ d. Sent (events d) old new) (sym shown) h
