-- The serde events of a message.
use Rattle.std.specs.Prelude.{ℕ, List}
use Rattle.serde.specs.Event.{Event, Log}
use Rattle.nla_frames.specs.Codec.{Codec}
use Rattle.tc_meaning.specs.Message.{Message}
use Rattle.tc_meaning.specs.Whole.{tc_bytes, act_bytes}
use Rattle.forms_values.specs.declared.form.Form.{Form}
use Rattle.forms_values.specs.Sent.{events, Sent}
use Rattle.forms_json.specs.Shown.{shown_of}
use Rattle.forms_kinds.specs.Table.{tc_tables, tc_message, action_message}

-- the message fits, and the JSON of its bytes is sent
abbrev pub SentIfFits : {X : Type 0} → Codec (List ℕ) X → Form → X → Log → Log → Type 0
SentIfFits codec form x old new = codec.Fits x × Sent (events (shown_of tc_tables form (codec.write x))) old new

-- the events of a traffic control message that fits
abbrev pub tc_events : Message → List Event
tc_events m = events (shown_of tc_tables tc_message (tc_bytes m))

-- the events of an action message that fits
abbrev pub action_events : Message → List Event
action_events m = events (shown_of tc_tables action_message (act_bytes m))
