-- The serde events of JSON, in order. The lengths of lists and objects aren't sent.
use Rattle.std.specs.Prelude.{◌≡◌, List, [], ◌∷◌, ◌++◌, Some, None, ⊤}
use Rattle.serde.specs.Event as event
use Rattle.serde.specs.Event.{Event, Log}
use Rattle.serde.specs.declared.name.Case.TheVariants.{AsIs}
use Rattle.serde_json.specs.Data.{Data, null, boolean, number, string, array, object, Items, no_items, item, Members, no_members, member}
use Rattle.serde_json.specs.Events.{number_event}

-- if the log of events is known, these are appended
abbrev pub Sent : List Event → Log → Log → Type 0
Sent es None new = ⊤
Sent es (Some before) new = new ≡ Some (before ++ es)

abbrev mutual
  pub events : Data → List Event
  events null = event.nothing ∷ []
  events (boolean b) = event.boolean b ∷ []
  events (number n) = number_event n ∷ []
  events (string s) = event.text s ∷ []
  events (array ds) = event.seq_begins None ∷ (items_events ds ++ event.seq_ends ∷ [])
  events (object ms) = event.map_begins None ∷ (members_events ms ++ event.map_ends ∷ [])

  pub items_events : Items → List Event
  items_events no_items = []
  items_events (item d ds) = events d ++ items_events ds

  pub members_events : Members → List Event
  members_events no_members = []
  members_events (member name d ms) = event.field_key name AsIs ∷ (events d ++ members_events ms)
