-- JSON whose text is read unchanged: it nests at most n levels deep, its numbers are integers of 64 bits, and no object in it has a
-- name twice.
use Rattle.std.specs.Prelude.{ℕ, zero, suc, ◌<◌, ◌^◌, pos, negsuc}
use Rattle.serde_json.specs.Data.{Num, unsigned, negative, float, Data, null, boolean, number, string, array, object}
use Rattle.serde_json.specs.Data.{Items, no_items, item, Members, no_members, member}
use Rattle.forms_json.proofs.Ordered.{Distinct}

-- an integer that a reader keeps
abbrev pub IsKept : Num → Type 0
IsKept (unsigned n) = n < 2 ^ 64
IsKept (negative (pos n)) = ⊥
IsKept (negative (negsuc n)) = n < 2 ^ 63
IsKept (float x) = ⊥

abbrev mutual
  pub Readable : Data → ℕ → Type 0
  Readable null n = ⊥
  Readable (boolean b) n = Unit {0}
  Readable (number x) n = IsKept x
  Readable (string s) n = Unit {0}
  Readable (array ds) zero = ⊥
  Readable (array ds) (suc n) = ItemsReadable ds n
  Readable (object ms) zero = ⊥
  Readable (object ms) (suc n) = Distinct ms × MembersReadable ms n

  pub ItemsReadable : Items → ℕ → Type 0
  ItemsReadable no_items n = Unit {0}
  ItemsReadable (item d ds) n = Readable d n × ItemsReadable ds n

  pub MembersReadable : Members → ℕ → Type 0
  MembersReadable no_members n = Unit {0}
  MembersReadable (member k d ms) n = Readable d n × MembersReadable ms n

-- ---- it may nest deeper

mutual
  pub deeper : (d : Data) (n : ℕ) → Readable d n → Readable d (suc n)
  deeper null n h = absurd h
  deeper (boolean b) n h = tt
  deeper (number x) n h = h
  deeper (string s) n h = tt
  deeper (array ds) zero h = absurd h
  deeper (array ds) (suc n) h = items_deeper ds n h
  deeper (object ms) zero h = absurd h
  deeper (object ms) (suc n) h = (h.0, members_deeper ms n h.1)

  items_deeper : (ds : Items) (n : ℕ) → ItemsReadable ds n → ItemsReadable ds (suc n)
  items_deeper no_items n h = tt
  items_deeper (item d ds) n h = (deeper d n h.0, items_deeper ds n h.1)

  members_deeper : (ms : Members) (n : ℕ) → MembersReadable ms n → MembersReadable ms (suc n)
  members_deeper no_members n h = tt
  members_deeper (member k d ms) n h = (deeper d n h.0, members_deeper ms n h.1)
