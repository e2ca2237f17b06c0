-- The value of an option of flower, and the types that have it.
use Rattle.std.specs.Prelude.{◌≡◌, ◌&&◌, ◌==◌, not, ℕ, Bool, true, map, string_bytes}
use Rattle.std.specs.Net.Addr.{ipv4_octets, ipv6_octets}
use Rattle.nla_frames.specs.DefaultNla.{kept_frame}
use Rattle.tc_canon.specs.Descriptor.{le, be, array, is_within}
use Rattle.tc_canon.specs.Tables.Flower.{flower_options}
use Rattle.tc_meaning.specs.Tree.{Attribute, known, other, number, is_bytes, items, attributes_of}
use Rattle.tc_actions.specs.Action.{tc_action}
use Rattle.tc_flower.specs.declared.filters.flower.options.TcFilterFlowerOption.{TcFilterFlowerOption}
use Rattle.tc_flower.specs.declared.filters.flower.options.TcFilterFlowerOption.TheVariants.{Actions, MplsOpts}
use Rattle.tc_flower.specs.declared.filters.flower.options.held.Held.{Held}
use Rattle.tc_flower.specs.declared.filters.flower.options.held.Held.TheVariants as held
use Rattle.tc_flower.specs.Mpls.{mpls_option}
use Rattle.tc_flower.specs.Spans.{holds}

-- the types of labels of connection tracking, which have 16 bytes, as an IPv6 address has
abbrev pub are_labels : ℕ → Bool
are_labels n = is_within 97 98 n

-- the types of options with this value
abbrev pub is_held_at : {A : Type 0} → Held A → ℕ → Bool
is_held_at (held.ClassId m) n = n == 1
is_held_at (held.Name name) n = n == 2
is_held_at (held.Actions actions) n = n == 3
is_held_at (held.Mac mac) n = holds (array 6) flower_options n
is_held_at (held.Ipv4 ip) n = holds (array 4) flower_options n
is_held_at (held.Ipv6 ip) n = holds (array 16) flower_options n && not (are_labels n)
is_held_at (held.Labels labels) n = are_labels n
is_held_at (held.U8 m) n = holds (le 1) flower_options n
is_held_at (held.U16 m) n = holds (le 2) flower_options n
is_held_at (held.U16Be m) n = holds (be 2) flower_options n
is_held_at (held.U32 m) n = holds (le 4) flower_options n
is_held_at (held.U32Be m) n = holds (be 4) flower_options n
is_held_at (held.Bits1 m) n = n == 68
is_held_at (held.Bits3 m) n = n == 69
is_held_at (held.Bits20 m) n = n == 70
is_held_at (held.MplsOpts options) n = n == 99
is_held_at (held.Other nla) n = true

-- the abstract option of a type with this value
abbrev pub held_at : {A : Type 0} → ℕ → Held A → Attribute
held_at n (held.ClassId m) = known n (number m)
held_at n (held.Name name) = known n (is_bytes (string_bytes name.now))
held_at n (held.Actions actions) = known n (items (attributes_of (map tc_action actions.now.items)))
held_at n (held.Mac mac) = known n (is_bytes mac)
held_at n (held.Ipv4 ip) = known n (is_bytes (ipv4_octets ip))
held_at n (held.Ipv6 ip) = known n (is_bytes (ipv6_octets ip))
held_at n (held.Labels labels) = known n (is_bytes labels)
held_at n (held.U8 m) = known n (number m)
held_at n (held.U16 m) = known n (number m)
held_at n (held.U16Be m) = known n (number m)
held_at n (held.U32 m) = known n (number m)
held_at n (held.U32Be m) = known n (number m)
held_at n (held.Bits1 m) = known n (number m)
held_at n (held.Bits3 m) = known n (number m)
held_at n (held.Bits20 m) = known n (number m)
held_at n (held.MplsOpts options) = known n (items (attributes_of (map mpls_option options.now.items)))
held_at n (held.Other nla) = other (kept_frame nla.now).word (kept_frame nla.now).value

-- a list in the value is the option's
abbrev pub IsListHeld : {A : Type 0} → TcFilterFlowerOption A → Held A → Type 0
IsListHeld option (held.Actions actions) = option ≡ Actions actions.now
IsListHeld option (held.MplsOpts options) = option ≡ MplsOpts options.now
IsListHeld option held = Unit {0}
