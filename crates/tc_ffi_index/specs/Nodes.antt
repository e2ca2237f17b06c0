-- The attributes of a message as C sees them.
use Rattle.std.specs.Prelude.{◌≡◌, ℕ, List, [], ◌∷◌, ◌++◌, length, take, drop, map, Option, Some, option_map, slice_get}
use Rattle.tc_index.specs.declared.table.Table.{Table}
use Rattle.tc_index.specs.declared.table.Table.TheVariants as the
use Rattle.tc_index.specs.Tables.{table_of}
use Rattle.tc_index.specs.Views.{NodeView}
use Rattle.tc_ffi_index.specs.declared.node.VtcNode.{VtcNode}

-- the tables in the order of their numbers, from 0
abbrev pub tables : List Table
tables =
    the.Message ∷ the.ActionMessage ∷ the.Stats2 ∷ the.Actions ∷ the.Action ∷ the.ActionOptions ∷ the.Mirror ∷ the.Nat ∷ the.TunnelKey
    ∷ the.Options ∷ the.FqCodel ∷ the.Ingress ∷ the.Flower ∷ the.U32 ∷ the.MatchAll ∷ the.Bpf ∷ the.Mpls ∷ the.Lse ∷ []

abbrev pub table_at : ℕ → Option Table
table_at n = slice_get tables n

-- the attribute in a slot, if its table number is valid
abbrev pub node_at : VtcNode → Option NodeView
node_at s = option_map (λ t. record { offset = s.offset; len = s.len; word = s.word; table = table_of t; depth = s.depth }) (table_at s.table)
