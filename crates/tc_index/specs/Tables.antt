-- The tables of attributes in the language of the codec's tables.
use Rattle.tc_canon.specs.Descriptor.{every, own_list, table, by_kind, Rows, others}
use Rattle.tc_canon.specs.Descriptor as canon
use Rattle.tc_canon.specs.Tables.Messages.{attributes, action_message_attributes}
use Rattle.tc_canon.specs.Tables.Statistics.{stats2}
use Rattle.tc_canon.specs.Tables.Actions.{action_attributes, action_option_kinds, mirror_options, nat_options, tunnel_key_options}
use Rattle.tc_canon.specs.Tables.Options.{option_kinds, fq_codel_options, ingress_options, u32_options, matchall_options, bpf_options}
use Rattle.tc_canon.specs.Tables.Flower.{flower_options, mpls_options, lse_options}
use Rattle.tc_index.specs.declared.table.Table.{Table}
use Rattle.tc_index.specs.declared.table.Table.TheVariants as the

-- the rows of a table
abbrev pub rows_in : Table → Rows
rows_in the.Message = attributes
rows_in the.ActionMessage = action_message_attributes
rows_in the.Stats2 = stats2
rows_in the.Action = action_attributes
rows_in the.Mirror = mirror_options
rows_in the.Nat = nat_options
rows_in the.TunnelKey = tunnel_key_options
rows_in the.FqCodel = fq_codel_options
rows_in the.Ingress = ingress_options
rows_in the.Flower = flower_options
rows_in the.U32 = u32_options
rows_in the.MatchAll = matchall_options
rows_in the.Bpf = bpf_options
rows_in the.Mpls = mpls_options
rows_in the.Lse = lse_options
rows_in the.Actions = others
rows_in the.ActionOptions = others
rows_in the.Options = others

-- the table itself
abbrev pub table_of : Table → canon.Table
table_of the.Actions = every (own_list action_attributes)
table_of the.ActionOptions = by_kind action_option_kinds
table_of the.Options = by_kind option_kinds
table_of t = table (rows_in t)
