use Rattle.std.proofs.Common.{[], refl, sym, ◌∙◌}
use Rattle.tc_canon.specs.Descriptor.{table}
use Rattle.tc_canon.specs.Tables.Flower.{lse_options, mpls_options}
use Rattle.tc_flower.proofs.MplsLists.{reads_items}
use Rattle.tc_flower.proofs.filters.flower.mpls.TcFilterFlowerMplsOptionParseable.parse.Goals as goal

pub returns-in_ok-parse_list-in-1 : goal.returns-in_ok-parse_list-in-1
returns-in_ok-parse_list-in-1 g c =
    reads_items mpls_options (table lse_options) 1 0x8001 refl [] _ (sym c.kind.ensures ∙ c.in-1.is) _
    (rw c.value.ensures.bytes at c.in_ok-parse_list-in-1.ensures.exact)
