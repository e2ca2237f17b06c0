use Rattle.std.proofs.Common.{◌-◌}
use Rattle.tc_index.specs.Tables.{table_of}
use Rattle.tc_index.specs.Attributes.{with_inner, attributes_in}
use Rattle.tc_index.specs.Views.{placed_of, sets_if}
use Rattle.tc_index.proofs.Walks.{takes-one, fault-yielded}
use Rattle.tc_index.proofs.level.Level.take_first.Goals as goal

pub returns-in-Ok-clause-yields : goal.returns-in-Ok-clause-yields
returns-in-Ok-clause-yields c =
    takes-one (placed_of c.attribute-attribute.result) _ c.args.depth _ _ c.attribute-attribute.ensures.placed (c.pass.ensures c.args.depth)

pub returns-in-Err-clause-yields : goal.returns-in-Err-clause-yields
returns-in-Err-clause-yields c =
    fault-yielded (with_inner (attributes_in (4 - c.args.depth)) (table_of c.args.self.now.table) c.args.depth) (sets_if c.args.self.now.sets_kind)
    c.args.self.now.kind.now c.args.self.now.offset c.args.self.now.rest.now c.in-Err.fault c.requires c.in-Err.ensures.exact
