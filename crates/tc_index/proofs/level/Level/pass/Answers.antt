use Rattle.tc_index.specs.Tables.{table_of}
use Rattle.tc_index.specs.Attributes.{with_inner, attributes_in}
use Rattle.tc_index.specs.Views.{sets_if}
use Rattle.std.proofs.Common.{◌-◌}
use Rattle.tc_index.proofs.Frames.{takes}
use Rattle.tc_index.proofs.Walks.{first-yielded}
use Rattle.tc_index.proofs.level.Level.pass.Goals as goal

pub returns : goal.returns
returns c depth =
    rw (c.kind_after-self.ensures, c.split_at.ensures.back)
    (first-yielded (with_inner (attributes_in (4 - depth)) (table_of c.args.self.now.table) depth) (sets_if c.args.self.now.sets_kind) c.args.self.now.kind.now
    c.args.self.now.offset c.args.self.now.rest.now _ c.min-taken.result (takes _ _ _ _ c.requires c.length-length.ensures c.min-taken.ensures))
