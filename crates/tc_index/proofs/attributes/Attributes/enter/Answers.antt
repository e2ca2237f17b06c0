use Rattle.std.proofs.Common.{List, ◌++◌, ap, sym, refl}
use Rattle.tc_index.specs.Attributes.{Item}
use Rattle.tc_index.specs.Views.{outer_of, lists_left}
use Rattle.tc_index.proofs.Walks.{enters, too-deep}
use Rattle.tc_index.proofs.attributes.Attributes.enter.Goals as goal

pub returns-in-Some : goal.returns-in-Some
returns-in-Some c =
    enters (outer_of c.args.self.now) (outer_of c.keep_level.new.self) c.args.self.now.depth c.args.self.now.level c.in-Some.level _ c.if-depth-lt4.true refl
    c.keep_level.ensures (c.in-Some.ensures c.args.self.now.depth c.if-depth-lt4.true)

pub returns-in_default : goal.returns-in_default
returns-in_default c = ap (λ (items : List Item). items ++ lists_left c.args.self.now) (sym (c.in_default.ensures c.args.self.now.depth c.if-depth-lt4.true))

pub returns-else-depth-lt4 : goal.returns-else-depth-lt4
returns-else-depth-lt4 c = ap (λ (items : List Item). items ++ lists_left c.args.self.now) (sym (too-deep c.args.self.now.depth _ _ _ c.if-depth-lt4.false))
