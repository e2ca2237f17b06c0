use Rattle.std.proofs.Common.{not, rules}
use Rattle.std.proofs.lemmas.Fn.{filter_same}
use Rattle.tcrewrite_lib.specs.Text.{is_space}
use Rattle.tcrewrite_lib.proofs.answer.drop_spaces.Goals as goal

pub returns : goal.returns
returns g c = filter_same _ (λ x. not (is_space x)) _ (λ x b f' t. search rules) _ _ c.retain.ensures.filtered
