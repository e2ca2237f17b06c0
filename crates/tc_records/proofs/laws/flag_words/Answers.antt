use Rattle.std.proofs.Common.{◌∙◌, mod-eq_of_lt}
use Rattle.std.proofs.lemmas.Nat.{and_mask}
use Rattle.bitflags.specs.Sets.{known_from}
use Rattle.tc_records.proofs.laws.flag_words.Goals as goal

pub returns : goal.returns
unfolding known_from
returns c = record {
  nat = λ word below. and_mask word 32 ∙ mod-eq_of_lt below;
  message = λ word below. and_mask word 32 ∙ mod-eq_of_lt below;
  bpf = λ word below. and_mask word 32 ∙ mod-eq_of_lt below;
  selector = λ word below. and_mask word 8 ∙ mod-eq_of_lt below;
  option = λ word below. and_mask word 32 ∙ mod-eq_of_lt below;
}
