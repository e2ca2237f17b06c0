use Rattle.std.proofs.Common.{rules, refl, arith}
use Rattle.tc_canon.specs.Descriptor.{by_kind}
use Rattle.tc_canon.specs.Tables.Options.{option_kinds}
use Rattle.tc_values.proofs.Lists.{list_bytes_are, list_fits_as, list_is_typed}
use Rattle.tc_options.specs.Options.{tc_option}
use Rattle.tc_messages.proofs.Written.{written}
use Rattle.tc_messages.proofs.attribute.TcAttribute.row.Goals as goal

pub returns-in-Kind-clause-written : goal.returns-in-Kind-clause-written
returns-in-Kind-clause-written g c = rw c.in-Kind.is (written _ _ _ (search rules) refl (omega arith))

pub returns-in-Options-clause-seen : goal.returns-in-Options-clause-seen
returns-in-Options-clause-seen g c = rw (c.in-Options.is, c.deref.ensures.value) refl

pub returns-in-Options-clause-written : goal.returns-in-Options-clause-written
returns-in-Options-clause-written g c =
    let listed = c.deref.ensures.value in
    rw c.in-Options.is (record {
      same_word = refl;
      bytes = list_bytes_are tc_option (by_kind option_kinds) _ _ listed;
      fits = list_fits_as tc_option (by_kind option_kinds) _ _ listed;
      typed = λ typed. (refl, list_is_typed tc_option (by_kind option_kinds) _ _ listed typed);
    })

pub returns-in-Stats2-clause-written : goal.returns-in-Stats2-clause-written
returns-in-Stats2-clause-written g c = rw (c.in-Stats2.is, c.deref-in-Stats2.ensures.value) (written _ _ _ refl refl (omega arith))

pub returns-in-Other-clause-written : goal.returns-in-Other-clause-written
returns-in-Other-clause-written g c = rw (c.in-Other.is, c.kind-in-Other.ensures, c.value-in-Other.ensures) (written _ _ _ refl tt (search rules))

pub returns-in-Stats-clause-written : goal.returns-in-Stats-clause-written
returns-in-Stats-clause-written g c = rw c.in-Stats.is (written _ _ _ refl refl (omega arith))

pub returns-in-Xstats-clause-written : goal.returns-in-Xstats-clause-written
returns-in-Xstats-clause-written g c = rw c.in-Xstats.is (written _ _ _ refl refl (omega arith))

pub returns-in-DumpInvisible-clause-written : goal.returns-in-DumpInvisible-clause-written
returns-in-DumpInvisible-clause-written g c = rw c.in-DumpInvisible.is (written _ _ _ refl refl (omega arith))

pub returns-in-Chain-clause-written : goal.returns-in-Chain-clause-written
returns-in-Chain-clause-written g c = rw c.in-Chain.is (written _ _ _ refl refl (omega arith))

pub returns-in-HwOffload-clause-written : goal.returns-in-HwOffload-clause-written
returns-in-HwOffload-clause-written g c = rw c.in-HwOffload.is (written _ _ _ refl refl (omega arith))

pub returns-in-Rate-clause-written : goal.returns-in-Rate-clause-written
returns-in-Rate-clause-written g c = rw (c.in-Rate.is, c.deref-in-Rate.ensures.value) (written _ _ _ refl refl (omega arith))

pub returns-in-Fcnt-clause-written : goal.returns-in-Fcnt-clause-written
returns-in-Fcnt-clause-written g c = rw (c.in-Fcnt.is, c.deref-in-Fcnt.ensures.value) (written _ _ _ refl refl (omega arith))

pub returns-in-Stab-clause-written : goal.returns-in-Stab-clause-written
returns-in-Stab-clause-written g c = rw (c.in-Stab.is, c.deref-in-Stab.ensures.value) (written _ _ _ refl refl (omega arith))
