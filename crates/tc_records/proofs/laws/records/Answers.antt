use Rattle.std.proofs.Common.{[], refl, ap, ◌∙◌}
use Rattle.tc_meaning.specs.Layout.{fields_bytes}
use Rattle.tc_meaning.specs.Content.{read_record}
use Rattle.nla_frames.proofs.Bytes.{IsBytes-slice}
use Rattle.tc_meaning.proofs.Fields.{fields_laws}
use Rattle.tc_records.proofs.laws.records.Goals as goal

pub returns-clause-back : goal.returns-clause-back
returns-clause-back c = λ layout xs t. (fields_laws layout).back [] xs t tt

pub returns-clause-typed : goal.returns-clause-typed
returns-clause-typed c = λ layout xs e. (fields_laws layout).typed [] c.args.bytes.now xs (IsBytes-slice c.args.bytes.now c.type_inv.bytes) e

pub returns-clause-same : goal.returns-clause-same
returns-clause-same c = λ layout xs e. (fields_laws layout).same [] c.args.bytes.now xs (IsBytes-slice c.args.bytes.now c.type_inv.bytes) e tt

pub returns-clause-canonical : goal.returns-clause-canonical
returns-clause-canonical c = λ layout k.
    let laws = fields_laws layout in
    let bytes = IsBytes-slice c.args.bytes.now c.type_inv.bytes in
    let read = laws.reads [] c.args.bytes.now bytes k in
    let typed = laws.typed [] c.args.bytes.now read.0 bytes read.1 in
    let written = (laws.same [] c.args.bytes.now read.0 bytes read.1 tt).1 k in
    (read.0, read.1, (laws.back [] read.0 typed tt).0 (ap (read_record layout) written ∙ read.1))

pub returns-clause-settled : goal.returns-clause-settled
returns-clause-settled c = λ layout xs t s.
    let laws = fields_laws layout in
    (laws.same [] (fields_bytes layout xs) xs (laws.makes xs t tt) ((laws.back [] xs t tt).1 s) tt).0 refl
