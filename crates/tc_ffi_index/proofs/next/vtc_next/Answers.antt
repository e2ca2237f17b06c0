use Rattle.tc_ffi_index.proofs.Steps.{step}
use Rattle.tc_ffi_index.proofs.next.vtc_next.Goals as goal

pub returns-in-Ok-clause-steps : goal.returns-in-Ok-clause-steps
returns-in-Ok-clause-steps c inside =
    rw c.word.ensures
    (step c.args.bytes.now _ c.args.at.now _ c.length-length.result c.min.result inside c.split_at.ensures.back c.in-Ok.ensures.exact c.length-length.ensures
    c.min.ensures)
