use Rattle.nla_frames.proofs.default_nla.DefaultNlaNla.put_value.Goals as goal

pub returns-clause-typed : goal.returns-clause-typed
returns-clause-typed g c = (c.u16_is_in_range.ensures, rw c.deref.ensures.value at c.put_bytes.ensures.typed)
