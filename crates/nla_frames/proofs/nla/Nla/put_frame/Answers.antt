use Rattle.nla_frames.proofs.Writing.{frame_written}
use Rattle.nla_frames.proofs.nla.Nla.put_frame.Goals as goal

pub returns-clause-written : goal.returns-clause-written
returns-clause-written g c = frame_written _ _ _ _ _ _ c.put_padded-len.ensures.length c.kind-word.ensures c.requires.room c.put_padded-len.ensures.written
    c.put_header.ensures
