use Rattle.tc_laws.proofs.OrderLaws.{own-exchanges, exchanged-is}
use Rattle.tc_laws.proofs.places.own_order.Goals as goal

pub returns-clause-order : goal.returns-clause-order
returns-clause-order g c = own-exchanges g.T.FrameMeaning.codec.read

pub returns-clause-exchanged : goal.returns-clause-exchanged
returns-clause-exchanged g c = exchanged-is
