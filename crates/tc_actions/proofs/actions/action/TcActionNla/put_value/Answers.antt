use Rattle.tc_actions.proofs.ActionLists.{action_listed, action_value, action_typed}
use Rattle.tc_actions.proofs.actions.action.TcActionNla.put_value.Goals as goal

pub put_list-requires-clause-fits : goal.put_list-requires-clause-fits
put_list-requires-clause-fits g c = rw c.deref.ensures.value (action_listed c.args.self.now.tab _ c.requires.fits)

pub put_list-requires-clause-room : goal.put_list-requires-clause-room
put_list-requires-clause-room g c = rw c.deref.ensures.value (rw (action_value c.args.self.now.tab _) at c.requires.room)

pub returns-clause-written : goal.returns-clause-written
returns-clause-written g c = rw (action_value c.args.self.now.tab _) (rw c.deref.ensures.value at c.put_list.ensures.written)

pub returns-clause-length : goal.returns-clause-length
returns-clause-length g c = rw (action_value c.args.self.now.tab _) (rw c.deref.ensures.value at c.put_list.ensures.length)

pub returns-clause-typed : goal.returns-clause-typed
returns-clause-typed g c = action_typed c.args.self.now.tab _ c.u16_is_in_range.ensures (rw c.deref.ensures.value at c.put_list.ensures.typed)
