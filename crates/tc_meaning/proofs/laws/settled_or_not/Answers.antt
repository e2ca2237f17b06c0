use Rattle.nla_frames.specs.Reading.{keep}
use Rattle.tc_canon.specs.Layouts.{tc_header, action_message_header}
use Rattle.tc_canon.specs.Tables.Messages.{attributes, action_message_attributes}
use Rattle.tc_meaning.specs.Own.{kind_of_attribute}
use Rattle.tc_meaning.proofs.SettledTests.{decidable_settled}
use Rattle.tc_meaning.proofs.laws.settled_or_not.Goals as goal

pub returns-clause-tc : goal.returns-clause-tc
returns-clause-tc c = decidable_settled tc_header attributes kind_of_attribute

pub returns-clause-action : goal.returns-clause-action
returns-clause-action c = decidable_settled action_message_header action_message_attributes keep
