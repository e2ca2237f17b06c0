use Rattle.tc_canon.specs.Layouts.{tc_header, action_message_header}
use Rattle.tc_canon.specs.Tables.Messages.{attributes, action_message_attributes}
use Rattle.tc_meaning.proofs.FitTests.{decidable_fits}
use Rattle.tc_meaning.proofs.laws.fits_or_not.Goals as goal

pub returns-clause-tc : goal.returns-clause-tc
returns-clause-tc c = decidable_fits tc_header attributes

pub returns-clause-action : goal.returns-clause-action
returns-clause-action c = decidable_fits action_message_header action_message_attributes
