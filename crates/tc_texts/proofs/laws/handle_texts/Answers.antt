use Rattle.tc_texts.proofs.Handles.{handle_text-injective, handle_of-handle_text}
use Rattle.tc_texts.proofs.laws.handle_texts.Goals as goal

pub returns-clause-injective : goal.returns-clause-injective
returns-clause-injective c = handle_text-injective

pub returns-clause-read : goal.returns-clause-read
returns-clause-read c = handle_of-handle_text
