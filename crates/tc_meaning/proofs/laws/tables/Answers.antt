use Rattle.tc_meaning.proofs.TableLaws.{class_laws, table_laws}
use Rattle.tc_meaning.proofs.NestedLaws.{nested, own, chosen}
use Rattle.tc_meaning.proofs.laws.tables.Goals as goal

pub returns-clause-classes : goal.returns-clause-classes
returns-clause-classes c = class_laws

pub returns-clause-tables : goal.returns-clause-tables
returns-clause-tables c = table_laws

pub returns-clause-lists : goal.returns-clause-lists
returns-clause-lists c = nested

pub returns-clause-own_lists : goal.returns-clause-own_lists
returns-clause-own_lists c = own

pub returns-clause-options : goal.returns-clause-options
returns-clause-options c = chosen
