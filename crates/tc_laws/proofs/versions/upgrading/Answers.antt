use Rattle.tc_laws.proofs.UpgradeLaws.{stays-or-read, upgrade-places, upgrade-upgrade, typed-upgrade, fits-upgrade, settled-upgrade}
use Rattle.tc_laws.proofs.versions.upgrading.Goals as goal

pub returns-clause-each : goal.returns-clause-each
returns-clause-each c = stays-or-read

pub returns-clause-place_by_place : goal.returns-clause-place_by_place
returns-clause-place_by_place c = upgrade-places

pub returns-clause-twice : goal.returns-clause-twice
returns-clause-twice c = upgrade-upgrade

pub returns-clause-typed : goal.returns-clause-typed
returns-clause-typed c = typed-upgrade

pub returns-clause-fits : goal.returns-clause-fits
returns-clause-fits c = fits-upgrade

pub returns-clause-settled : goal.returns-clause-settled
returns-clause-settled c = settled-upgrade
