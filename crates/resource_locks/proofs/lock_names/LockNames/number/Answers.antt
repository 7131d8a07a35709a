-- The number of a name is its place.
use Rattle.resource_locks.proofs.NamePlaces.{none_found, number_found, number_inside}
use Rattle.resource_locks.proofs.lock_names.LockNames.number.Goals as goal

pub returns-clause-value : goal.returns-clause-value
returns-clause-value c = number_found c.args.self.now c.args.name.now c.place_of.result c.place_of.ensures

pub returns-clause-inside : goal.returns-clause-inside
returns-clause-inside c = number_inside c.args.self.now c.args.name.now c.place_of.result c.place_of.ensures

pub returns-clause-none : goal.returns-clause-none
returns-clause-none c = none_found c.args.self.now c.args.name.now c.place_of.result c.place_of.ensures
