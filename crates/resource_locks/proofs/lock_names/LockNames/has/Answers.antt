-- A name has a place just where it is one of these.
use Rattle.std.proofs.Common.{◌∙◌, ap}
use Rattle.std.specs.Option.{is_some}
use Rattle.resource_locks.proofs.NamePlaces.{is_there}
use Rattle.resource_locks.proofs.lock_names.LockNames.has.Goals as goal

pub returns : goal.returns
returns c = c.is_some.ensures ∙ ap is_some c.place_of.ensures ∙ is_there c.args.self.now c.args.name.now
