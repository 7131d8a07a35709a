-- The mode of the lock that has the key.
use Rattle.std.proofs.Common.{◌≡◌, get_or, subst, arith}
use Rattle.std.proofs.lemmas.Grind.{common_steps}
use Rattle.resource_locks.specs.LockSets.{IsLockSet}
use Rattle.resource_locks.proofs.Places.{wanted_here, unwanted_before}
use Rattle.resource_locks.proofs.lock_set.LockSet.mode_of.Goals as goal

pub returns-in-Ok : goal.returns-in-Ok
returns-in-Ok c =
    let at : c.index.result.now ≡ get_or c.args.self.now c.in-Ok.place c.index.result.now = grind (arith, common_steps) in
    wanted_here c.args.self.now c.args.key.now c.in-Ok.place c.index.result.now (subst IsLockSet c.self.view_is c.self.invariant) c.in-Ok.ensures.here at

pub returns-in-Err : goal.returns-in-Err
returns-in-Err c = unwanted_before c.args.self.now c.args.key.now c.in-Err.field-0 c.in-Err.ensures.before
