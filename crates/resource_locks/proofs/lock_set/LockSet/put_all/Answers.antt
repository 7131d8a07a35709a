-- One more lock of the list.
use Rattle.std.proofs.Common.{◌≡◌, arith}
use Rattle.std.proofs.lemmas.Grind.{common_steps}
use Rattle.resource_locks.specs.LockSets.{put}
use Rattle.resource_locks.proofs.Puts.{join_next}
use Rattle.resource_locks.proofs.lock_set.LockSet.put_all.Goals as goal

pub loop-lock-preserved : goal.loop-lock-preserved
loop-lock-preserved c =
    let after : c.put_copy.new.self ≡ put c.lock-item.result c.loop-lock.self = grind (arith, common_steps) in
    join_next c.args.self.now c.args.locks.now c.loop-lock.lock-index c.lock-item.result c.loop-lock.self c.put_copy.new.self c.loop-lock.invariant (omega arith) c.lock-item.is after
