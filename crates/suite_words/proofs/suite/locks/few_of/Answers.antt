-- Each turn puts one more lock, and the loop ends where they are too many.
use Rattle.std.proofs.Common.{◌≡◌, ◌+◌, ◌<◌, List, [], length, take, subst, arith}
use Rattle.std.proofs.lemmas.Grind.{common_steps}
use Rattle.descriptor.specs.declared.lock.Lock.{Lock}
use Rattle.resource_locks.specs.LockSets.{put, join}
use Rattle.resource_locks.proofs.Puts.{join_next}
use Rattle.suite_words.proofs.Reading.FewLocks.{stops_early}
use Rattle.suite_words.proofs.suite.locks.few_of.Goals as goal

pub returns-then-locks-gt-MOST_LOCKS : goal.returns-then-locks-gt-MOST_LOCKS
returns-then-locks-gt-MOST_LOCKS c =
    let after : c.put_copy.new.self ≡ put c.lock-item.result c.loop-lock.set = grind (arith, common_steps) in
    let so_far : c.put_copy.new.self ≡ join [] (take (c.loop-lock.lock-index + 1) c.args.locks.now) =
    join_next [] c.args.locks.now c.loop-lock.lock-index c.lock-item.result c.loop-lock.set c.put_copy.new.self c.loop-lock.invariant (omega arith) c.lock-item.is after in
    stops_early c.args.locks.now c.put_copy.new.self (c.loop-lock.lock-index + 1) so_far (subst (λ (s : List Lock). 16 < length s) c.locks.ensures.same c.if-locks-gt-MOST_LOCKS.true)

pub loop-lock-preserved : goal.loop-lock-preserved
loop-lock-preserved c =
    let after : c.put_copy.new.self ≡ put c.lock-item.result c.loop-lock.set = grind (arith, common_steps) in
    join_next [] c.args.locks.now c.loop-lock.lock-index c.lock-item.result c.loop-lock.set c.put_copy.new.self c.loop-lock.invariant (omega arith) c.lock-item.is after
