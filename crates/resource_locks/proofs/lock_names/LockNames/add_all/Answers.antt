-- One more lock.
use Rattle.std.proofs.Common.{◌≡◌, ◌∙◌, arith}
use Rattle.std.proofs.lemmas.Grind.{common_steps}
use Rattle.resource_locks.specs.Keys.{with_key}
use Rattle.resource_locks.proofs.Numbering.{key_next}
use Rattle.resource_locks.proofs.lock_names.LockNames.add_all.Goals as goal

pub loop-lock-preserved : goal.loop-lock-preserved
loop-lock-preserved c =
    let after : c.add.new.self ≡ with_key c.loop-lock.self c.lock-item.result.key = grind (arith, common_steps) in
    after ∙ key_next c.args.self.now c.args.locks.now c.loop-lock.lock-index c.lock-item.result c.loop-lock.self c.loop-lock.invariant (omega arith) c.lock-item.is
