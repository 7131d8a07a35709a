-- Each key of each set has a number.
use Rattle.std.proofs.Common.{◌≡◌, ◌∙◌, [], List, subst, get_or, arith}
use Rattle.std.proofs.lemmas.List.{get_or_default}
use Rattle.descriptor.specs.declared.lock.Lock.{Lock}
use Rattle.resource_locks.specs.Wants.{HasLock}
use Rattle.resource_locks.proofs.keys.Keys.all_numbers.Goals as goal

pub numbers-requires : goal.numbers-requires
numbers-requires c = λ key mode h.
    let at : c.set-item.result ≡ get_or c.args.sets.now c.loop-set.set-index [] = c.set-item.is ∙ get_or_default c.args.sets.now c.loop-set.set-index c.set-item.result [] (omega arith) in
    c.requires c.loop-set.set-index key mode (subst (λ (s : List Lock). HasLock s key mode) (c.locks.ensures.same ∙ at) h)
