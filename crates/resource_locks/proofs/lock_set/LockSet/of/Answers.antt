-- Each key is wanted as the list wants it.
use Rattle.std.proofs.Common.{◌≡◌, sym, subst, List, arith}
use Rattle.std.proofs.lemmas.Grind.{common_steps}
use Rattle.descriptor.specs.declared.lock.Lock.{Lock}
use Rattle.resource_locks.specs.Wants.{WantSame}
use Rattle.resource_locks.specs.LockSets.{of}
use Rattle.resource_locks.proofs.SetLaws.{wants_same}
use Rattle.resource_locks.proofs.lock_set.LockSet.of.Goals as goal

pub returns-clause-wants : goal.returns-clause-wants
returns-clause-wants c =
    let made : c.put_all.new.self ≡ of c.args.locks.now = grind (arith, common_steps) in
    subst (λ (s : List Lock). WantSame s c.args.locks.now) (sym made) (wants_same c.args.locks.now)
