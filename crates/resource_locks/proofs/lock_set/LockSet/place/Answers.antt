-- A search by halving, as the keys rise.
use Rattle.std.proofs.Common.{rules}
use Rattle.std.proofs.lemmas.Fn.{always_returns_same}
use Rattle.descriptor.specs.declared.lock.Lock.{Lock}
use Rattle.resource_locks.specs.LockSets.{key_cmp}
use Rattle.resource_locks.proofs.Places.{search_here, search_before}
use Rattle.resource_locks.proofs.lock_set.LockSet.place.Goals as goal

pub returns-clause-here : goal.returns-clause-here
returns-clause-here c =
    search_here c.args.self.now c.args.key.now c.self.inside.locks.items c.deref.result.now c.binary_search_by.result c.self.invariant c.self.view_is c.deref.ensures.value c.binary_search_by.ensures.bound
    (c.binary_search_by.ensures.position (λ (l : Lock). key_cmp l.key c.args.key.now) (always_returns_same _ _ _ (λ a r g called. search rules)))

pub returns-clause-before : goal.returns-clause-before
returns-clause-before c =
    search_before c.args.self.now c.args.key.now c.self.inside.locks.items c.deref.result.now c.binary_search_by.result c.self.invariant c.self.view_is c.deref.ensures.value c.binary_search_by.ensures.bound
    (c.binary_search_by.ensures.position (λ (l : Lock). key_cmp l.key c.args.key.now) (always_returns_same _ _ _ (λ a r g called. search rules)))
