-- The laws of joins.
use Rattle.std.proofs.Common.{◌≡◌, ◌∙◌, ap, sym, subst, List, arith}
use Rattle.std.proofs.lemmas.Grind.{common_steps}
use Rattle.descriptor.specs.declared.lock.Lock.{Lock}
use Rattle.resource_locks.specs.Wants.{WantsBoth}
use Rattle.resource_locks.specs.LockSets.{join, IsLockSet}
use Rattle.resource_locks.proofs.SetLaws.{wants_both, join_commutes, join_associates, join_itself}
use Rattle.resource_locks.proofs.lock_set.LockSet.join.Goals as goal

pub returns-clause-wants : goal.returns-clause-wants
returns-clause-wants c =
    let made : c.put_all.new.self ≡ join c.args.a.now c.args.b.now = grind (arith, common_steps) in
    subst (WantsBoth c.args.a.now c.args.b.now) (sym made) (wants_both c.args.a.now c.args.b.now)

pub returns-clause-commutative : goal.returns-clause-commutative
returns-clause-commutative c =
    let made : c.put_all.new.self ≡ join c.args.a.now c.args.b.now = grind (arith, common_steps) in
    made ∙ join_commutes c.args.a.now c.args.b.now c.copy.ensures.set (subst IsLockSet c.b.view_is c.b.invariant)

pub returns-clause-associative : goal.returns-clause-associative
returns-clause-associative c third =
    let made : c.put_all.new.self ≡ join c.args.a.now c.args.b.now = grind (arith, common_steps) in
    ap (λ (s : List Lock). join s third) made ∙ join_associates c.args.a.now c.args.b.now third c.copy.ensures.set

pub returns-clause-idempotent : goal.returns-clause-idempotent
returns-clause-idempotent c same =
    let made : c.put_all.new.self ≡ join c.args.a.now c.args.b.now = grind (arith, common_steps) in
    made ∙ ap (join c.args.a.now) (sym same) ∙ join_itself c.args.a.now c.copy.ensures.set
