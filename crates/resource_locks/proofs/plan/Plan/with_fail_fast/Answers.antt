-- No set and no mode changes.
use Rattle.std.proofs.Common.{subst, sym}
use Rattle.resource_locks.specs.Declarations.{declared_of}
use Rattle.resource_locks.specs.Hoisted.{IsHoisted, IsGuarded}
use Rattle.resource_locks.proofs.Hoists.{hoisted_still, guarded_still}
use Rattle.resource_locks.proofs.plan.Plan.with_fail_fast.Goals as goal

pub returns-clause-hoisted : goal.returns-clause-hoisted
returns-clause-hoisted c = λ given h. hoisted_still (declared_of c.args.self.tree) _ c.args.fail_fast _ given (subst (IsHoisted (declared_of c.args.self.tree) given) (sym c.plan.view_is) h)

pub returns-clause-guarded : goal.returns-clause-guarded
returns-clause-guarded c = λ h. guarded_still (declared_of c.args.self.tree) _ c.args.fail_fast _ (subst (IsGuarded (declared_of c.args.self.tree)) (sym c.plan.view_is) h)
