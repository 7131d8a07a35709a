-- The copy is the same tree.
use Rattle.std.proofs.Common.{IfOk, get_or, subst}
use Rattle.descriptor.specs.Nodes.{Nodes}
use Rattle.descriptor.specs.declared.mode.Mode.TheVariants.{SameThread}
use Rattle.resource_locks.specs.Declarations.{declared_of}
use Rattle.resource_locks.specs.Hoisted.{IsHoisted}
use Rattle.resource_locks.specs.Spares.{HasBareSpares, HasFreeSpares}
use Rattle.resource_locks.proofs.plan.hoist.Goals as goal

pub returns-clause-hoisted : goal.returns-clause-hoisted
returns-clause-hoisted c = subst (λ (t : Nodes). IfOk c.of.result (λ plan. IsHoisted (declared_of t) (λ n. get_or c.args.modes.items n SameThread) plan)) c.in_ok-copy.ensures c.of.ensures.hoisted

pub returns-clause-free : goal.returns-clause-free
returns-clause-free c = subst (λ (t : Nodes). IfOk c.of.result (λ plan. HasBareSpares t → HasFreeSpares plan)) c.in_ok-copy.ensures c.of.ensures.free
