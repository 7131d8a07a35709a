-- One line more; and the lines are those of the nodes told.
use Rattle.std.proofs.Common.{ℕ, ◌<◌, [], arith, subst}
use Rattle.std.proofs.lemmas.Grind.{common_steps}
use Rattle.resource_locks.specs.Plans.{held_of}
use Rattle.reports.specs.PlanNodes.{node_line, HaveByteLimits}
use Rattle.reports.proofs.Growing.{numbers_more}
use Rattle.reports.proofs.PlanTold.{plan_reads, small_more}
use Rattle.reports.proofs.plan_nodes.plan_text.Goals as goal

pub loop-number-preserved : goal.loop-number-preserved
loop-number-preserved c = (
  numbers_more (node_line c.args.plan.now) c.loop-number.number [] c.loop-number.invariant.0 (grind (arith, common_steps)),
  small_more c.args.plan.now c.loop-number.number c.loop-number.invariant.1
      (subst (λ (n : ℕ). 0 < n → HaveByteLimits c.args.plan.now (held_of c.args.plan.now n)) (grind (arith, common_steps)) c.in_ok-push_line.ensures.small),
)

pub returns-clause-reads_back : goal.returns-clause-reads_back
returns-clause-reads_back c = plan_reads c.args.plan.now c.loop-number.number (grind (arith, common_steps)) c.loop-number.invariant.0 c.loop-number.invariant.1
