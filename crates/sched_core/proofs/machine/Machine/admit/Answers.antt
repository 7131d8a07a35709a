-- The node that is offered is one of the tree's.
use Rattle.std.proofs.Common.{arith}
use Rattle.scheduling.proofs.DueInside.{offer_inside}
use Rattle.sched_core.proofs.machine.Machine.admit.Goals as goal

pub offer-requires-clause-inside : goal.offer-requires-clause-inside
offer-requires-clause-inside c =
    let low = offer_inside c.args.plan.now c.args.task c.requires.opens c.args.place _ c.requires.admits c.requires.passes c.in-Some.ensures.some in
    omega (arith, low, c.requires.sizes)
