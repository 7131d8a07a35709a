-- The schedule of a plan in which no spare holds a key leaves a history of it.
use Rattle.launcher.proofs.Driving.{driven_history}
use Rattle.launcher.proofs.driven.fixed_trace.Goals as goal

pub returns-in-Ok-clause-history : goal.returns-in-Ok-clause-history
returns-in-Ok-clause-history c =
    let q = c.in-Ok.ensures in
    driven_history c.args.plan.now c.tree.ensures.tree c.requires.guarded c.requires.free c.args.answers.now c.args.workers c.in-Ok.trace q.right q.whole q.apart q.expected
