-- The core at the start is sound.
use Rattle.sched_core.proofs.core_steps.Core.new.Goals as goal

pub invariant_of-result : goal.invariant_of-result
invariant_of-result c = (c.in_ok-turns.ensures.sound c.args.answers, c.in_ok-turns.ensures.turns)
