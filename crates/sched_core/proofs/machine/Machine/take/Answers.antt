-- The key that is taken is one of the node's.
use Rattle.sched_core.proofs.machine.Machine.take.Goals as goal

pub take_key-requires-clause-node : goal.take_key-requires-clause-node
take_key-requires-clause-node c = (c.requires.keys _ _ _ c.in-Some.ensures.some).node
