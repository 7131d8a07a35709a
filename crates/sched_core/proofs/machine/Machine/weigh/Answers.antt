-- The key that is looked at is one of the node's.
use Rattle.sched_core.proofs.machine.Machine.weigh.Goals as goal

pub key_at_place-requires-clause-node : goal.key_at_place-requires-clause-node
key_at_place-requires-clause-node c = (c.requires.keys _ _ c.in-Some.ensures.some).node

pub weighed-requires-clause-node : goal.weighed-requires-clause-node
weighed-requires-clause-node c = (c.requires.keys _ _ c.in-Some.ensures.some).node
