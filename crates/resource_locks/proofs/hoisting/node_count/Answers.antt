-- A tree is what hoisting asks for.
use Rattle.resource_locks.proofs.LockTrees.{lock_tree}
use Rattle.resource_locks.proofs.hoisting.node_count.Goals as goal

pub returns-clause-tree : goal.returns-clause-tree
returns-clause-tree c = lock_tree c.args.tree.now c.len.ensures.tree
