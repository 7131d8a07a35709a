-- Where all are kept the tree itself is the answer.
use Rattle.std.proofs.Common.{sym, subst}
use Rattle.descriptor.specs.Pruned.{KeepsNodes}
use Rattle.descriptor.proofs.Children.{lists_children}
use Rattle.descriptor.proofs.Pruned.{keeps_nodes}
use Rattle.descriptor.proofs.tree.Tree.into_pruned.Goals as goal

pub returns-then-keeps_all-clause-same : goal.returns-then-keeps_all-clause-same
returns-then-keeps_all-clause-same c = sym (c.keeps_all.ensures.same c.if-keeps_all.true)

pub returns-then-keeps_all-clause-kept : goal.returns-then-keeps_all-clause-kept
returns-then-keeps_all-clause-kept c = subst (KeepsNodes c.args.self c.args.keep.now) (c.keeps_all.ensures.same c.if-keeps_all.true) (keeps_nodes c.args.self c.args.keep.now c.keeps_all.ensures.tree c.requires.closed)

pub returns-then-keeps_all-clause-children : goal.returns-then-keeps_all-clause-children
returns-then-keeps_all-clause-children c = lists_children _
