-- Each list of children of the tree has the children of its node.
use Rattle.descriptor.proofs.Children.{lists_children}
use Rattle.descriptor.proofs.builder.TreeBuilder.finish.Goals as goal

pub returns-clause-children : goal.returns-clause-children
returns-clause-children c = lists_children _
