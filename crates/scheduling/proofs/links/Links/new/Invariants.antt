-- All nodes from a number on are linked.
use Rattle.std.proofs.Common.{◌≤◌}
use Rattle.descriptor.specs.Nodes.{size}
use Rattle.scheduling.specs.LinkLists.{IsLinkedFrom, chosen_child}
use Rattle.scheduling.proofs.links.Links.new.Given as goal

abbrev pub invariant-loop-number : goal.invariant-loop-number
invariant-loop-number l = (l.number ≤ size l.tree) × IsLinkedFrom l.tree (chosen_child l.tree l.chosen) l.number l.links

abbrev pub decreases-loop-number : goal.decreases-loop-number
decreases-loop-number l = l.number
