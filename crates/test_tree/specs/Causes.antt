-- The number of each cause.
use Rattle.std.specs.Prelude.{ℕ}
use Rattle.descriptor.specs.Refusals as trees
use Rattle.tag_expr.specs.Faults as tags
use Rattle.test_tree.specs.declared.cause.BuildCause.{BuildCause}
use Rattle.test_tree.specs.declared.cause.BuildCause.TheVariants.{NoMemory, Closed, Name, Node, Tag, NoKey, NoLimit, Marked, NoClass}
use Rattle.unique_id.specs.Faults as ids

-- 0 for want of memory; 13 for a parent that takes no more nodes, and 100 for what a line of a suite may not declare
abbrev pub number_of : BuildCause → ℕ
number_of NoMemory = 0
number_of Closed = 13
number_of (Name fault) = ids.number fault
number_of (Node fault) = trees.number_of fault
number_of (Tag fault) = tags.number fault
number_of NoKey = 100
number_of NoLimit = 100
number_of Marked = 100
number_of NoClass = 100
