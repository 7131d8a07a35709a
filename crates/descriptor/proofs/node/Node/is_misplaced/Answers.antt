-- The search proves it. Written out, it spares a wrong body the printing of what is left to show.
use Rattle.std.proofs.Common.{rules}
use Rattle.descriptor.proofs.node.Node.is_misplaced.Goals as goal

pub returns-else-not-is_factory : goal.returns-else-not-is_factory
returns-else-not-is_factory c = search rules
