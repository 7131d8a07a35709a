-- The search proves it. Written out, it spares a wrong body the printing of what is left to show.
use Rattle.std.proofs.Common.{rules}
use Rattle.descriptor.proofs.node.Node.declares.Goals as goal

pub returns-else-self : goal.returns-else-self
returns-else-self c = search rules
