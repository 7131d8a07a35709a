-- The search proves it. Written out, it spares a wrong body the printing of what is left to show.
use Rattle.std.proofs.Common.{rules}
use Rattle.descriptor.proofs.node.takes_after.Goals as goal

pub returns-then-is_container : goal.returns-then-is_container
returns-then-is_container c = search rules
