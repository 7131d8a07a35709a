-- The search proves it. Written out, it spares a wrong body the printing of what is left to show.
use Rattle.std.proofs.Common.{rules}
use Rattle.descriptor.proofs.builder.TreeBuilder.repeats_body.Goals as goal

pub returns-else-has_body-2 : goal.returns-else-has_body-2
returns-else-has_body-2 c = search rules
