-- The search proves it. Written out, it spares a wrong body the printing of what is left to show.
use Rattle.std.proofs.Common.{rules}
use Rattle.descriptor.proofs.builder.TreeBuilder.refusal.Goals as goal

pub returns-then-has_id-clause-first : goal.returns-then-has_id-clause-first
returns-then-has_id-clause-first c = search rules

pub returns-then-not-is_container-clause-first : goal.returns-then-not-is_container-clause-first
returns-then-not-is_container-clause-first c = search rules
