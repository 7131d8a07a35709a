-- The room that was made is there for the slots and the jobs.
use Rattle.std.proofs.Common.{◌∙◌, ap, sym, subst, arith}
use Rattle.descriptor.specs.Nodes.{size}
use Rattle.scheduling.specs.LinkLists.{AreTurns}
use Rattle.table_contents.proofs.memory.RunMemory.new.Goals as goal

pub returns-clause-turns : goal.returns-clause-turns
returns-clause-turns g c = subst (AreTurns c.args.plan.now) (sym (c.reserve.ensures.turns ∙ c.bare-memory.ensures.turns)) c.in_ok-new.ensures

pub returns-clause-room : goal.returns-clause-room
returns-clause-room g c = omega (arith, c.in_ok-reserve.ensures.room, c.in-Some.ensures, c.len-count.ensures.len, ap size c.tree.ensures.same)
