-- Each node has a place, and those so far are noted.
use Rattle.descriptor.specs.Nodes.{size}
use Rattle.uses.proofs.Noting.{AreNoted}
use Rattle.uses.proofs.timed_run.noted.Given as goal

abbrev pub invariant-loop-number : goal.invariant-loop-number
invariant-loop-number g l = AreNoted l.times.timings.took.items (size l.tree) l.number
