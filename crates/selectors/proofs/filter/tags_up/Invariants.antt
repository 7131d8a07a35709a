-- The tags so far, and those that are left on the way up.
use Rattle.std.proofs.Common.{◌≡◌, ◌<◌, ◌++◌, ℕ, List, Bor}
use Rattle.std.specs.List.{flat_map}
use Rattle.descriptor.specs.Nodes.{size}
use Rattle.selectors.specs.Filters.{tags_together}
use Rattle.selectors.proofs.filter.tags_up.Given as goal

abbrev pub invariant-loop-parent : goal.invariant-loop-parent
invariant-loop-parent l = (l.current < size l.tree) × (tags_together l.tree l.fn.node ≡ flat_map (λ (set : Bor (List (List ℕ))). set.now) l.sets.items ++ tags_together l.tree l.current)

abbrev pub decreases-loop-parent : goal.decreases-loop-parent
decreases-loop-parent l = l.current
