-- The truth of each node so far.
use Rattle.std.proofs.Common.{◌≡◌}
use Rattle.selectors.specs.Covered.{truths}
use Rattle.selectors.specs.Keeping.{is_taken}
use Rattle.selectors.specs.Selections.{is_selected}
use Rattle.selectors.proofs.taken.taken.Given as goal

abbrev pub invariant-loop-number : goal.invariant-loop-number
invariant-loop-number l = l.taken.items ≡ truths (is_taken l.tree (is_selected l.tree l.request)) l.number
