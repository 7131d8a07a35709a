-- The truth of each node so far.
use Rattle.std.proofs.Common.{◌≡◌}
use Rattle.selectors.specs.Covered.{truths, is_covered}
use Rattle.selectors.proofs.covered.covered.Given as goal

abbrev pub invariant-loop-number : goal.invariant-loop-number
invariant-loop-number l = l.covered.items ≡ truths (is_covered l.tree l.selectors) l.number
