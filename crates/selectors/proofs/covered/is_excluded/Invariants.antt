-- None of the exclusions so far covers the node.
use Rattle.std.proofs.Common.{◌≡◌, false, take}
use Rattle.selectors.specs.Covered.{is_excluded}
use Rattle.selectors.proofs.covered.is_excluded.Given as goal

abbrev pub invariant-loop-exclusion : goal.invariant-loop-exclusion
invariant-loop-exclusion l = is_excluded l.tree (take l.exclusion-index l.exclusions) l.node ≡ false
