-- Each selector so far covers a node.
use Rattle.std.proofs.Common.{◌≡◌, ◌+◌, drop}
use Rattle.selectors.specs.Covered.{unmatched_from}
use Rattle.selectors.proofs.refusal.unmatched_from.Given as goal

abbrev pub invariant-loop-index : goal.invariant-loop-index
invariant-loop-index l = unmatched_from l.tree l.before l.selectors ≡ unmatched_from l.tree (l.before + l.index) (drop l.index l.selectors)
