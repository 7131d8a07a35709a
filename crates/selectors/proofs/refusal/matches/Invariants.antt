-- The selector names none of the nodes so far.
use Rattle.std.proofs.Common.{◌≡◌, false}
use Rattle.selectors.specs.Covered.{any_below}
use Rattle.selectors.specs.Names.{names}
use Rattle.selectors.proofs.refusal.matches.Given as goal

abbrev pub invariant-loop-number : goal.invariant-loop-number
invariant-loop-number l = any_below (names l.tree l.selector) l.number ≡ false
