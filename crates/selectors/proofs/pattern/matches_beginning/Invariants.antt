-- What is left of the pattern matches a beginning of what is left of the name where all of both do.
use Rattle.std.proofs.Common.{◌≡◌, ◌+◌, reverse, length}
use Rattle.selectors.specs.NameEnds.{left_of, IsInName}
use Rattle.selectors.specs.Patterns.{fits, some_end}
use Rattle.selectors.proofs.pattern.matches_beginning.Given as goal

abbrev pub invariant-loop-name : goal.invariant-loop-name
invariant-loop-name l = IsInName l.tree l.name.number × (some_end (fits (reverse l.fn.pattern)) (left_of l.tree l.fn.name) ≡ some_end (fits (reverse l.pattern)) (left_of l.tree l.name))

abbrev pub decreases-loop-name : goal.decreases-loop-name
decreases-loop-name l = length l.pattern + length (left_of l.tree l.name)
