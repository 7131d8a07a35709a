-- The same piece, without a star, was read of both.
use Rattle.std.proofs.Common.{length}
use Rattle.selectors.specs.NameEnds.{IsInName}
use Rattle.selectors.proofs.Reading.{Read}
use Rattle.selectors.proofs.pattern.to_star.Given as goal

abbrev pub invariant-loop-byte : goal.invariant-loop-byte
invariant-loop-byte l = IsInName l.tree l.name.number × Read l.tree l.fn.pattern l.fn.name l.pattern l.name

abbrev pub decreases-loop-byte : goal.decreases-loop-byte
decreases-loop-byte l = length l.pattern
