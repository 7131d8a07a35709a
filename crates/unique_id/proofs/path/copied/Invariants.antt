-- Copying segments: the loop has copied what it has passed.
use Rattle.std.proofs.Common.{◌≡◌, take}
use Rattle.unique_id.proofs.path.copied.Given as goal

abbrev pub invariant-loop-segment : goal.invariant-loop-segment
invariant-loop-segment l = l.copies.items ≡ take l.segment-index l.segments
