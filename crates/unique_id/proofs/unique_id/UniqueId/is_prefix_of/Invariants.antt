-- The segments that were compared are the same.
use Rattle.std.proofs.Common.{◌≡◌, take}
use Rattle.unique_id.proofs.unique_id.UniqueId.is_prefix_of.Given as goal

abbrev pub invariant-loop-index : goal.invariant-loop-index
invariant-loop-index l = take l.index l.segments ≡ take l.index l.others
