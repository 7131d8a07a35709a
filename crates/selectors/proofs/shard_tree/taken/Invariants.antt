-- The truth of each node so far, and how many of them are units.
use Rattle.std.proofs.Common.{◌≡◌, ◌≤◌}
use Rattle.selectors.specs.Covered.{truths}
use Rattle.selectors.specs.Keeping.{is_taken}
use Rattle.selectors.specs.Shards.{is_unit_of, place_of}
use Rattle.selectors.proofs.shard_tree.taken.Given as goal

abbrev pub invariant-loop-number : goal.invariant-loop-number
invariant-loop-number l = (l.taken.items ≡ truths (is_taken l.tree (is_unit_of l.tree l.shard)) l.number) × (l.place ≡ place_of l.tree l.number) × (l.place ≤ l.number)
