-- The places of the nodes so far.
use Rattle.std.proofs.Common.{◌≡◌, map}
use Rattle.std.specs.List.{range_with_len}
use Rattle.run_results.specs.Counts.{place_of}
use Rattle.run_results.proofs.node_places.outline_of.Given as goal

abbrev pub invariant-loop-number : goal.invariant-loop-number
invariant-loop-number l = l.outline.items ≡ map (place_of l.tree) (range_with_len 0 l.number)
