-- The lines of the nodes so far, the limits of whose keys are bytes.
use Rattle.std.proofs.Common.{◌≡◌, string_bytes}
use Rattle.std.specs.List.{flat_map, range_with_len}
use Rattle.reports.specs.PlanNodes.{node_line}
use Rattle.reports.proofs.PlanTold.{SmallBelow}
use Rattle.reports.proofs.plan_nodes.plan_text.Given as goal

abbrev pub invariant-loop-number : goal.invariant-loop-number
invariant-loop-number l = (string_bytes l.json ≡ flat_map (node_line l.plan) (range_with_len 0 l.number)) × SmallBelow l.plan l.number
