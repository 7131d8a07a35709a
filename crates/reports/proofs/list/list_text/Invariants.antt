-- The lines of the nodes so far.
use Rattle.std.proofs.Common.{◌≡◌, string_bytes}
use Rattle.std.specs.List.{flat_map, range_with_len}
use Rattle.reports.specs.Lists.{list_line}
use Rattle.reports.proofs.list.list_text.Given as goal

abbrev pub invariant-loop-number : goal.invariant-loop-number
invariant-loop-number l = string_bytes l.list ≡ flat_map (list_line l.plan) (range_with_len 0 l.number)
