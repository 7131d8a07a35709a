-- A parent has a smaller number.
use Rattle.reports.proofs.list.+is_ruled_out.Given as goal

abbrev pub decreases-is_ruled_out : goal.decreases-is_ruled_out
decreases-is_ruled_out l = l.node
