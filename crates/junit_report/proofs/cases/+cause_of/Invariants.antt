-- A parent has a smaller number.
use Rattle.junit_report.proofs.cases.+cause_of.Given as goal

abbrev pub decreases-cause_of : goal.decreases-cause_of
decreases-cause_of l = l.node
