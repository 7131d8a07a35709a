-- A parent has a smaller number.
use Rattle.junit_report.proofs.class_names.+class_name_by.Given as goal

abbrev pub decreases-class_name_by : goal.decreases-class_name_by
decreases-class_name_by l = l.node
