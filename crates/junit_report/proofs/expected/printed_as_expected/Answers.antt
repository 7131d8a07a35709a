-- The clause is the theorem.
use Rattle.junit_report.proofs.PrintedAsExpected.{printed_as_expected}
use Rattle.junit_report.proofs.expected.printed_as_expected.Goals as goal

pub returns : goal.returns
returns c = record { printed = λ p reply replies workers h texts tree one calm legal complete are. printed_as_expected p tree reply replies one calm workers h legal complete texts are }
