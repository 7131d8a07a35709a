-- The microseconds of the cases so far, of each fewer than 2 to the power of 64.
use Rattle.std.proofs.Common.{◌≡◌, ◌≤◌, ◌*◌, ◌^◌, take}
use Rattle.junit_report.specs.CaseTimes.{time_of_cases}
use Rattle.junit_report.proofs.case_times.time_of_cases.Given as goal

abbrev pub invariant-loop-case : goal.invariant-loop-case
invariant-loop-case l = (l.micros ≡ time_of_cases l.timings.took.items (take l.case-index l.cases)) × (l.micros ≤ l.case-index * 2 ^ 64)
