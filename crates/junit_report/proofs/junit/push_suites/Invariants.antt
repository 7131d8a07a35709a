-- The suites of the nodes so far.
use Rattle.std.proofs.Common.{◌≡◌, ◌++◌, string_bytes}
use Rattle.std.specs.List.{flat_map, range_with_len}
use Rattle.job_times.specs.Timings.{times_of}
use Rattle.junit_report.specs.Junit.{suite_of}
use Rattle.junit_report.proofs.junit.push_suites.Given as goal

abbrev pub invariant-loop-number : goal.invariant-loop-number
invariant-loop-number l = string_bytes l.xml ≡ string_bytes l.fn.xml ++ flat_map (suite_of l.plan l.texts (times_of l.timings) l.told) (range_with_len 0 l.number)
