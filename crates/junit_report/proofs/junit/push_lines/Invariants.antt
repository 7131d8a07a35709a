-- The lines of the cases so far.
use Rattle.std.proofs.Common.{◌≡◌, ◌++◌, take, string_bytes}
use Rattle.std.specs.List.{flat_map}
use Rattle.junit_report.specs.Junit.{case_line}
use Rattle.junit_report.proofs.junit.push_lines.Given as goal

abbrev pub invariant-loop-case : goal.invariant-loop-case
invariant-loop-case l = string_bytes l.xml ≡ string_bytes l.fn.xml ++ flat_map (case_line l.plan l.texts l.timings.took.items l.class) (take l.case-index l.cases)
