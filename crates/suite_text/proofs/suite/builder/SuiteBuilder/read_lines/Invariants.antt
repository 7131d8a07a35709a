use Rattle.std.proofs.Common.{◌≡◌, ◌+◌, drop}
use Rattle.unique_id.specs.Answers.{texts}
use Rattle.suite_text.specs.Reading.Judged.{MayRunOut}
use Rattle.suite_text.specs.Suites.{suite_from}
use Rattle.suite_text.proofs.suite.builder.SuiteBuilder.read_lines.Given as goal

-- the lines that are left, from this number and these nodes on, give what all give, and memory may run out in all if it may in these
abbrev pub invariant-loop-index : goal.invariant-loop-index
invariant-loop-index l =
    (suite_from (l.index + 1) l.self (drop l.index (texts l.lines)) ≡ suite_from 1 l.fn.self (texts l.lines))
    × (MayRunOut (l.index + 1) l.self (drop l.index (texts l.lines)) → MayRunOut 1 l.fn.self (texts l.lines))
