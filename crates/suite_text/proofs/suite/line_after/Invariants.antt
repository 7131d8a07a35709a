-- The line ends so far.
use Rattle.std.proofs.Common.{◌≡◌, ◌+◌, ◌≤◌, ◌==◌, take, count_by}
use Rattle.suite_text.proofs.suite.line_after.Given as goal

abbrev pub invariant-loop-byte : goal.invariant-loop-byte
invariant-loop-byte l = (l.line ≡ 1 + count_by (λ byte. byte == 10) (take l.byte-index l.bytes)) × (l.line ≤ 1 + l.byte-index)
