-- There is no control character so far.
use Rattle.std.proofs.Common.{string_bytes}
use Rattle.suite_messages.specs.Printable.{HasNoControl}
use Rattle.suite_messages.proofs.plain_lines.push_printable.Given as goal

abbrev pub invariant-loop-c : goal.invariant-loop-c
invariant-loop-c l = HasNoControl (string_bytes l.fn.text) → HasNoControl (string_bytes l.text)
