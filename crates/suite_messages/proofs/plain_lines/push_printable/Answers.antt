-- One character more is none.
use Rattle.suite_messages.proofs.Printing.{grows}
use Rattle.suite_messages.proofs.plain_lines.push_printable.Goals as goal

pub loop-c-preserved : goal.loop-c-preserved
loop-c-preserved c has = grows _ _ c.line_char.result c.line_char.ensures c.in_ok-push.ensures.bytes (c.loop-c.invariant has)
