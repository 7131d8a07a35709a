-- A control character is a space, and another is kept.
use Rattle.std.proofs.Common.{arith}
use Rattle.run_results.proofs.Cleaning.{blanked_char, kept_char}
use Rattle.run_results.proofs.printed.printed_char.Goals as goal

pub returns-then-is_ascii_control : goal.returns-then-is_ascii_control
returns-then-is_ascii_control c = blanked_char c.args.c c.if-is_ascii_control.ensures.cases

pub returns-else-is_ascii_control : goal.returns-else-is_ascii_control
returns-else-is_ascii_control c =
    let outside = c.if-is_ascii_control.ensures.cases in
    kept_char c.args.c (grind (arith, outside.0)) (grind (arith, outside.1))
