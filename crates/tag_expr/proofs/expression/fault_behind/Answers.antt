-- The search proves it. Written out, it spares a wrong body the printing of what is left to show.
use Rattle.std.proofs.Common.{rules}
use Rattle.tag_expr.proofs.expression.fault_behind.Goals as goal

pub returns-in-Some-RightParen-clause-cases : goal.returns-in-Some-RightParen-clause-cases
returns-in-Some-RightParen-clause-cases c = search rules
