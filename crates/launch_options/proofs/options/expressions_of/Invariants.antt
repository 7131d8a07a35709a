-- The texts so far spell the expressions.
use Rattle.std.proofs.Common.{take}
use Rattle.launch_options.specs.Given.{behind}
use Rattle.launch_options.specs.Asked.{AreExpressions}
use Rattle.launch_options.proofs.options.expressions_of.Given as goal

abbrev pub invariant-loop-text : goal.invariant-loop-text
invariant-loop-text l = AreExpressions (behind (take l.text-index l.texts)) l.expressions.items
