-- Each phrase is read from less text than the phrase around it, or comes before it in the grammar; a loop has read a phrase so far.
use Rattle.std.proofs.Common.{ℕ, ◌+◌, ◌*◌, ◌<◌, length}
use Rattle.std.specs.Option.{option_map}
use Rattle.tag_expr.specs.declared.connective.Connective.{Connective}
use Rattle.tag_expr.specs.declared.connective.Connective.TheVariants.{And, Or}
use Rattle.tag_expr.specs.Connectives.{phrase_of, IsPartEnd}
use Rattle.tag_expr.specs.Nodes.{expression_of}
use Rattle.tag_expr.specs.Parsing.{IsRead}
use Rattle.tag_expr.specs.TokenTexts.{tokens_left}
use Rattle.tag_expr.proofs.parser.+parser.Given as goal

-- a connective stands above its operands, and | above &
abbrev rank : Connective → ℕ
rank And = 1
rank Or = 3

abbrev pub decreases-operands : goal.decreases-operands
decreases-operands l = 5 * length l.left.now + rank l.connective + 1

abbrev pub decreases-part : goal.decreases-part
decreases-part l = 5 * length l.left.now + rank l.connective

abbrev pub decreases-operand : goal.decreases-operand
decreases-operand l = 5 * length l.left.now

abbrev pub invariant-operands-loop-after : goal.invariant-operands-loop-after
invariant-operands-loop-after l =
    IsRead (phrase_of l.connective) l.end l.pending (tokens_left l.end l.left) (tokens_left l.end l.read.rest.now) (option_map expression_of l.read.node)
    × (length l.read.rest.now < length l.left)
    × IsPartEnd l.connective (tokens_left l.end l.read.rest.now)

abbrev pub decreases-operands-loop-after : goal.decreases-operands-loop-after
decreases-operands-loop-after l = length l.read.rest.now
