-- The numbers and the places of the refusals.
use Rattle.std.specs.Prelude.{ℕ, Option, Some, None}
use Rattle.tag_expr.specs.declared.fault.TagFault.{TagFault}
use Rattle.tag_expr.specs.declared.fault.TagFault.TheVariants.{NoMemory, Empty, BadTag, OperandMissing, OperatorMissing, ParenOpen, ParenClose, TooDeep}

-- the number of a refusal, and 0 for want of memory
abbrev pub number : TagFault → ℕ
number NoMemory = 0
number Empty = 20
number (BadTag at) = 21
number (OperandMissing at) = 22
number (OperatorMissing at) = 23
number (ParenOpen at) = 24
number (ParenClose at) = 25
number TooDeep = 26

-- where in the text, as a number of bytes before it
abbrev pub place : TagFault → Option ℕ
place NoMemory = None
place Empty = None
place (BadTag at) = Some at
place (OperandMissing at) = Some at
place (OperatorMissing at) = Some at
place (ParenOpen at) = Some at
place (ParenClose at) = Some at
place TooDeep = None
