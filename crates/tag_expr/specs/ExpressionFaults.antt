-- The first fault of a text as an expression.
use Rattle.std.specs.Prelude.{ℕ, ◌==◌, nat_lt, List, [], ◌∷◌, drop, length, if◌then◌else◌, Option, Some, None}
use Rattle.std.specs.Str.{chars}
use Rattle.tag_expr.specs.declared.fault.TagFault.{TagFault}
use Rattle.tag_expr.specs.declared.fault.TagFault.TheVariants.{Empty, BadTag, OperandMissing, OperatorMissing, ParenOpen, ParenClose, TooDeep}
use Rattle.tag_expr.specs.Tags.{first_bad}
use Rattle.tag_expr.specs.Tokens.{left_paren, right_paren, bang, ampersand, bar, any_call, none_call, word, PlacedToken, placed, tokens}

-- what must come next
pub data Awaited : Type 0 where
  operand : Awaited
  operator : Awaited

-- what is pending: a ! whose operand is not complete, or an open parenthesis and its place
pub data Pending : Type 0 where
  negating : Pending
  opened : ℕ → Pending

-- what stays pending once an operand is complete, which completes each ! right before it
abbrev pub settled : List Pending → List Pending
settled [] = []
settled (negating ∷ pending) = settled pending
settled (opened place ∷ pending) = opened place ∷ pending

-- the parenthesis that is still open at the end, the last one
abbrev pub never_closed : List Pending → Option TagFault
never_closed [] = None
never_closed (negating ∷ pending) = never_closed pending
never_closed (opened place ∷ pending) = Some (ParenOpen place)

-- a fault at a word, or else what comes behind it
abbrev pub at_word : Option ℕ → Option TagFault → Option TagFault
at_word (Some place) behind = Some (BadTag place)
at_word None behind = behind

-- the first fault of the tokens that are left of a text of `end` bytes
abbrev pub first_fault : ℕ → Awaited → List Pending → List PlacedToken → Option TagFault
first_fault end operand pending [] = Some (OperandMissing end)
first_fault end operand pending (placed place (word text) ∷ ts) = at_word (first_bad place (chars text)) (first_fault end operator (settled pending) ts)
first_fault end operand pending (placed place any_call ∷ ts) = first_fault end operator (settled pending) ts
first_fault end operand pending (placed place none_call ∷ ts) = first_fault end operator (settled pending) ts
first_fault end operand pending (placed place bang ∷ ts) = if length pending == 64 then Some TooDeep else first_fault end operand (negating ∷ pending) ts
first_fault end operand pending (placed place left_paren ∷ ts) = if length pending == 64 then Some TooDeep else first_fault end operand (opened place ∷ pending) ts
first_fault end operand pending (placed place right_paren ∷ ts) = Some (OperandMissing place)
first_fault end operand pending (placed place ampersand ∷ ts) = Some (OperandMissing place)
first_fault end operand pending (placed place bar ∷ ts) = Some (OperandMissing place)
first_fault end operator pending [] = never_closed pending
first_fault end operator pending (placed place ampersand ∷ ts) = first_fault end operand pending ts
first_fault end operator pending (placed place bar ∷ ts) = first_fault end operand pending ts
first_fault end operator pending (placed place right_paren ∷ ts) =
    if length pending == 0 then Some (ParenClose place) else first_fault end operator (settled (drop 1 pending)) ts
first_fault end operator pending (placed place (word text) ∷ ts) = Some (OperatorMissing place)
first_fault end operator pending (placed place any_call ∷ ts) = Some (OperatorMissing place)
first_fault end operator pending (placed place none_call ∷ ts) = Some (OperatorMissing place)
first_fault end operator pending (placed place bang ∷ ts) = Some (OperatorMissing place)
first_fault end operator pending (placed place left_paren ∷ ts) = Some (OperatorMissing place)

abbrev pub fault_of_tokens : ℕ → List PlacedToken → Option TagFault
fault_of_tokens end [] = Some Empty
fault_of_tokens end (t ∷ ts) = first_fault end operand [] (t ∷ ts)

-- the first fault of a text: its length, then no token, then the tokens from the left
abbrev pub expression_refusal : List ℕ → Option TagFault
expression_refusal text = if nat_lt 1024 (length text) then Some TooDeep else fault_of_tokens (length text) (tokens text)
