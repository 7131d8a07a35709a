-- What the parts of the parser answer.
use Rattle.std.specs.Prelude.{◌≡◌, ℕ, List, ◌∷◌, ◌++◌, map, length, Bool, true, false, Option, Some, IfSome}
use Rattle.tag_expr.specs.declared.fault.TagFault.{TagFault}
use Rattle.tag_expr.specs.Expressions.{Expression}
use Rattle.tag_expr.specs.ExpressionFaults.{Pending, operand, operator, settled, first_fault}
use Rattle.tag_expr.specs.Grammar.{Phrase, or_phrase, and_phrase, not_phrase, atom_phrase, Spells}
use Rattle.tag_expr.specs.Tokens.{Token, bar, ampersand, PlacedToken, placed, token_of}

-- what may be pending before a phrase: an or and an and stand behind no !
abbrev pub MayPend : Phrase → List Pending → Type 0
MayPend or_phrase pending = settled pending ≡ pending
MayPend and_phrase pending = settled pending ≡ pending
MayPend not_phrase pending = Unit {0}
MayPend atom_phrase pending = Unit {0}

-- the tokens begin with those of the phrase, `rest` follows, no fault comes before that where so many are pending, and what is given is the phrase's expression
pub record IsRead (phrase : Phrase) (end count : ℕ) (ts rest : List PlacedToken) (given : Option Expression) : Type 0 where
  pub front : List Token
  pub split : map token_of ts ≡ front ++ map token_of rest
  pub expression : Expression
  pub tree : Spells phrase front expression
  pub is : IfSome given (λ e. e ≡ expression)
  pub faultless : (pending : List Pending) → length pending ≡ count → MayPend phrase pending → first_fault end operand pending ts ≡ first_fault end operator (settled pending) rest

-- the fault is the first of the tokens
abbrev pub IsRefused : Phrase → ℕ → ℕ → List PlacedToken → TagFault → Type 0
IsRefused phrase end count ts fault = (pending : List Pending) → length pending ≡ count → MayPend phrase pending → first_fault end operand pending ts ≡ Some fault

-- whether a sign stands at the front
abbrev pub begins_bar : List PlacedToken → Bool
begins_bar (placed place bar ∷ ts) = true
begins_bar ts = false

abbrev pub begins_ampersand : List PlacedToken → Bool
begins_ampersand (placed place ampersand ∷ ts) = true
begins_ampersand ts = false

-- the token stands at the front, and `rest` follows
abbrev pub Begins : Token → List PlacedToken → List PlacedToken → Type 0
Begins token ts rest = (place : ℕ) × (ts ≡ placed place token ∷ rest)
