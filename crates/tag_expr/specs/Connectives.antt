-- What the two connectives join, and what that is.
use Rattle.std.specs.Prelude.{◌≡◌, List, Bool, false}
use Rattle.tag_expr.specs.declared.connective.Connective.{Connective}
use Rattle.tag_expr.specs.declared.connective.Connective.TheVariants.{And, Or}
use Rattle.tag_expr.specs.Expressions.{Expression, conjunction, disjunction}
use Rattle.tag_expr.specs.Grammar.{Phrase, or_phrase, and_phrase, not_phrase}
use Rattle.tag_expr.specs.Parsing.{begins_bar, begins_ampersand}
use Rattle.tag_expr.specs.Tokens.{Token, bar, ampersand, PlacedToken}

-- the phrase that it makes
abbrev pub phrase_of : Connective → Phrase
phrase_of And = and_phrase
phrase_of Or = or_phrase

-- the phrase of each operand
abbrev pub part_of : Connective → Phrase
part_of And = not_phrase
part_of Or = and_phrase

abbrev pub sign_of : Connective → Token
sign_of And = ampersand
sign_of Or = bar

abbrev pub joins : Connective → Expression → Expression → Expression
joins And = conjunction
joins Or = disjunction

-- whether its sign stands at the front
abbrev pub begins : Connective → List PlacedToken → Bool
begins And ts = begins_ampersand ts
begins Or ts = begins_bar ts

-- behind an operand stands no sign that binds tighter
abbrev pub IsPartEnd : Connective → List PlacedToken → Type 0
IsPartEnd And ts = Unit {0}
IsPartEnd Or ts = begins_ampersand ts ≡ false

-- behind all operands its own sign doesn't stand either
abbrev pub IsEnd : Connective → List PlacedToken → Type 0
IsEnd connective ts = IsPartEnd connective ts × (begins connective ts ≡ false)
