-- Which tokens spell which expression.
use Rattle.std.specs.Prelude.{◌≡◌, ℕ, List, [], ◌∷◌, ◌++◌, false}
use Rattle.std.specs.List.{list_any}
use Rattle.std.specs.Str.{chars}
use Rattle.tag_expr.specs.Expressions.{Expression, tag, any_tag, no_tag, negation, conjunction, disjunction}
use Rattle.tag_expr.specs.Tags.{is_bad}
use Rattle.tag_expr.specs.Tokens.{Token, left_paren, right_paren, bang, ampersand, bar, any_call, none_call, word}

-- the phrases of the grammar: or = and ("|" and)*, and = not ("&" not)*, not = "!" not | atom, atom = tag | any() | none() | "(" or ")"
pub data Phrase : Type 0 where
  or_phrase : Phrase
  and_phrase : Phrase
  not_phrase : Phrase
  atom_phrase : Phrase

-- a word that is a tag has no bad character
abbrev pub IsTag : List ℕ → Type 0
IsTag text = list_any is_bad (chars text) ≡ false

-- the tokens spell the expression as such a phrase; & and | take all that stands to their left
pub data Spells : Phrase → List Token → Expression → Type 0 where
  one_and : {ts : List Token} {e : Expression} → Spells and_phrase ts e → Spells or_phrase ts e
  more_or : {ts us : List Token} {d e : Expression} → Spells or_phrase ts d → Spells and_phrase us e → Spells or_phrase (ts ++ bar ∷ us) (disjunction d e)
  one_not : {ts : List Token} {e : Expression} → Spells not_phrase ts e → Spells and_phrase ts e
  more_and : {ts us : List Token} {d e : Expression} → Spells and_phrase ts d → Spells not_phrase us e → Spells and_phrase (ts ++ ampersand ∷ us) (conjunction d e)
  negated : {ts : List Token} {e : Expression} → Spells not_phrase ts e → Spells not_phrase (bang ∷ ts) (negation e)
  one_atom : {ts : List Token} {e : Expression} → Spells atom_phrase ts e → Spells not_phrase ts e
  a_tag : {text : List ℕ} → IsTag text → Spells atom_phrase (word text ∷ []) (tag text)
  any_atom : Spells atom_phrase (any_call ∷ []) any_tag
  none_atom : Spells atom_phrase (none_call ∷ []) no_tag
  group : {ts : List Token} {e : Expression} → Spells or_phrase ts e → Spells atom_phrase (left_paren ∷ (ts ++ right_paren ∷ [])) e

-- no other expression is spelled by the tokens
abbrev pub IsOnlyTree : List Token → Expression → Type 0
IsOnlyTree ts e = (other : Expression) → Spells or_phrase ts other → other ≡ e

-- the tokens spell no expression
abbrev pub HasNoTree : List Token → Type 0
HasNoTree ts = (e : Expression) → ¬ (Spells or_phrase ts e)
