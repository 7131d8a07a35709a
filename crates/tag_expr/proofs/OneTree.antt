-- Tokens spell one expression at most: a machine that takes them from the left comes to each that they spell.
use Rattle.std.proofs.Common.{◌≡◌, ◌++◌, ◌∷◌, [], ◌∙◌, List, refl, sym, ap, append_assoc, append-nil}
use Rattle.std.specs.Prelude.{Option, Some, None}
use Rattle.tag_expr.specs.Expressions.{Expression, tag, any_tag, no_tag, negation, conjunction, disjunction}
use Rattle.tag_expr.specs.Grammar.{Phrase, or_phrase, and_phrase, not_phrase, atom_phrase, Spells, one_and, more_or, one_not, more_and, negated, one_atom, a_tag, any_atom, none_atom, group, IsOnlyTree}
use Rattle.tag_expr.specs.Tokens.{Token, left_paren, right_paren, bang, ampersand, bar, any_call, none_call, word}

-- what waits for an operand: a !, the left of an & or a |, an open parenthesis
data Frame : Type 0 where
  not_frame : Frame
  and_frame : Expression → Frame
  or_frame : Expression → Frame
  paren_frame : Frame

-- the machine wants an operand, or has one, or has failed
data State : Type 0 where
  wants : List Frame → State
  has : List Frame → Expression → State
  failed : State

-- an operand is complete
abbrev complete : List Frame → Expression → State
complete [] e = has [] e
complete (not_frame ∷ fs) e = complete fs (negation e)
complete (and_frame d ∷ fs) e = has fs (conjunction d e)
complete (or_frame d ∷ fs) e = has (or_frame d ∷ fs) e
complete (paren_frame ∷ fs) e = has (paren_frame ∷ fs) e

-- an or is complete up to here
abbrev joined : List Frame → Expression → State
joined [] e = has [] e
joined (not_frame ∷ fs) e = has (not_frame ∷ fs) e
joined (and_frame d ∷ fs) e = has (and_frame d ∷ fs) e
joined (or_frame d ∷ fs) e = has fs (disjunction d e)
joined (paren_frame ∷ fs) e = has (paren_frame ∷ fs) e

abbrev behind_bar : State → State
behind_bar (has fs e) = wants (or_frame e ∷ fs)
behind_bar (wants fs) = failed
behind_bar failed = failed

abbrev closed : List Frame → Expression → State
closed [] e = failed
closed (not_frame ∷ fs) e = failed
closed (and_frame d ∷ fs) e = failed
closed (or_frame d ∷ fs) e = failed
closed (paren_frame ∷ fs) e = complete fs e

abbrev behind_paren : State → State
behind_paren (has fs e) = closed fs e
behind_paren (wants fs) = failed
behind_paren failed = failed

abbrev ended : State → Option Expression
ended (has [] e) = Some e
ended (has (f ∷ fs) e) = None
ended (wants fs) = None
ended failed = None

-- one token
abbrev step : State → Token → State
step failed t = failed
step (wants fs) (word text) = complete fs (tag text)
step (wants fs) any_call = complete fs any_tag
step (wants fs) none_call = complete fs no_tag
step (wants fs) bang = wants (not_frame ∷ fs)
step (wants fs) left_paren = wants (paren_frame ∷ fs)
step (wants fs) right_paren = failed
step (wants fs) ampersand = failed
step (wants fs) bar = failed
step (has fs e) ampersand = wants (and_frame e ∷ fs)
step (has fs e) bar = behind_bar (joined fs e)
step (has fs e) right_paren = behind_paren (joined fs e)
step (has fs e) (word text) = failed
step (has fs e) any_call = failed
step (has fs e) none_call = failed
step (has fs e) bang = failed
step (has fs e) left_paren = failed

abbrev at_end : State → Option Expression
at_end (has fs e) = ended (joined fs e)
at_end (wants fs) = None
at_end failed = None

abbrev run : State → List Token → Option Expression
run s [] = at_end s
run s (t ∷ ts) = run (step s t) ts

-- an operand completes nothing here but itself, and an or neither
abbrev IsPlain : List Frame → Type 0
IsPlain fs = (e : Expression) → complete fs e ≡ has fs e

abbrev IsBase : List Frame → Type 0
IsBase fs = IsPlain fs × ((e : Expression) → joined fs e ≡ has fs e)

-- what comes behind an or: the end, a | or a )
data OrEnd : Type 0 where
  at_the_end : OrEnd
  at_bar : List Token → OrEnd
  at_paren : List Token → OrEnd

abbrev tail_of : OrEnd → List Token
tail_of at_the_end = []
tail_of (at_bar ts) = bar ∷ ts
tail_of (at_paren ts) = right_paren ∷ ts

-- the machine goes on behind a phrase with its expression
abbrev GoesOn : Phrase → List Token → Expression → Type 0
GoesOn or_phrase ts e = (fs : List Frame) (tail : OrEnd) → IsBase fs → run (wants fs) (ts ++ tail_of tail) ≡ run (has fs e) (tail_of tail)
GoesOn and_phrase ts e = (fs : List Frame) (tail : List Token) → IsPlain fs → run (wants fs) (ts ++ tail) ≡ run (has fs e) tail
GoesOn not_phrase ts e = (fs : List Frame) (tail : List Token) → run (wants fs) (ts ++ tail) ≡ run (complete fs e) tail
GoesOn atom_phrase ts e = (fs : List Frame) (tail : List Token) → run (wants fs) (ts ++ tail) ≡ run (complete fs e) tail

-- an or that is open on the left is joined at its end
or_behind : (fs : List Frame) (d e : Expression) (tail : OrEnd) → IsBase fs → run (has (or_frame d ∷ fs) e) (tail_of tail) ≡ run (has fs (disjunction d e)) (tail_of tail)
or_behind fs d e at_the_end base = ap ended (sym (base.1 (disjunction d e)))
or_behind fs d e (at_bar ts) base = ap (λ s. run (behind_bar s) ts) (sym (base.1 (disjunction d e)))
or_behind fs d e (at_paren ts) base = ap (λ s. run (behind_paren s) ts) (sym (base.1 (disjunction d e)))

goes_on : {p : Phrase} {ts : List Token} {e : Expression} → Spells p ts e → GoesOn p ts e
goes_on (one_and {ts} {e} s) = λ fs tail base. goes_on s fs (tail_of tail) base.0
goes_on (more_or {ts} {us} {d} {e} s r) = λ fs tail base.
    ap (run (wants fs)) (append_assoc ts (bar ∷ us) (tail_of tail))
    ∙ goes_on s fs (at_bar (us ++ tail_of tail)) base
    ∙ ap (λ q. run (behind_bar q) (us ++ tail_of tail)) (base.1 d)
    ∙ goes_on r (or_frame d ∷ fs) (tail_of tail) (λ x. refl)
    ∙ or_behind fs d e tail base
goes_on (one_not {ts} {e} s) = λ fs tail plain. goes_on s fs tail ∙ ap (λ q. run q tail) (plain e)
goes_on (more_and {ts} {us} {d} {e} s r) = λ fs tail plain.
    ap (run (wants fs)) (append_assoc ts (ampersand ∷ us) tail)
    ∙ goes_on s fs (ampersand ∷ (us ++ tail)) plain
    ∙ goes_on r (and_frame d ∷ fs) tail
goes_on (negated {ts} {e} s) = λ fs tail. goes_on s (not_frame ∷ fs) tail
goes_on (one_atom {ts} {e} s) = λ fs tail. goes_on s fs tail
goes_on (a_tag {text} good) = λ fs tail. refl
goes_on any_atom = λ fs tail. refl
goes_on none_atom = λ fs tail. refl
goes_on (group {ts} {e} s) = λ fs tail.
    ap (run (wants (paren_frame ∷ fs))) (append_assoc ts (right_paren ∷ []) tail)
    ∙ goes_on s (paren_frame ∷ fs) (at_paren tail) ((λ x. refl), (λ x. refl))

comes_to : (ts : List Token) (e : Expression) → Spells or_phrase ts e → run (wants []) ts ≡ Some e
comes_to ts e s = ap (run (wants [])) (sym (append-nil ts)) ∙ goes_on s [] at_the_end ((λ x. refl), (λ x. refl))

pub one_tree : (ts : List Token) (e : Expression) → Spells or_phrase ts e → IsOnlyTree ts e
one_tree ts e s = λ other o. let same : Some other ≡ Some e = sym (comes_to ts other o) ∙ comes_to ts e s in cc
