-- An expression as a list, which gives it back: its operands before each operator.
use Rattle.std.specs.Prelude.{◌≡◌, ℕ, zero, suc, List, [], ◌∷◌, refl}
use Rattle.std.specs.Coded.{Coded, code_by, coded×, coded_ℕ, coded_list}
use Rattle.std.proofs.Common.{◌∙◌, ap}
use Rattle.tag_expr.specs.Expressions.{Expression, tag, any_tag, no_tag, negation, conjunction, disjunction}

-- the expression's list before another
abbrev pub listed : Expression → List (ℕ × List ℕ) → List (ℕ × List ℕ)
listed (tag t) rest = (0, t) ∷ rest
listed any_tag rest = (1, []) ∷ rest
listed no_tag rest = (2, []) ∷ rest
listed (negation e) rest = listed e ((3, []) ∷ rest)
listed (conjunction d e) rest = listed d (listed e ((4, []) ∷ rest))
listed (disjunction d e) rest = listed d (listed e ((5, []) ∷ rest))

-- what one item makes of the expressions so far, the last one first
abbrev pub made : ℕ → List ℕ → List Expression → List Expression
made zero t es = tag t ∷ es
made (suc zero) t es = any_tag ∷ es
made (suc (suc zero)) t es = no_tag ∷ es
made (suc (suc (suc zero))) t (e ∷ es) = negation e ∷ es
made (suc (suc (suc (suc zero)))) t (e ∷ d ∷ es) = conjunction d e ∷ es
made (suc (suc (suc (suc (suc zero))))) t (e ∷ d ∷ es) = disjunction d e ∷ es
made n t es = es

abbrev pub given_back : List Expression → List (ℕ × List ℕ) → List Expression
given_back es [] = es
given_back es (item ∷ items) = given_back (made item.0 item.1 es) items

abbrev pub first : List Expression → Expression
first [] = any_tag
first (e ∷ es) = e

abbrev pub gives_back : (e : Expression) (es : List Expression) (rest : List (ℕ × List ℕ)) → given_back es (listed e rest) ≡ given_back (e ∷ es) rest
gives_back (tag t) es rest = refl
gives_back any_tag es rest = refl
gives_back no_tag es rest = refl
gives_back (negation e) es rest = gives_back e es ((3, []) ∷ rest)
gives_back (conjunction d e) es rest = gives_back d es (listed e ((4, []) ∷ rest)) ∙ gives_back e (d ∷ es) ((4, []) ∷ rest)
gives_back (disjunction d e) es rest = gives_back d es (listed e ((5, []) ∷ rest)) ∙ gives_back e (d ∷ es) ((5, []) ∷ rest)

abbrev pub expression_code : Coded Expression
expression_code =
    code_by (List (ℕ × List ℕ)) (coded_list (coded× coded_ℕ (coded_list coded_ℕ))) (λ e. listed e []) (λ items. first (given_back [] items)) (λ e. ap first (gives_back e [] []))
