-- Names of nested classes: what stands before the dollar sign and the last part.
use Rattle.std.proofs.Common.{◌≡◌, ◌≢◌, ℕ, List, [], ◌∷◌, ◌++◌, sym, ap, ◌∙◌, append_assoc, Option, Some, None, Bor}
use Rattle.std.proofs.lemmas.List.{append_cancel_right}
use Rattle.std.specs.Option.{MatchOption}

-- a name that does not end in the value has no outer name
pub no_outer : (name value : List ℕ) → ((front : List ℕ) → name ≢ front ++ value) → (outer : List ℕ) → name ≢ outer ++ 36 ∷ value
no_outer name value none outer e = none (outer ++ 36 ∷ []) (e ∙ sym (append_assoc outer (36 ∷ []) value))

-- what a dollar sign and then the value end
pub outer_of : (name before value : List ℕ) (r : Option (Bor (List ℕ))) → name ≡ before ++ value → MatchOption r ((front : List ℕ) → before ≢ front ++ (36 ∷ [])) (λ x. before ≡ x.now ++ (36 ∷ [])) → MatchOption r ((outer : List ℕ) → name ≢ outer ++ 36 ∷ value) (λ outer. name ≡ outer.now ++ 36 ∷ value)
outer_of name before value None e none =
    λ outer same. none outer (append_cancel_right before (outer ++ 36 ∷ []) value (sym e ∙ same ∙ sym (append_assoc outer (36 ∷ []) value)))
outer_of name before value (Some x) e is = e ∙ ap (λ y. y ++ value) is ∙ append_assoc x.now (36 ∷ []) value
