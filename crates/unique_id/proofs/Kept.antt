-- One more segment is kept and counted.
use Rattle.std.proofs.Common.{◌≡◌, List, [], ◌∷◌, ◌++◌, Option, Some, None, IfSome, ap, ◌∙◌}
use Rattle.std.specs.Prelude.{IsSomeAnd}

pub kept_more : {V X : Type 0} (items : V → List X) (new old : Option V) (xs : List X) (x : X)
    → IfSome new (λ n. IsSomeAnd old (λ o. items n ≡ items o ++ x ∷ [])) → IfSome old (λ o. items o ≡ xs) → IfSome new (λ n. items n ≡ xs ++ x ∷ [])
kept_more items None old xs x h k = tt
kept_more items (Some n) None xs x h k = absurd h
kept_more items (Some n) (Some o) xs x h k = h ∙ ap (λ l. l ++ x ∷ []) k
