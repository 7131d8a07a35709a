-- A question to all the sets together is one to each of them.
use Rattle.std.proofs.Common.{◌≡◌, ℕ, ◌+◌, ◌==◌, List, [], ◌∷◌, ◌∙◌, length, length-append, refl, ap, arith, Bor}
use Rattle.std.specs.Prelude.{◌||◌, ◌&&◌}
use Rattle.std.specs.List.{list_any, list_all}
use Rattle.std.specs.Str.{bytes_eq}
use Rattle.std.proofs.lemmas.Bool.Decides.{nat_tests}
use Rattle.std.proofs.lemmas.List.Folds.{list_any-append}
use Rattle.tag_expr.specs.Expressions.{together}
use Rattle.tag_expr.specs.TagSets.{has_tag}

pub together_has : (sets : List (Bor (List (List ℕ)))) (tag : List ℕ) → has_tag (together sets) tag ≡ list_any (λ set. has_tag set.now tag) sets
together_has [] tag = refl
together_has (set ∷ sets) tag =
    list_any-append (λ (other : List ℕ). bytes_eq other tag) set.now (together sets) ∙ ap (λ b. has_tag set.now tag || b) (together_has sets tag)

no_more : (a b : ℕ) → (a + b == 0) ≡ ((a == 0) && (b == 0))
no_more a b = grind (arith, nat_tests)

pub together_empty : (sets : List (Bor (List (List ℕ)))) → (length (together sets) == 0) ≡ list_all (λ set. length set.now == 0) sets
together_empty [] = refl
together_empty (set ∷ sets) =
    ap (λ n. n == 0) (length-append set.now (together sets)) ∙ no_more (length set.now) (length (together sets)) ∙ ap (λ b. (length set.now == 0) && b) (together_empty sets)
