-- The tags of a node together with those above it.
use Rattle.std.proofs.Common.{◌≡◌, ℕ, List, [], ◌∷◌, ◌++◌, refl, sym, ap, ◌∙◌, append_assoc, Bor}
use Rattle.std.proofs.lemmas.List.{append-nil}
use Rattle.std.specs.List.{flat_map}
use Rattle.descriptor.specs.Nodes.{Nodes, IsTree, IsChild, tags_of}
use Rattle.selectors.specs.Filters.{tags_together}
use Rattle.selectors.proofs.Lineage.{lineage_up}

flat_map-append : {X : Type 0} (f : X → List (List ℕ)) (xs ys : List X) → flat_map f (xs ++ ys) ≡ flat_map f xs ++ flat_map f ys
flat_map-append f [] ys = refl
flat_map-append f (x ∷ xs) ys = ap (λ rest. f x ++ rest) (flat_map-append f xs ys) ∙ sym (append_assoc (f x) (flat_map f xs) (flat_map f ys))

tags_up : (t : Nodes) → IsTree t → (p n : ℕ) → IsChild t p n → tags_together t n ≡ tags_of t n ++ tags_together t p
tags_up t tree p n e = ap (flat_map (tags_of t)) (lineage_up t tree n e.above_zero e.inside) ∙ ap (λ m. tags_of t n ++ tags_together t m) e.parent

-- one more set, as the walk goes one step up
pub tags_stepped : (t : Nodes) → IsTree t → (start p n : ℕ) → IsChild t p n → (sets : List (Bor (List (List ℕ)))) (set : Bor (List (List ℕ))) → set.now ≡ tags_of t n → tags_together t start ≡ flat_map (λ s. s.now) sets ++ tags_together t n → tags_together t start ≡ flat_map (λ s. s.now) (sets ++ set ∷ []) ++ tags_together t p
tags_stepped t tree start p n e sets set is so_far =
    so_far ∙ ap (λ x. flat_map (λ (s : Bor (List (List ℕ))). s.now) sets ++ x) (tags_up t tree p n e ∙ ap (λ x. x ++ tags_together t p) (sym is))
    ∙ sym (append_assoc (flat_map (λ (s : Bor (List (List ℕ))). s.now) sets) set.now (tags_together t p))
    ∙ ap (λ x. x ++ tags_together t p) (ap (λ x. flat_map (λ (s : Bor (List (List ℕ))). s.now) sets ++ x) (sym (append-nil set.now)) ∙ sym (flat_map-append (λ (s : Bor (List (List ℕ))). s.now) sets (set ∷ [])))
