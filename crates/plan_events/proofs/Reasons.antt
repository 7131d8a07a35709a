-- The reasons of a tree's nodes, place by place.
use Rattle.std.proofs.Common.{◌≡◌, ℕ, zero, suc, ◌+◌, ◌<◌, List, [], ◌∷◌, ◌++◌, length, map, take, get_or, refl, ap, sym, ◌∙◌, Option, None, arith}
use Rattle.std.specs.Prelude.{slice_get}
use Rattle.std.proofs.lemmas.List.{take_more, length-map}
use Rattle.descriptor.specs.declared.node.Node.{Node}
use Rattle.descriptor.specs.Nodes.{Nodes, IsTree, size, reason_of, reason_or}
use Rattle.plan_events.specs.Texts.{reasons_of}

reason_in : (nodes : List Node) (n : ℕ) → get_or (map (λ (node : Node). node.disabled) nodes) n None ≡ reason_or (slice_get nodes n)
reason_in [] n = refl
reason_in (x ∷ xs) zero = refl
reason_in (x ∷ xs) (suc n) = reason_in xs n

-- the place of node n has its reason; past the end there is neither
pub reasons_at : (t : Nodes) (n : ℕ) → get_or (reasons_of t) n None ≡ reason_of t n
reasons_at t zero = refl
reasons_at t (suc n) = reason_in t.nodes n

-- there is a place for each node
pub reasons_len : (t : Nodes) → IsTree t → length (reasons_of t) ≡ size t
reasons_len t tree =
    let same : length (map (λ (node : Node). node.disabled) t.nodes) ≡ length t.nodes = length-map t.nodes (λ (node : Node). node.disabled) in
    omega (arith, tree.nodes_len)

-- the places of one more node
pub reasons_more : (t : Nodes) (n : ℕ) (was now : List (Option (List ℕ))) (reason : Option (List ℕ)) → IsTree t → n < size t → was ≡ take n (reasons_of t) → reason ≡ reason_of t n → now ≡ was ++ reason ∷ [] → now ≡ take (n + 1) (reasons_of t)
reasons_more t n was now reason tree inside before here grown =
    grown ∙ ap (λ x. x ++ reason ∷ []) before ∙ ap (λ x. take n (reasons_of t) ++ x ∷ []) (here ∙ sym (reasons_at t n))
    ∙ sym (take_more (reasons_of t) n None (rw (reasons_len t tree) inside))
