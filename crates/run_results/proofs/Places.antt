-- How places come with one more node, and what a tree's facts say of them.
use Rattle.std.proofs.Common.{◌≡◌, ℕ, zero, suc, ◌+◌, ◌<◌, ◌≤◌, Bool, cond, List, [], ◌∷◌, ◌++◌, length, map, sym, ap, ◌∙◌, arith}
use Rattle.std.specs.List.{range_with_len}
use Rattle.std.proofs.lemmas.Bool.{ne_eqb}
use Rattle.std.proofs.lemmas.List.FromFn.{length-map-range_with_len, get_or-map-range_with_len, map-range_with_len_more}
use Rattle.descriptor.specs.Nodes.{Nodes, IsTree, size, parent_of}
use Rattle.run_results.specs.declared.node_places.NodePlace.{NodePlace}
use Rattle.run_results.specs.Counts.{place_of, outline_of, place_in, FollowParents}

-- one more place
pub places_more : (t : Nodes) (n : ℕ) (was now : List NodePlace) (place : NodePlace) → was ≡ map (place_of t) (range_with_len 0 n) → place ≡ place_of t n → now ≡ was ++ place ∷ [] → now ≡ map (place_of t) (range_with_len 0 (n + 1))
places_more t n was now place before here grown =
    grown ∙ ap (λ (ps : List NodePlace). ps ++ place ∷ []) before ∙ ap (λ (p : NodePlace). map (place_of t) (range_with_len 0 n) ++ p ∷ []) here
    ∙ sym (map-range_with_len_more (place_of t) 0 n n (omega arith))

module _ (t : Nodes) (tree : IsTree t) where
  pub places_len : length (outline_of t) ≡ size t
  places_len = length-map-range_with_len (place_of t) 0 (size t)

  pub parent_kept : (n : ℕ) → 0 < n → (place_of t n).parent ≡ parent_of t n
  parent_kept zero above = absurd (omega (arith, above))
  parent_kept (suc n) above = ap (λ (b : Bool). cond b 0 (parent_of t (suc n))) (ne_eqb (suc n) 0 (λ q. omega (arith, q)))

  -- in a tree's outline each node stands after its parent
  pub places_follow : (outline : List NodePlace) → outline ≡ outline_of t → FollowParents outline
  places_follow outline is n above lt =
      let len : length outline ≡ length (outline_of t) = ap length is in
      let within : n < size t = omega (arith, lt, len, places_len) in
      let here : (place_in outline n).parent ≡ parent_of t n = ap (λ (ps : List NodePlace). (place_in ps n).parent) is ∙ ap (λ (p : NodePlace). p.parent) (get_or-map-range_with_len (place_of t) 0 (size t) n n _ within (omega arith)) ∙ parent_kept n above in
      omega (arith, here, tree.up n above within)

  pub places_few : (outline : List NodePlace) → outline ≡ outline_of t → length outline ≤ 16384
  places_few outline is =
      let len : length outline ≡ length (outline_of t) = ap length is in
      omega (arith, len, places_len, tree.few)
