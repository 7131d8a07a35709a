-- What the tree of the nodes in an order tells at a place: what the tree tells of the node that stands there.
use Rattle.std.proofs.Common.{◌≡◌, ℕ, zero, suc, ◌+◌, ◌<◌, true, List, [], ◌∷◌, length, map, drop, get_or, refl, sym, ap, ◌∙◌, arith, inl, inr, subst, Option, Some, None}
use Rattle.std.specs.Prelude.{slice_get}
use Rattle.std.specs.List.{filter_map, cons_option}
use Rattle.std.proofs.lemmas.Bool.{cases_lt, false≢true}
use Rattle.std.proofs.lemmas.List.{length-map}
use Rattle.std.proofs.lemmas.Option.{slice_get_past}
use Rattle.descriptor.specs.declared.node.Node.{Node}
use Rattle.descriptor.specs.Nodes.{Nodes, IsTree, IsChild, Below, child, under, size, parent_of, node_at, role_or, is_spare_at}
use Rattle.descriptor.specs.Roles.{is_spare}
use Rattle.tree_orders.specs.Listed.{IsOrder}
use Rattle.tree_orders.specs.Orders.{place_in, reordered}

get_mapped : (f : ℕ → ℕ) (xs : List ℕ) (j : ℕ) → j < length xs → get_or (map f xs) j 0 ≡ f (get_or xs j 0)
get_mapped f [] j inside = absurd (omega arith)
get_mapped f (x ∷ xs) zero inside = refl
get_mapped f (x ∷ xs) (suc j) inside = get_mapped f xs j (omega arith)

get_later : (f : ℕ → ℕ) (xs : List ℕ) (j : ℕ) → suc j < length xs → get_or (map f (drop 1 xs)) j 0 ≡ f (get_or xs (suc j) 0)
get_later f [] j inside = absurd (omega arith)
get_later f (x ∷ xs) j inside = get_mapped f xs j (omega arith)

one_for_first : (f : ℕ → ℕ) (xs : List ℕ) → 0 < length xs → suc (length (map f (drop 1 xs))) ≡ length xs
one_for_first f [] some = absurd (omega arith)
one_for_first f (x ∷ xs) some = ap suc (length-map xs f)

-- what is told of nodes of which each is told of
told_each : (g : ℕ → Option Node) (none : g 0 ≡ None) (xs : List ℕ) (j : ℕ) → ((k : ℕ) → k < length xs → (node : Node) × (g (get_or xs k 0) ≡ Some node)) → slice_get (filter_map g xs) j ≡ g (get_or xs j 0)
told_each g none [] j each = sym none
told_each g none (x ∷ xs) zero each =
    let first = each 0 (omega arith) in
    ap (λ (o : Option Node). slice_get (cons_option o (filter_map g xs)) 0) first.1 ∙ sym first.1
told_each g none (x ∷ xs) (suc j) each =
    let first = each 0 (omega arith) in
    ap (λ (o : Option Node). slice_get (cons_option o (filter_map g xs)) (suc j)) first.1 ∙ told_each g none xs j (λ k inside. each (suc k) (omega arith))

-- and of such nodes behind one of which nothing is told
told_later : (g : ℕ → Option Node) (none : g 0 ≡ None) (xs : List ℕ) (j : ℕ) → get_or xs 0 0 ≡ 0 → ((k : ℕ) → suc k < length xs → (node : Node) × (g (get_or xs (suc k) 0) ≡ Some node)) → slice_get (filter_map g xs) j ≡ g (get_or xs (suc j) 0)
told_later g none [] j first each = sym none
told_later g none (x ∷ xs) j first each =
    ap (λ (o : Option Node). slice_get (cons_option o (filter_map g xs)) j) (ap g first ∙ none) ∙ told_each g none xs j (λ k inside. each k (omega arith))

pub length_told : (g : ℕ → Option Node) (xs : List ℕ) → ((k : ℕ) → k < length xs → (node : Node) × (g (get_or xs k 0) ≡ Some node)) → length (filter_map g xs) ≡ length xs
length_told g [] each = refl
length_told g (x ∷ xs) each =
    let first = each 0 (omega arith) in
    ap (λ (o : Option Node). length (cons_option o (filter_map g xs))) first.1 ∙ ap suc (length_told g xs (λ k inside. each (suc k) (omega arith)))

length_later : (g : ℕ → Option Node) (none : g 0 ≡ None) (xs : List ℕ) → 0 < length xs → get_or xs 0 0 ≡ 0 → ((k : ℕ) → suc k < length xs → (node : Node) × (g (get_or xs (suc k) 0) ≡ Some node)) → suc (length (filter_map g xs)) ≡ length xs
length_later g none [] some first each = absurd (omega arith)
length_later g none (x ∷ xs) some first each =
    ap (λ (o : Option Node). suc (length (cons_option o (filter_map g xs)))) (ap g first ∙ none) ∙ ap suc (length_told g xs (λ k inside. each k (omega arith)))

get_some : (xs : List Node) (i : ℕ) → i < length xs → (x : Node) × (slice_get xs i ≡ Some x)
get_some [] i inside = absurd (omega arith)
get_some (x ∷ xs) zero inside = (x, refl)
get_some (x ∷ xs) (suc i) inside = get_some xs i (omega arith)

-- each node but the plan is told of
pub told_of : (t : Nodes) → IsTree t → (n : ℕ) → 0 < n → n < size t → (node : Node) × (node_at t n ≡ Some node)
told_of t tree zero above inside = absurd (omega arith)
told_of t tree (suc n) above inside = get_some t.nodes n (omega (arith, tree.nodes_len))

-- a dynamic test is a node
pub spare_inside : (t : Nodes) → IsTree t → (n : ℕ) → is_spare_at t n ≡ true → n < size t
spare_inside t tree zero spare = tree.root
spare_inside t tree (suc m) spare = elim (cases_lt (suc m) (size t)) [
  | inl inside ↦ inside
  | inr past ↦ absurd (false≢true (sym (ap (λ o. is_spare (role_or o)) (slice_get_past t.nodes m (let len = tree.nodes_len in omega (arith, len, past)))) ∙ spare))
]

-- and not the plan
pub spare_above : (t : Nodes) (n : ℕ) → is_spare_at t n ≡ true → 0 < n
spare_above t zero spare = absurd (cc)
spare_above t (suc n) spare = omega arith

module _ (t : Nodes) (tree : IsTree t) (order : List ℕ) (is : IsOrder t order) where
  abbrev at : ℕ → ℕ
  at k = get_or order k 0

  abbrev p : ℕ → ℕ
  p n = place_in order n

  abbrev u : Nodes
  u = reordered t order

  pub size_same : size (reordered t order) ≡ size t
  size_same = one_for_first (λ n. place_in order (parent_of t n)) order (let len : length order ≡ size t = is.listed.counted in omega (arith, tree.root)) ∙ is.listed.counted

  pub plan_place : place_in order 0 ≡ 0
  plan_place = ap p (sym is.listed.first) ∙ is.listed.once 0 tree.root

  -- behind the first place stands no plan
  pub above_at : (k : ℕ) → 0 < k → k < size t → 0 < get_or order k 0
  above_at k above inside = elim (cases_lt 0 (at k)) [
    | inl some ↦ some
    | inr none ↦ absurd (
        let zero_at : at k ≡ 0 = omega arith in
        let same : k ≡ 0 = sym (is.listed.once k inside) ∙ ap p zero_at ∙ plan_place in
        omega arith)
  ]

  pub above_place : (n : ℕ) → 0 < n → n < size t → 0 < place_in order n
  above_place n above inside = elim (cases_lt 0 (p n)) [
    | inl some ↦ some
    | inr none ↦ absurd (
        let zero_at : p n ≡ 0 = omega arith in
        let same : n ≡ 0 = sym (is.listed.here n inside) ∙ ap at zero_at ∙ is.listed.first in
        omega arith)
  ]

  -- each node at a later place is told of
  each_told : (k : ℕ) → suc k < length order → (node : Node) × (node_at t (get_or order (suc k) 0) ≡ Some node)
  each_told k inside =
      let low : suc k < size t = (let len : length order ≡ size t = is.listed.counted in omega arith) in
      told_of t tree (at (suc k)) (above_at (suc k) (omega arith) low) (is.listed.low (suc k) low)

  pub parent_at : (k : ℕ) → 0 < k → k < size t → parent_of (reordered t order) k ≡ place_in order (parent_of t (get_or order k 0))
  parent_at zero above inside = absurd (omega arith)
  parent_at (suc j) above inside = get_later (λ n. place_in order (parent_of t n)) order j (let len : length order ≡ size t = is.listed.counted in omega arith)

  pub told_at : (k : ℕ) → node_at (reordered t order) k ≡ node_at t (get_or order k 0)
  told_at zero = ap (node_at t) (sym is.listed.first)
  told_at (suc j) = told_later (node_at t) refl order j is.listed.first each_told

  pub nodes_len : length (reordered t order).nodes + 1 ≡ size (reordered t order)
  nodes_len =
      let len : length order ≡ size t = is.listed.counted in
      let more : suc (length (filter_map (node_at t) order)) ≡ length order = length_later (node_at t) refl order (omega (arith, tree.root)) is.listed.first each_told in
      let same : size u ≡ size t = size_same in
      omega arith

  pub parent_placed : (n : ℕ) → 0 < n → n < size t → parent_of (reordered t order) (place_in order n) ≡ place_in order (parent_of t n)
  parent_placed n above inside = parent_at (p n) (above_place n above inside) (is.listed.inside n inside) ∙ ap (λ m. p (parent_of t m)) (is.listed.here n inside)

  pub told_placed : (n : ℕ) → n < size t → node_at (reordered t order) (place_in order n) ≡ node_at t n
  told_placed n inside = told_at (p n) ∙ ap (node_at t) (is.listed.here n inside)

  -- children are children
  pub child_placed : (a c : ℕ) → IsChild t a c → IsChild (reordered t order) (place_in order a) (place_in order c)
  child_placed a c e = record {
    above_zero = above_place c e.above_zero e.inside;
    inside = subst (λ (m : ℕ). p c < m) (sym size_same) (is.listed.inside c e.inside);
    parent = parent_placed c e.above_zero e.inside ∙ ap p e.parent;
  }

  pub child_back : (k c : ℕ) → IsChild (reordered t order) k c → IsChild t (get_or order k 0) (get_or order c 0)
  child_back k c e =
      let low : c < size t = subst (λ (m : ℕ). c < m) size_same e.inside in
      let above : 0 < at c = above_at c e.above_zero low in
      let inside : at c < size t = is.listed.low c low in
      let less : parent_of t (at c) < at c = tree.up (at c) above inside in
      record {
        above_zero = above;
        inside = inside;
        parent = sym (is.listed.here (parent_of t (at c)) (omega arith)) ∙ ap at (sym (parent_at c e.above_zero low) ∙ e.parent);
      }

  pub below_placed : (a b : ℕ) → Below t a b → Below (reordered t order) (place_in order a) (place_in order b)
  below_placed a b (child e) = child (child_placed a b e)
  below_placed a b (under {c} d e) = under (below_placed a c d) (child_placed c b e)
