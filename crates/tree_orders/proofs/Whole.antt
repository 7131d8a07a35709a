-- The tree of the nodes in an order is a tree, and has the nodes as they stood.
use Rattle.std.proofs.Common.{◌≡◌, ℕ, zero, suc, ◌+◌, ◌-◌, ◌<◌, ◌≤◌, Bool, true, List, length, get_or, refl, sym, ap, ◌∙◌, arith, inl, inr, ◌⊎◌, subst, Option, Some, None}
use Rattle.std.proofs.lemmas.Bool.{cases_lt}
use Rattle.std.proofs.lemmas.List.{get_or_past}
use Rattle.descriptor.specs.declared.node.Node.{Node}
use Rattle.descriptor.specs.Declarations.{DeclaresNothing}
use Rattle.descriptor.specs.Kinds.{is_container}
use Rattle.descriptor.specs.Nodes.{Nodes, IsTree, IsChild, Below, child, under, size, parent_of, node_at, depth_of, kind_or, role_or, mode_or, locks_or, isolated_or, body_or, after_or, text_or, is_spare_at}
use Rattle.descriptor.specs.Roles.{is_spare, is_factory}
use Rattle.std.specs.Prelude.{not}
use Rattle.descriptor.proofs.Between.{below_through}
use Rattle.descriptor.proofs.Grown.{steps_enough}
use Rattle.tree_orders.specs.Listed.{IsOrder}
use Rattle.tree_orders.specs.Orders.{place_in, reordered}
use Rattle.tree_orders.specs.Reordered.{IsReordered}
use Rattle.tree_orders.proofs.Placing.{size_same, plan_place, above_at, above_place, parent_at, told_at, nodes_len, parent_placed, told_placed, child_back, below_placed, spare_inside, spare_above}
use Rattle.tree_orders.proofs.Uppers.{below_less}

-- a node below another is one step deeper than its parent
depth_down : (t : Nodes) → ((n : ℕ) → 0 < n → n < size t → parent_of t n < n) → (n : ℕ) → 0 < n → n < size t → depth_of t n ≡ suc (depth_of t (parent_of t n))
depth_down t up zero above inside = absurd (omega arith)
depth_down t up (suc n) above inside =
    let less : parent_of t (suc n) < suc n = up (suc n) above inside in
    ap suc (steps_enough t.parents up n (parent_of t (suc n)) (parent_of t (suc n)) (omega arith) (omega arith) (omega arith))

-- what is above a node is its parent, or above that
parent_under : (t : Nodes) (a n : ℕ) → Below t a n → (a ≡ parent_of t n) ⊎ Below t a (parent_of t n)
parent_under t a n (child e) = inl (sym e.parent)
parent_under t a n (under b e) = inr (subst (Below t a) (sym e.parent) b)

none_some : {X : Type 0} (x : X) → None ≡ Some x → ⊥
none_some x e = cc

one_less : (j : ℕ) → suc j - 1 ≡ j
one_less j = omega arith

module _ (t : Nodes) (tree : IsTree t) (order : List ℕ) (is : IsOrder t order) where
  abbrev at : ℕ → ℕ
  at k = get_or order k 0

  abbrev p : ℕ → ℕ
  p n = place_in order n

  abbrev u : Nodes
  u = reordered t order

  low_of : (k : ℕ) → k < size (reordered t order) → k < size t
  low_of k inside = subst (λ (m : ℕ). k < m) (size_same t tree order is) inside

  -- what is above the next node stands before it, if that holds of this one
  earlier_next : (k a : ℕ) → suc k < size t → (Below t a (get_or order k 0) → place_in order a < k) → Below t a (get_or order (suc k) 0) → place_in order a < suc k
  earlier_next k a inside so_far below = by (parent_under t a (at (suc k)) below)
    where
      low : k < size t
      low = omega arith

      last : a ≡ at k → p a < suc k
      last same = (let here : p a ≡ k = ap p same ∙ is.listed.once k low in omega arith)

      before : Below t a (at k) → p a < suc k
      before d = (let less : p a < k = so_far d in omega arith)

      by : (a ≡ parent_of t (at (suc k))) ⊎ Below t a (parent_of t (at (suc k))) → p a < suc k
      by (inl same) = elim (is.follows k inside).parent [
        | inl here ↦ last (same ∙ here)
        | inr d ↦ before (subst (λ (m : ℕ). Below t m (at k)) (sym same) d)
      ]
      by (inr more) = elim (is.follows k inside).parent [
        | inl here ↦ before (subst (Below t a) here more)
        | inr d ↦ before (below_through t a (parent_of t (at (suc k))) (at k) more d)
      ]

  -- what is above a node stands before it
  earlier : (k a : ℕ) → k < size t → Below t a (get_or order k 0) → place_in order a < k
  earlier zero a inside below = absurd (let less : a < at 0 = below_less t tree a (at 0) below in let first : at 0 ≡ 0 = is.listed.first in omega arith)
  earlier (suc k) a inside below = earlier_next k a inside (λ d. earlier k a (omega arith) d) below

  up : (k : ℕ) → 0 < k → k < size (reordered t order) → parent_of (reordered t order) k < k
  up k above inside =
      let low : k < size t = low_of k inside in
      let stands : IsChild t (parent_of t (at k)) (at k) = record { above_zero = above_at t tree order is k above low; inside = is.listed.low k low; parent = refl } in
      subst (λ (m : ℕ). m < k) (sym (parent_at t tree order is k above low)) (earlier k (parent_of t (at k)) low (child stands))

  preorder : (k : ℕ) → 0 < k → k < size (reordered t order) → (parent_of (reordered t order) k ≡ k - 1) ⊎ Below (reordered t order) (parent_of (reordered t order) k) (k - 1)
  preorder zero above inside = absurd (omega arith)
  preorder (suc j) above inside =
      let low : suc j < size t = low_of (suc j) inside in
      let placed : parent_of u (suc j) ≡ p (parent_of t (at (suc j))) = parent_at t tree order is (suc j) above low in
      let once : p (at j) ≡ j = is.listed.once j (omega arith) in
      elim (is.follows j low).parent [
        | inl here ↦ inl (placed ∙ ap p here ∙ once ∙ sym (one_less j))
        | inr d ↦
            inr (subst (λ (m : ℕ). Below u m (suc j - 1)) (sym placed) (subst (Below u (p (parent_of t (at (suc j))))) (once ∙ sym (one_less j)) (below_placed t tree order is (parent_of t (at (suc j))) (at j) d)))
      ]

  depth_same : (n k : ℕ) → k ≤ n → k < size t → depth_of (reordered t order) k ≡ depth_of t (get_or order k 0)
  depth_same n zero most low = ap (depth_of t) (sym is.listed.first)
  depth_same zero (suc j) most low = absurd (omega arith)
  depth_same (suc n) (suc j) most low =
      let inside : suc j < size u = subst (λ (m : ℕ). suc j < m) (sym (size_same t tree order is)) low in
      let above : 0 < at (suc j) = above_at t tree order is (suc j) (omega arith) low in
      let node_inside : at (suc j) < size t = is.listed.low (suc j) low in
      let less : parent_of t (at (suc j)) < at (suc j) = tree.up (at (suc j)) above node_inside in
      let smaller : parent_of u (suc j) < suc j = up (suc j) (omega arith) inside in
      depth_down u up (suc j) (omega arith) inside
      ∙ ap suc (depth_same n (parent_of u (suc j)) (omega arith) (omega arith) ∙ ap (λ m. depth_of t (at m)) (parent_at t tree order is (suc j) (omega arith) low) ∙ ap (depth_of t) (is.listed.here (parent_of t (at (suc j))) (omega arith)))
      ∙ sym (depth_down t tree.up (at (suc j)) above node_inside)

  -- what is told of one node alone is told at one place alone
  one_place : {V : Type 0} (g : Option Node → Option V) → g None ≡ None → ((m n : ℕ) (v : V) → g (node_at t m) ≡ Some v → g (node_at t n) ≡ Some v → m ≡ n)
      → (k l : ℕ) (v : V) → g (node_at (reordered t order) k) ≡ Some v → g (node_at (reordered t order) l) ≡ Some v → k ≡ l
  one_place {V} g nothing one k l v d e =
      let here : g (node_at t (at k)) ≡ Some v = ap g (sym (told_at t tree order is k)) ∙ d in
      let there : g (node_at t (at l)) ≡ Some v = ap g (sym (told_at t tree order is l)) ∙ e in
      sym (is.listed.once k (inside k here)) ∙ ap p (one (at k) (at l) v here there) ∙ is.listed.once l (inside l there)
    where
      inside : (m : ℕ) → g (node_at t (at m)) ≡ Some v → m < size t
      inside m told = elim (cases_lt m (size t)) [
        | inl low ↦ low
        | inr past ↦
            let len : length order ≡ size t = is.listed.counted in
            let zero_at : at m ≡ 0 = get_or_past order m 0 (omega arith) in
            absurd (none_some v (sym nothing ∙ ap (λ n. g (node_at t n)) (sym zero_at) ∙ told))
      ]

  -- what is read of a node is read at its place
  same_at : {V : Type 0} (g : Option Node → V) (k : ℕ) → g (node_at (reordered t order) k) ≡ g (node_at t (get_or order k 0))
  same_at g k = ap g (told_at t tree order is k)

  abbrev is_leaf_or : Option Node → Bool
  is_leaf_or o = not (is_container (kind_or o))

  abbrev is_spare_or : Option Node → Bool
  is_spare_or o = is_spare (role_or o)

  abbrev is_factory_or : Option Node → Bool
  is_factory_or o = is_factory (role_or o)

  pub reordered_tree : IsTree (reordered t order)
  reordered_tree = record {
    root = subst (λ (m : ℕ). 0 < m) (sym (size_same t tree order is)) tree.root;
    few = subst (λ (m : ℕ). m ≤ 16384) (sym (size_same t tree order is)) tree.few;
    nodes_len = nodes_len t tree order is;
    up = up;
    preorder = preorder;
    shallow = λ k inside. subst (λ (d : ℕ). d ≤ 64) (sym (depth_same k k (omega arith) (low_of k inside))) (tree.shallow (at k) (is.listed.low k (low_of k inside)));
    leaf = λ k c e. same_at is_leaf_or k ∙ tree.leaf (at k) (at c) (child_back t tree order is k c e);
    ids = one_place text_or refl tree.ids;
    bodies = one_place body_or refl tree.bodies;
    afters = one_place after_or refl tree.afters;
    apart = λ m n b d e. tree.apart (at m) (at n) b (sym (same_at body_or m) ∙ d) (sym (same_at after_or n) ∙ e);
    after_placed = λ n b e. (let was = tree.after_placed (at n) b (sym (same_at after_or n) ∙ e) in (same_at is_leaf_or n ∙ was.0, same_at is_factory_or n ∙ was.1));
    spares = λ k c e. same_at is_spare_or c ∙ tree.spares (at k) (at c) (child_back t tree order is k c e) ∙ sym (same_at is_factory_or k);
    spare_tests = λ n e. same_at is_leaf_or n ∙ tree.spare_tests (at n) (sym (same_at is_spare_or n) ∙ e);
    factories = λ n e. same_at is_leaf_or n ∙ tree.factories (at n) (sym (same_at is_factory_or n) ∙ e);
    engines = λ n e. subst (λ (o : Option Node). DeclaresNothing (mode_or o) (locks_or o) (isolated_or o)) (sym (told_at t tree order is n)) (tree.engines (at n) (subst (λ (m : ℕ). IsChild t m (at n)) is.listed.first (child_back t tree order is 0 n e)));
    short = λ n node e. tree.short (at n) node (sym (told_at t tree order is n) ∙ e);
  }

  -- a dynamic test stands right behind the node before it
  spare_placed : (n : ℕ) → is_spare_at t n ≡ true → place_in order n ≡ place_in order (n - 1) + 1
  spare_placed n spare = by (p n) refl
    where
      above : 0 < n
      above = spare_above t n spare

      inside : n < size t
      inside = spare_inside t tree n spare

      by : (k : ℕ) → p n ≡ k → p n ≡ p (n - 1) + 1
      by zero same = absurd (let some : 0 < p n = above_place t tree order is n above inside in omega arith)
      by (suc j) same =
          let low : p n < size t = is.listed.inside n inside in
          let here : at (suc j) ≡ n = ap at (sym same) ∙ is.listed.here n inside in
          let next : at (suc j) ≡ suc (at j) = (is.follows j (omega arith)).spare (ap (is_spare_at t) here ∙ spare) in
          let before : at j ≡ n - 1 = omega arith in
          let place : p (n - 1) ≡ j = ap p (sym before) ∙ is.listed.once j (omega arith) in
          omega arith

  pub is_reordered : IsReordered t (reordered t order)
  is_reordered = record {
    place = p;
    counted = size_same t tree order is;
    inside = λ n low. subst (λ (m : ℕ). p n < m) (sym (size_same t tree order is)) (is.listed.inside n low);
    each = λ k inside. (at k, (is.listed.low k (low_of k inside), is.listed.once k (low_of k inside)));
    once = λ m n low also same. sym (is.listed.here m low) ∙ ap at same ∙ is.listed.here n also;
    plan = plan_place t tree order is;
    told = told_placed t tree order is;
    parent = parent_placed t tree order is;
    spares = spare_placed;
  }
