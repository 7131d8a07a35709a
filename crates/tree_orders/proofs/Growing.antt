-- The tree of the nodes in an order grows by the node at the next place.
use Rattle.std.proofs.Common.{◌≡◌, ℕ, zero, suc, ◌+◌, ◌<◌, ◌≤◌, Bool, true, List, length, get_or, refl, sym, ap, ◌∙◌, arith, subst, All, Some, None}
use Rattle.std.proofs.Math.ListN.{replicate}
use Rattle.std.proofs.lemmas.List.{get_or_read}
use Rattle.descriptor.specs.declared.node.Node.{Node}
use Rattle.descriptor.specs.Nodes.{Nodes, IsTree, MayTake, size, parent_of, node_at, appended, plan_alone}
use Rattle.descriptor.specs.Pruned.{IsClosed, is_kept, new_number, pruned, pruned_below}
use Rattle.descriptor.specs.Refusals.{refusal}
use Rattle.descriptor.proofs.AllKept.{kept_each, all_closed, all_same, all_of_them, as_many}
use Rattle.descriptor.proofs.Counts.{count_pass}
use Rattle.descriptor.proofs.Pruning.{taken, not_refused, tree_after}
use Rattle.tree_orders.specs.Listed.{IsOrder}
use Rattle.tree_orders.specs.Orders.{place_in, reordered}
use Rattle.tree_orders.proofs.Placing.{size_same, above_at, parent_at, told_at}
use Rattle.tree_orders.proofs.Whole.{reordered_tree}

-- each of a tree's nodes is kept
abbrev pub all_kept : Nodes → List Bool
all_kept u = replicate (size u) true

-- the tree of the nodes at the first n places
abbrev pub so_far : Nodes → List ℕ → ℕ → Nodes
so_far t order n = pruned_below (reordered t order) (all_kept (reordered t order)) n

pub at_start : (t : Nodes) (order : List ℕ) → so_far t order 1 ≡ plan_alone
at_start t order = refl

module _ (u : Nodes) (tree : IsTree u) where
  len : length (replicate (size u) true) ≡ size u
  len = as_many u (all_kept u) (size u) refl refl

  all : All (λ value. value ≡ true) (replicate (size u) true)
  all = all_of_them (all_kept u) (size u) refl

  kept : (n : ℕ) → n < size u → is_kept (all_kept u) n ≡ true
  kept = kept_each u (all_kept u) len all

  closed : IsClosed u (all_kept u)
  closed = all_closed u (all_kept u) tree len all

  same_number : (n : ℕ) → n ≤ size u → n ≡ new_number (all_kept u) n
  same_number zero most = refl
  same_number (suc n) most = ap suc (same_number n (omega arith)) ∙ sym (count_pass (is_kept (all_kept u)) n (kept n (omega arith)))

  module _ (b : Nodes) (n above : ℕ) (some : 0 < n) (inside : n < size u) (is : b ≡ pruned_below u (all_kept u) n) (parent : above ≡ parent_of u n) where
    number : above ≡ new_number (all_kept u) (parent_of u n)
    number = parent ∙ same_number (parent_of u n) (let less : parent_of u n < n = tree.up n some inside in omega arith)

    may : MayTake b above
    may = taken u (all_kept u) tree closed b n above some inside is (kept n inside) number

    fits : (node : Node) → node_at u n ≡ Some node → refusal 16383 b above node ≡ None
    fits node told = not_refused u (all_kept u) tree closed b n above some inside is (kept n inside) number node told

    more : (node : Node) (c : Nodes) → node_at u n ≡ Some node → c ≡ appended b above node → c ≡ pruned_below u (all_kept u) (n + 1)
    more node c told grown = tree_after u (all_kept u) tree closed b n above some inside is (kept n inside) number node c told grown

  whole : parent_of u 0 ≡ 0 → pruned u (all_kept u) ≡ u
  whole plan = all_same u (all_kept u) tree plan len all

module _ (t : Nodes) (tree : IsTree t) (order : List ℕ) (is : IsOrder t order) where
  low : (n : ℕ) → n < size t → n < size (reordered t order)
  low n inside = subst (λ (m : ℕ). n < m) (sym (size_same t tree order is)) inside

  module _ (b : Nodes) (n above : ℕ) (some : 0 < n) (inside : n < size t) (grown : b ≡ so_far t order n) (parent : above ≡ place_in order (parent_of t (get_or order n 0))) where
    as_parent : above ≡ parent_of (reordered t order) n
    as_parent = parent ∙ sym (parent_at t tree order is n some inside)

    -- the node at the next place may be added
    pub next_may : MayTake b above
    next_may = may (reordered t order) (reordered_tree t tree order is) b n above some (low n inside) grown as_parent

    pub next_fits : (node : Node) → node_at t (get_or order n 0) ≡ Some node → refusal 16383 b above node ≡ None
    next_fits node told = fits (reordered t order) (reordered_tree t tree order is) b n above some (low n inside) grown as_parent node (told_at t tree order is n ∙ told)

    -- and is the last of the tree of so many nodes
    pub next_grown : (node : Node) (c : Nodes) → node_at t (get_or order n 0) ≡ Some node → c ≡ appended b above node → c ≡ so_far t order (n + 1)
    next_grown node c told added = more (reordered t order) (reordered_tree t tree order is) b n above some (low n inside) grown as_parent node c (told_at t tree order is n ∙ told) added

  -- at the end all nodes are there
  pub all_grown : (b : Nodes) (n : ℕ) → b ≡ so_far t order n → n ≡ size t → b ≡ reordered t order
  all_grown b n grown last =
      grown ∙ ap (pruned_below (reordered t order) (all_kept (reordered t order))) (last ∙ sym (size_same t tree order is))
      ∙ whole (reordered t order) (reordered_tree t tree order is) refl

  -- one node more, as it was read at the next place, with its parent and with that one's place
  module _ (b : Nodes) (n x q r : ℕ) (some : 0 < n) (inside : n < size t) (grown : b ≡ so_far t order n) (read : x ≡ get_or order n x) (parent : q ≡ parent_of t x) (place : r ≡ place_in order q) where
    pub read_at : x ≡ get_or order n 0
    read_at = get_or_read order n x (let len : length order ≡ size t = is.listed.counted in omega arith) read 0

    placed : r ≡ place_in order (parent_of t (get_or order n 0))
    placed = place ∙ ap (place_in order) (parent ∙ ap (parent_of t) read_at)

    pub put_above : 0 < x
    put_above = subst (λ (m : ℕ). 0 < m) (sym read_at) (above_at t tree order is n some inside)

    pub put_inside : x < size t
    put_inside = subst (λ (m : ℕ). m < size t) (sym read_at) (is.listed.low n inside)

    pub put_low : r < 16384
    put_low =
        let less : parent_of t x < x = tree.up x put_above put_inside in
        let low : x < size t = put_inside in
        let few : size t ≤ 16384 = tree.few in
        let at : place_in order q < size t = is.listed.inside q (omega arith) in
        omega arith

    pub put_may : MayTake b r
    put_may = next_may b n r some inside grown placed

    pub put_fits : (node : Node) → node_at t x ≡ Some node → refusal 16383 b r node ≡ None
    put_fits node told = next_fits b n r some inside grown placed node (ap (node_at t) (sym read_at) ∙ told)

    pub put_more : (node : Node) (c : Nodes) → node_at t x ≡ Some node → c ≡ appended b r node → c ≡ so_far t order (n + 1)
    put_more node c told added = next_grown b n r some inside grown placed node c (ap (node_at t) (sym read_at) ∙ told) added
