-- One turn of pruning: the next node is copied if it is kept, and has its new number.
use Rattle.std.proofs.Common.{◌≡◌, ℕ, zero, suc, ◌+◌, ◌<◌, ◌≤◌, Bool, true, false, List, [], ◌∷◌, ◌++◌, length, get_or, ap, sym, ◌∙◌, arith, inl, inr, subst, Some, None}
use Rattle.std.specs.Prelude.{slice_get}
use Rattle.descriptor.specs.declared.node.Node.{Node}
use Rattle.descriptor.specs.Nodes.{Nodes, IsTree, MayTake, size, parent_of, node_at, appended}
use Rattle.descriptor.specs.Refusals.{refusal}
use Rattle.descriptor.specs.Pruned.{is_kept, new_number, IsClosed, KeepsNodes, pruned_below}
use Rattle.descriptor.proofs.Grown.{get_before, get_last, below_or_last}
use Rattle.descriptor.proofs.Pruned.{size_is, step_kept, step_left, may_take, no_refusal, upto_all, keeps_nodes}

next : (n : ℕ) → suc n ≡ n + 1
next n = omega arith

get_node : (xs : List Node) (i : ℕ) (x : Node) → i < length xs → x ≡ get_or xs i x → slice_get xs i ≡ Some x
get_node [] i x h e = absurd (omega arith)
get_node (y ∷ xs) zero x h e = ap Some (sym e)
get_node (y ∷ xs) (suc i) x h e = get_node xs i x (omega arith) e

-- what stands in the list of nodes one place before is what is told of the node
pub told_at : (t : Nodes) (n i : ℕ) (x : Node) → IsTree t → n < size t → suc i ≡ n → x ≡ get_or t.nodes i x → node_at t n ≡ Some x
told_at t zero i x tree inside place e = absurd (omega arith)
told_at t (suc n) i x tree inside place e =
    let same : i ≡ n = omega arith in
    get_node t.nodes n x (omega (arith, tree.nodes_len)) (e ∙ ap (λ j. get_or t.nodes j x) same)

module _ (t : Nodes) (keep : List Bool) (tree : IsTree t) (closed : IsClosed t keep) (u : Nodes) (n p : ℕ) (above : 0 < n) (inside : n < size t) (is : u ≡ pruned_below t keep n) where
  -- the size of the tree so far is the new number of the next node
  pub next_number : size u ≡ new_number keep n
  next_number = ap size is ∙ size_is t keep n closed.root above

  -- a node that is not kept leaves the tree as it is
  pub tree_left : is_kept keep n ≡ false → u ≡ pruned_below t keep (n + 1)
  tree_left left = is ∙ sym (step_left t keep n left) ∙ ap (pruned_below t keep) (next n)

  module _ (kept : is_kept keep n ≡ true) (number : p ≡ new_number keep (parent_of t n)) where
    pub taken : MayTake u p
    taken =
        subst (λ (x : Nodes). MayTake x p) (sym is) (subst (MayTake (pruned_below t keep n)) (sym number) (may_take t keep tree closed n above inside (upto_all t keep tree closed n above (omega arith)) kept))

    pub not_refused : (node : Node) → node_at t n ≡ Some node → refusal 16383 u p node ≡ None
    not_refused node told =
        ap (λ (x : Nodes). refusal 16383 x p node) is ∙ ap (λ (x : ℕ). refusal 16383 (pruned_below t keep n) x node) number
        ∙ no_refusal t keep tree closed n above inside (upto_all t keep tree closed n above (omega arith)) kept node told

    -- a kept node is the last of the tree that has grown
    pub tree_after : (node : Node) (v : Nodes) → node_at t n ≡ Some node → v ≡ appended u p node → v ≡ pruned_below t keep (n + 1)
    tree_after node v told grown =
        grown ∙ ap (λ (x : Nodes). appended x p node) is ∙ ap (λ (x : ℕ). appended (pruned_below t keep n) x node) number
        ∙ sym (step_kept t keep n node above kept told) ∙ ap (pruned_below t keep) (next n)

-- the list of new numbers with one more
pub numbers_more : (keep : List Bool) (n x : ℕ) (xs ys : List ℕ) → length xs ≡ n → ys ≡ xs ++ x ∷ [] → x ≡ new_number keep n → ((m : ℕ) → m < n → get_or xs m 0 ≡ new_number keep m) → (m : ℕ) → m < n + 1 → get_or ys m 0 ≡ new_number keep m
numbers_more keep n x xs ys len more number before m h =
    ap (λ (zs : List ℕ). get_or zs m 0) more ∙ elim (below_or_last m n (omega arith)) [
      | inl old ↦ get_before xs x 0 m (omega arith) ∙ before m old
      | inr new ↦ get_last xs x 0 m (new ∙ sym len) ∙ number ∙ ap (new_number keep) (sym new)
    ]

-- at the end the tree has the kept nodes
pub kept_at_end : (t u : Nodes) (keep : List Bool) (n : ℕ) → IsTree t → IsClosed t keep → u ≡ pruned_below t keep n → n ≡ size t → KeepsNodes t keep u
kept_at_end t u keep n tree closed is end = subst (KeepsNodes t keep) (sym (is ∙ ap (pruned_below t keep) end)) (keeps_nodes t keep tree closed)

pub tree_at_end : (t u : Nodes) (keep : List Bool) (n : ℕ) → IsTree t → IsClosed t keep → u ≡ pruned_below t keep n → 0 < n → n ≤ size t → IsTree u
tree_at_end t u keep n tree closed is above most = subst IsTree (sym is) (upto_all t keep tree closed n above most).grown
