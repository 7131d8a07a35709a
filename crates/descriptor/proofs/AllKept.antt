-- The pruned tree is the same tree where every node is kept.
use Rattle.std.proofs.Common.{◌≡◌, ℕ, zero, suc, ◌+◌, ◌<◌, ◌≤◌, Bool, true, false, List, [], ◌∷◌, length, refl, ap, sym, ◌∙◌, arith, subst, All, Result, Ok, Err, IfOk}
use Rattle.std.specs.Prelude.{slice_get}
use Rattle.std.proofs.Math.ListN.{replicate}
use Rattle.std.proofs.lemmas.List.{ext_get_or, length-replicate}
use Rattle.std.proofs.lemmas.List.Elements.{All-get_or, All-replicate}
use Rattle.std.proofs.lemmas.Option.{same_Some}
use Rattle.descriptor.specs.declared.node.Node.{Node}
use Rattle.descriptor.specs.Nodes.{Nodes, IsTree, size, parent_of, node_at, count_below}
use Rattle.descriptor.specs.Pruned.{is_kept, new_number, IsClosed, pruned}
use Rattle.descriptor.proofs.Counts.{count_pass}
use Rattle.descriptor.proofs.Pruned.{nodes_same, keeps_nodes, pruned_tree}

-- lists of one length with the same elements
same_lists : (xs ys : List Node) → length xs ≡ length ys → ((i : ℕ) → i < length xs → slice_get xs i ≡ slice_get ys i) → xs ≡ ys
same_lists [] [] len same = refl
same_lists [] (y ∷ ys) len same = absurd (omega arith)
same_lists (x ∷ xs) [] len same = absurd (omega arith)
same_lists (x ∷ xs) (y ∷ ys) len same =
    let first : x ≡ y = same_Some x y (same 0 (omega arith)) in
    let rest : xs ≡ ys = same_lists xs ys (omega arith) (λ i h. same (suc i) (omega arith)) in
    cc

-- each number below n passes, so n of them do
count_all : (q : ℕ → Bool) (n : ℕ) → ((m : ℕ) → m < n → q m ≡ true) → count_below q n ≡ n
count_all q zero each = refl
count_all q (suc n) each = count_pass q n (each n (omega arith)) ∙ ap suc (count_all q n (λ m h. each m (omega arith)))

module _ (t : Nodes) (keep : List Bool) (tree : IsTree t) (plan : parent_of t 0 ≡ 0) (each : (n : ℕ) → n < size t → is_kept keep n ≡ true) where
  number_same : (n : ℕ) → n ≤ size t → new_number keep n ≡ n
  number_same n h = count_all (is_kept keep) n (λ m less. each m (omega arith))

  closed : IsClosed t keep
  closed = record {
    root = each 0 tree.root;
    up = λ n above inside stayed. (let less : parent_of t n < n = tree.up n above inside in each (parent_of t n) (omega arith));
  }

  parent_same : (n : ℕ) → n < size t → parent_of (pruned t keep) n ≡ parent_of t n
  parent_same zero inside = sym plan
  parent_same (suc n) inside =
      let less : parent_of t (suc n) < suc n = tree.up (suc n) (omega arith) inside in
      ap (parent_of (pruned t keep)) (sym (number_same (suc n) (omega arith)))
      ∙ (keeps_nodes t keep tree closed).parent (suc n) (omega arith) inside (each (suc n) inside) ∙ number_same (parent_of t (suc n)) (omega arith)

  told_same : (n : ℕ) → n < size t → node_at (pruned t keep) n ≡ node_at t n
  told_same n inside = ap (node_at (pruned t keep)) (sym (number_same n (omega arith))) ∙ (keeps_nodes t keep tree closed).told n inside (each n inside)

  size_same : size (pruned t keep) ≡ size t
  size_same = (keeps_nodes t keep tree closed).counted ∙ number_same (size t) (omega arith)

  pub pruned_same : pruned t keep ≡ t
  pruned_same =
      let grown : IsTree (pruned t keep) = pruned_tree t keep tree closed in
      let short : length (pruned t keep).nodes + 1 ≡ size (pruned t keep) = grown.nodes_len in
      let long : length t.nodes + 1 ≡ size t = tree.nodes_len in
      let as_long : size (pruned t keep) ≡ size t = size_same in
      nodes_same _ _ _ _
      (ext_get_or 0 (pruned t keep).parents t.parents size_same (λ n h. parent_same n (omega arith)))
      (same_lists (pruned t keep).nodes t.nodes (omega arith) (λ i h. told_same (suc i) (omega arith)))

-- the list of what is kept, where all of it is
pub kept_each : (t : Nodes) (keep : List Bool) → length keep ≡ size t → All (λ value. value ≡ true) keep → (n : ℕ) → n < size t → is_kept keep n ≡ true
kept_each t keep len all n inside = All-get_or (λ value. value ≡ true) keep n false (omega arith) all

pub all_closed : (t : Nodes) (keep : List Bool) → IsTree t → length keep ≡ size t → All (λ value. value ≡ true) keep → IsClosed t keep
all_closed t keep tree len all =
    let each : (n : ℕ) → n < size t → is_kept keep n ≡ true = kept_each t keep len all in
    record {
      root = each 0 tree.root;
      up = λ n above inside stayed. (let less : parent_of t n < n = tree.up n above inside in each (parent_of t n) (omega arith));
    }

pub all_same : (t : Nodes) (keep : List Bool) → IsTree t → parent_of t 0 ≡ 0 → length keep ≡ size t → All (λ value. value ≡ true) keep → pruned t keep ≡ t
all_same t keep tree plan len all = pruned_same t keep tree plan (kept_each t keep len all)

-- so many times yes
pub as_many : (t : Nodes) (keep : List Bool) (n : ℕ) → keep ≡ replicate n true → n ≡ size t → length keep ≡ size t
as_many t keep n is len = ap length is ∙ length-replicate n true ∙ len

pub all_of_them : (keep : List Bool) (n : ℕ) → keep ≡ replicate n true → All (λ value. value ≡ true) keep
all_of_them keep n is = subst (All (λ value. value ≡ true)) (sym is) (All-replicate (λ value. value ≡ true) n true refl)

pub if_same : {E : Type 0} (result : Result Nodes E) (u t : Nodes) → IfOk result (λ tree. tree ≡ u) → u ≡ t → IfOk result (λ tree. tree ≡ t)
if_same (Ok tree) u t is same = is ∙ same
if_same (Err fault) u t is same = is
