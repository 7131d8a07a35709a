-- A node's lineage: itself, and the lineage of its parent.
use Rattle.std.proofs.Common.{◌≡◌, ℕ, zero, suc, ◌<◌, ◌≤◌, List, ◌∷◌, length, get_or, refl, ap, arith}
use Rattle.descriptor.specs.Nodes.{Nodes, IsTree, size, parent_of}
use Rattle.selectors.specs.Lineages.{path_up, lineage}

module _ (ps : List ℕ) (up : (n : ℕ) → 0 < n → n < length ps → get_or ps n 0 < n) where
  path_enough : (k m n : ℕ) → n < length ps → n ≤ k → n ≤ m → path_up ps k n ≡ path_up ps m n
  path_enough zero zero n inside kk mm = refl
  path_enough zero (suc m) zero inside kk mm = refl
  path_enough zero (suc m) (suc n) inside kk mm = absurd (omega arith)
  path_enough (suc k) zero zero inside kk mm = refl
  path_enough (suc k) zero (suc n) inside kk mm = absurd (omega arith)
  path_enough (suc k) (suc m) zero inside kk mm = refl
  path_enough (suc k) (suc m) (suc n) inside kk mm =
      let less : get_or ps (suc n) 0 < suc n = up (suc n) (omega arith) inside in
      ap (λ path. suc n ∷ path) (path_enough k m (get_or ps (suc n) 0) (omega arith) (omega arith) (omega arith))

pub lineage_up : (t : Nodes) → IsTree t → (n : ℕ) → 0 < n → n < size t → lineage t n ≡ n ∷ lineage t (parent_of t n)
lineage_up t tree zero above inside = absurd (omega arith)
lineage_up t tree (suc n) above inside =
    let less : parent_of t (suc n) < suc n = tree.up (suc n) above inside in
    ap (λ path. suc n ∷ path) (path_enough t.parents tree.up n (parent_of t (suc n)) (parent_of t (suc n)) (omega arith) (omega arith) (omega arith))
