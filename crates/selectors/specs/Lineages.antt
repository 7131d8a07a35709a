-- A node together with all nodes that it is below.
use Rattle.std.specs.Prelude.{◌≡◌, ℕ, zero, suc, Bool, nat_eq, List, [], ◌∷◌, slice_index_or, ◌⊎◌}
use Rattle.std.specs.List.{list_any}
use Rattle.descriptor.specs.Nodes.{Nodes, Below}

-- n, its parent, and so on up to node 0, in at most so many steps
abbrev pub path_up : List ℕ → ℕ → ℕ → List ℕ
path_up parents zero n = n ∷ []
path_up parents (suc steps) zero = zero ∷ []
path_up parents (suc steps) (suc n) = suc n ∷ path_up parents steps (slice_index_or parents (suc n) 0)

-- node n and all nodes that it is below, from n up to node 0; as a parent has a smaller number, n steps are enough
abbrev pub lineage : Nodes → ℕ → List ℕ
lineage t n = path_up t.parents n n

-- whether n is a, or below a
abbrev pub is_at_or_below : Nodes → ℕ → ℕ → Bool
is_at_or_below t a n = list_any (nat_eq a) (lineage t n)

-- that n is at or below a, as a relation: n is a, or is reached from it by one or more children
abbrev pub AtOrBelow : Nodes → ℕ → ℕ → Type 0
AtOrBelow t a n = (n ≡ a) ⊎ Below t a n
