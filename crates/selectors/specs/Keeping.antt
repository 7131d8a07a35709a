-- The nodes that stay where some tests and factories are selected.
use Rattle.std.specs.Prelude.{◌≡◌, ◌⊎◌, ℕ, ◌<◌, ◌==◌, ◌&&◌, ◌||◌, Bool, true}
use Rattle.descriptor.specs.Nodes.{Nodes, IsChild, size, parent_of, is_spare_at}
use Rattle.selectors.specs.Covered.{any_below}
use Rattle.selectors.specs.Lineages.{is_at_or_below, AtOrBelow}

-- whether a node that passes is at or below node n
abbrev pub has_selected : Nodes → (ℕ → Bool) → ℕ → Bool
has_selected t selected n = any_below (λ m. selected m && is_at_or_below t n m) (size t)

-- whether node n is a spare whose factory passes
abbrev pub is_spare_of_selected : Nodes → (ℕ → Bool) → ℕ → Bool
is_spare_of_selected t selected n = is_spare_at t n && selected (parent_of t n)

-- whether node n stays, where the nodes that pass are selected: it is node 0, one of them is at or below it, or it is a spare of one of them
abbrev pub stays : Nodes → (ℕ → Bool) → ℕ → Bool
stays t selected n = n == 0 || (has_selected t selected n || is_spare_of_selected t selected n)

-- a node that passes is at or below node n
abbrev pub HasSelected : Nodes → (ℕ → Bool) → ℕ → Type 0
HasSelected t selected n = (m : ℕ) × (m < size t) × (selected m ≡ true) × AtOrBelow t n m

-- node n is a spare of a factory that passes
abbrev pub IsSpareOfSelected : Nodes → (ℕ → Bool) → ℕ → Type 0
IsSpareOfSelected t selected n = (f : ℕ) × IsChild t f n × (is_spare_at t n ≡ true) × (selected f ≡ true)

-- node n is node 0, a node that passes is at or below it, or it is a spare of one that passes
abbrev pub Stays : Nodes → (ℕ → Bool) → ℕ → Type 0
Stays t selected n = (n ≡ 0) ⊎ (HasSelected t selected n ⊎ IsSpareOfSelected t selected n)

-- whether node n is taken: it passes, or it is a spare of a node that passes
abbrev pub is_taken : Nodes → (ℕ → Bool) → ℕ → Bool
is_taken t selected n = selected n || is_spare_of_selected t selected n

-- whether node n is node 0, or at or above a node that is taken; these are the nodes that stay
abbrev pub is_above : Nodes → (ℕ → Bool) → ℕ → Bool
is_above t taken n = n == 0 || has_selected t taken n
