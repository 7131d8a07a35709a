-- How two nodes lie to one another. Only private functions and proofs need this file.
use Rattle.std.specs.Prelude.{ℕ, ◌<◌}
use Rattle.descriptor.specs.Nodes.{Nodes, size, parent_of}
use Rattle.resource_locks.specs.Declarations.{AtOrBelow}
use Rattle.resource_locks.specs.Plans.{PlanParts}
use Rattle.termination.specs.Conflicts.{AreKeptApart}

-- the child of the lowest node above two nodes that is at or above the first
pub record IsBranch (t : Nodes) (m n branch : ℕ) : Type 0 where
  pub above_zero : 0 < branch
  pub inside : branch < size t
  pub at : AtOrBelow t branch m
  pub off : AtOrBelow t branch n → ⊥
  pub above : AtOrBelow t (parent_of t branch) n

-- node n is kept apart from each node before this one
abbrev pub IsKeptApartFrom : PlanParts → ℕ → ℕ → Type 0
IsKeptApartFrom p n before = (m : ℕ) → m < before → AreKeptApart p n m

-- each node before this one is kept apart from those before it
abbrev pub AreAllKeptApart : PlanParts → ℕ → Type 0
AreAllKeptApart p before = (n : ℕ) → n < before → IsKeptApartFrom p n n
