-- When no two nodes of a plan are in the way of one another.
use Rattle.std.specs.Prelude.{◌≡◌, ◌≢◌, ℕ, ◌<◌, true, ◌⊎◌}
use Rattle.descriptor.specs.Nodes.{size}
use Rattle.resource_locks.specs.Conflicts.{AreInConflict}
use Rattle.resource_locks.specs.Declarations.{AtOrBelow}
use Rattle.resource_locks.specs.Limits.{ShareLimited}
use Rattle.resource_locks.specs.Plans.{PlanParts, held_of}
use Rattle.event_history.specs.Order.{goes_first}
use Rattle.event_history.specs.Plans.{IsElder, is_same}

-- Two nodes take turns: they are at or below two children of one node, of which the elder goes first. It is settled before anything
-- of the younger one begins.
pub record TakeTurns (p : PlanParts) (m n : ℕ) : Type 0 where
  pub elder : ℕ
  pub younger : ℕ
  pub siblings : IsElder p.tree elder younger
  pub first : goes_first p elder younger ≡ true
  pub at : (AtOrBelow p.tree elder m × AtOrBelow p.tree younger n) ⊎ (AtOrBelow p.tree elder n × AtOrBelow p.tree younger m)

-- one of them holds a key in READ_WRITE that the other holds, or both hold one that is limited
abbrev pub AreInTheWay : PlanParts → ℕ → ℕ → Type 0
AreInTheWay p m n = AreInConflict (held_of p m) (held_of p n) ⊎ ShareLimited p m n

-- if one is in the way of the other, they take turns
abbrev pub AreKeptApart : PlanParts → ℕ → ℕ → Type 0
AreKeptApart p m n = AreInTheWay p m n → TakeTurns p m n

-- No two nodes that may run side by side want a key in conflict, or a limited one. Of a node and one below it no plan has such a key.
abbrev pub IsFreeOfConflict : PlanParts → Type 0
IsFreeOfConflict p = (m n : ℕ) → m < size p.tree → n < size p.tree → m ≢ n → AreKeptApart p m n

-- each node is executed in the thread of its parent
abbrev pub IsOnOneThread : PlanParts → Type 0
IsOnOneThread p = (n : ℕ) → n < size p.tree → is_same p n ≡ true
