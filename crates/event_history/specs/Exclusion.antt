-- The intervals of nodes, and which of them must not overlap.
use Rattle.std.specs.Prelude.{◌≡◌, ◌≢◌, ℕ, List, ◌⊎◌}
use Rattle.descriptor.specs.declared.lock_mode.LockMode.{LockMode}
use Rattle.descriptor.specs.declared.lock_mode.LockMode.TheVariants.{ReadWrite}
use Rattle.descriptor.specs.Nodes.{Nodes}
use Rattle.plan_events.specs.declared.event.Event.{Event}
use Rattle.plan_events.specs.declared.event.EventKind.TheVariants.{Started, Finished}
use Rattle.resource_locks.specs.Conflicts.{AreInConflict}
use Rattle.resource_locks.specs.Declarations.{declared_of, AtOrBelow, Declares}
use Rattle.resource_locks.specs.Plans.{PlanParts, held_of}
use Rattle.event_history.specs.Places.{StandsAt, StandsBefore}

-- The interval of a node begins at its start and ends at its finish, or goes on while there is none. Two nodes overlap if
-- both have started, and neither ended before the other began.
pub record Overlaps (h : List Event) (m n : ℕ) : Type 0 where
  pub place : ℕ
  pub start : StandsAt h place Started m
  pub other_place : ℕ
  pub other_start : StandsAt h other_place Started n
  pub unended : StandsBefore h other_place Finished m → ⊥
  pub other_unended : StandsBefore h place Finished n → ⊥

-- of two modes in which one key is wanted, one writes
abbrev pub Excludes : LockMode → LockMode → Type 0
Excludes a b = (a ≡ ReadWrite) ⊎ (b ≡ ReadWrite)

-- the locks that are declared at two nodes, or above them, conflict
pub record DeclaredConflict (p : PlanParts) (m n : ℕ) : Type 0 where
  pub key : List ℕ
  pub mode : LockMode
  pub declares : Declares (declared_of p.tree) m key mode
  pub other_mode : LockMode
  pub other_declares : Declares (declared_of p.tree) n key other_mode
  pub excludes : Excludes mode other_mode

-- neither node is at or below the other
pub record AreApart (t : Nodes) (m n : ℕ) : Type 0 where
  pub one : AtOrBelow t m n → ⊥
  pub other : AtOrBelow t n m → ⊥

-- the locks that two nodes hold conflict
abbrev pub HeldConflict : PlanParts → ℕ → ℕ → Type 0
HeldConflict p m n = AreInConflict (held_of p m) (held_of p n)

-- Two nodes whose held locks conflict never overlap.
abbrev pub IsExclusive : PlanParts → List Event → Type 0
IsExclusive p h = (m n : ℕ) → m ≢ n → HeldConflict p m n → Overlaps h m n → ⊥
