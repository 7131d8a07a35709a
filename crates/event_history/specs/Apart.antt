-- What runs apart, in terms of the tree alone.
use Rattle.std.specs.Prelude.{◌≡◌, ℕ, true, List, ◌⊎◌}
use Rattle.descriptor.specs.Nodes.{Nodes, IsChild, is_isolated_at}
use Rattle.plan_events.specs.declared.event.Event.{Event}
use Rattle.resource_locks.specs.Declarations.{AtOrBelow}
use Rattle.resource_locks.specs.Plans.{PlanParts}
use Rattle.event_history.specs.Plans.{is_same}
use Rattle.event_history.specs.Exclusion.{Overlaps, DeclaredConflict}

-- one of two nodes is at or below the other
abbrev pub OneAbove : Nodes → ℕ → ℕ → Type 0
OneAbove t m n = AtOrBelow t m n ⊎ AtOrBelow t n m

-- engines run on the thread of the plan
abbrev pub EnginesInTurn : PlanParts → Type 0
EnginesInTurn p = (e : ℕ) → IsChild p.tree 0 e → is_same p e ≡ true

pub record IsApart (p : PlanParts) (h : List Event) : Type 0 where
  -- two nodes whose declared locks conflict never overlap, unless one is at or below the other
  pub locks : (m n : ℕ) → DeclaredConflict p m n → Overlaps h m n → OneAbove p.tree m n
  -- an isolated node overlaps only what is above it or below it, and engines
  pub isolated : (m n : ℕ) → is_isolated_at p.tree m ≡ true → Overlaps h m n → OneAbove p.tree m n ⊎ IsChild p.tree 0 n
  -- where engines run on the thread of the plan, no other engine either
  pub alone : EnginesInTurn p → (m n : ℕ) → is_isolated_at p.tree m ≡ true → Overlaps h m n → OneAbove p.tree m n
