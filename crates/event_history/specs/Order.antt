-- The order that the thread of a parent gives to its children.
use Rattle.std.specs.Prelude.{◌≡◌, ℕ, ◌<◌, Bool, true, ◌&&◌, ◌||◌, not, List, Some, slice_get}
use Rattle.descriptor.specs.Nodes.{parent_of, is_spare_at}
use Rattle.plan_events.specs.declared.event.EventKind.{EventKind}
use Rattle.plan_events.specs.declared.event.EventKind.TheVariants.{Started, Finished}
use Rattle.plan_events.specs.declared.event.Event.{Event}
use Rattle.event_history.specs.Places.{same_kind, IsSettledAt}
use Rattle.resource_locks.specs.Plans.{PlanParts}
use Rattle.event_history.specs.Plans.{IsElder, is_same}

-- whether an elder child a must be settled before anything stands for a younger child b: both run on their parent's
-- thread, or both are spares, and a runs on it
abbrev pub goes_first : PlanParts → ℕ → ℕ → Bool
goes_first p a b = is_same p a && (is_same p b || (is_spare_at p.tree a && is_spare_at p.tree b))

-- whether an event of this kind opens its node
abbrev pub is_opening : EventKind → Bool
is_opening k = not (same_kind k Finished)

-- The same-thread order.
pub record IsInOrder (p : PlanParts) (h : List Event) : Type 0 where
  -- an elder child is settled before what stands for a younger one
  pub elder_settled : (i a : ℕ) (e : Event) → slice_get h i ≡ Some e → IsElder p.tree a e.node → goes_first p a e.node ≡ true → IsSettledAt h i a
  -- what opens a child carries the worker of its parent's start
  pub by_parent : (i j : ℕ) (e f : Event) → slice_get h i ≡ Some e → slice_get h j ≡ Some f → is_opening e.kind ≡ true → 0 < e.node → is_same p e.node ≡ true
      → f.kind ≡ Started → f.node ≡ parent_of p.tree e.node → e.worker ≡ f.worker
