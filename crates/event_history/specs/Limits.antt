-- How many nodes hold a key at a place of the history.
use Rattle.std.specs.Prelude.{ℕ, ◌<◌, ◌≤◌, Bool, ◌&&◌, not, List, take}
use Rattle.std.specs.List.{list_any}
use Rattle.std.specs.Str.{bytes_eq}
use Rattle.descriptor.specs.Nodes.{size, count_below}
use Rattle.plan_events.specs.declared.event.Event.{Event}
use Rattle.plan_events.specs.declared.event.EventKind.TheVariants.{Started, Finished}
use Rattle.resource_locks.specs.Plans.{PlanParts, held_of, limit_for}
use Rattle.event_history.specs.Places.{has}

-- whether node n holds the key while it runs
abbrev pub holds_key : PlanParts → List ℕ → ℕ → Bool
holds_key p key n = list_any (λ l. bytes_eq key l.key) (held_of p n)

-- whether node n has started in these events, and not finished
abbrev pub is_running : List Event → ℕ → Bool
is_running h n = has Started n h && not (has Finished n h)

-- how many nodes hold the key after these events
abbrev pub holders_after : PlanParts → List ℕ → List Event → ℕ
holders_after p key h = count_below (λ n. holds_key p key n && is_running h n) (size p.tree)

-- At each place of the history at most as many nodes hold a key as its limit says, if it has one.
abbrev pub IsWithinLimits : PlanParts → List Event → Type 0
IsWithinLimits p h = (i : ℕ) (key : List ℕ) → 0 < limit_for p key → holders_after p key (take i h) ≤ limit_for p key
