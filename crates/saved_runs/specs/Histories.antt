-- What the events of a history tell, and under which conditions a text can say it.
use Rattle.std.specs.Prelude.{◌≡◌, ◌<◌, ◌≤◌, ℕ, ◌==◌, cond, List, [], ◌∷◌, length, map, take, All, false, true, Option, Some, None}
use Rattle.std.specs.List.{AllByRecursion, flat_map}
use Rattle.unique_id.specs.Segments.{IsWhole, IsText}
use Rattle.unique_id.specs.Spelling.{spelling}
use Rattle.unique_id.specs.declared.unique_id.Segment.{Segment}
use Rattle.descriptor.specs.Nodes.{Nodes, size, node_at}
use Rattle.descriptor.specs.declared.node.Node.{Node}
use Rattle.resource_locks.specs.Plans.{PlanParts}
use Rattle.plan_events.specs.Words.{is_lawful}
use Rattle.plan_events.specs.declared.event.Event.{Event}
use Rattle.plan_events.specs.declared.event.EventKind.{EventKind}
use Rattle.plan_events.specs.declared.event.EventKind.TheVariants as kinds
use Rattle.plan_events.specs.declared.status.Status.{Status}
use Rattle.plan_events.specs.declared.status.Status.TheVariants.{Successful}
use Rattle.event_history.specs.Places.{is_failure}
use Rattle.saved_runs.specs.RunAgain.{failed_ids}
use Rattle.saved_runs.specs.Lines.{is_line_feed, whole_lines, Tell}
use Rattle.saved_runs.specs.declared.told.Told.{Told}
use Rattle.saved_runs.specs.declared.told.Told.TheVariants.{PlanStarted, PlanFinished, Node as OfNode}
use Rattle.saved_runs.specs.declared.told.What.{What}
use Rattle.saved_runs.specs.declared.told.What.TheVariants.{Started, Registered, Skipped, Finished}

-- the status of a finish, which has one
abbrev pub status_or : Option Status → Status
status_or None = Successful
status_or (Some status) = status

-- what happened to a node
abbrev pub what_of : EventKind → Option Status → What
what_of kinds.Started status = Started
what_of kinds.Finished status = Finished (status_or status)
what_of kinds.Skipped status = Skipped
what_of kinds.Registered status = Registered

-- what happened to the plan, which only starts and finishes
abbrev pub plan_event : EventKind → Told
plan_event kinds.Finished = PlanFinished
plan_event kind = PlanStarted

-- the segments of a node's id
abbrev pub segments_or : Option Node → List Segment
segments_or None = []
segments_or (Some node) = node.id

-- what an event tells
abbrev pub event_told : PlanParts → Event → Told
event_told plan e = cond (e.node == 0) (plan_event e.kind) (OfNode (segments_or (node_at plan.tree e.node)) (what_of e.kind e.status))

-- the segments make a unique id
pub record IsUid (id : List Segment) : Type 0 where
  pub some : 0 < length id
  pub few : length id ≤ 64
  pub whole : All IsWhole id
  pub texts : All IsText id
  pub short : length (spelling id) ≤ 1024

-- node n is there, with such an id
pub record HasUid (t : Nodes) (n : ℕ) : Type 0 where
  pub node : Node
  pub here : node_at t n ≡ Some node
  pub uid : IsUid node.id

-- each node but the plan has a unique id
abbrev pub HasUids : PlanParts → Type 0
HasUids plan = (n : ℕ) → 0 < n → n < size plan.tree → HasUid plan.tree n

-- no line feed stands in the id of a node, so each line of a feed is one line
abbrev pub HasFlatIds : PlanParts → Type 0
HasFlatIds plan = (n : ℕ) (node : Node) → node_at plan.tree n ≡ Some node → AllByRecursion (λ b. is_line_feed b ≡ false) (spelling node.id)

-- a run of the plan may publish the event
pub record IsOf (plan : PlanParts) (e : Event) : Type 0 where
  pub lawful : is_lawful e ≡ true
  pub inside : e.node < size plan.tree

-- the ids of the nodes that failed in a history, in their order
abbrev pub failed_in : PlanParts → List Event → List (List Segment)
failed_in plan h = flat_map (λ e. cond (is_failure e) (segments_or (node_at plan.tree e.node) ∷ []) []) h

-- the whole lines of a text tell what the first so many of these events tell
pub record TellsFirst (plan : PlanParts) (h : List Event) (text : List ℕ) : Type 0 where
  pub count : ℕ
  pub within : count ≤ length h
  pub told : Tell (whole_lines text) (map (event_told plan) (take count h))

-- a history is read back from a text: its lines tell what the events tell, and those that stand whole in a beginning of it what the first of them
-- tell; and the ids that failed by these lines are those of the nodes that failed
pub record IsReadBack (plan : PlanParts) (h : List Event) (text : List ℕ) : Type 0 where
  pub all : Tell (whole_lines text) (map (event_told plan) h)
  pub front : (k : ℕ) → TellsFirst plan h (take k text)
  pub failed : (k : ℕ) → failed_ids (map (event_told plan) (take k h)) ≡ failed_in plan (take k h)
