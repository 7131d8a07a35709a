-- The feed: one line for each event.
use Rattle.std.specs.Prelude.{ℕ, ◌==◌, cond, List, [], ◌++◌, codes, Option, Some, None}
use Rattle.std.specs.List.{flat_map}
use Rattle.std.specs.Fmt.{decimal}
use Rattle.unique_id.specs.Spelling.{spelling}
use Rattle.descriptor.specs.Nodes.{node_at}
use Rattle.descriptor.specs.declared.node.Node.{Node}
use Rattle.resource_locks.specs.Plans.{PlanParts}
use Rattle.plan_events.specs.Statuses.{status_text}
use Rattle.plan_events.specs.Texts.{TextParts, text_at}
use Rattle.plan_events.specs.declared.event.Event.{Event}
use Rattle.plan_events.specs.declared.event.EventKind.{EventKind}
use Rattle.plan_events.specs.declared.event.EventKind.TheVariants.{Started, Finished, Skipped, Registered}
use Rattle.plan_events.specs.declared.status.Status.{Status}
use Rattle.plan_events.specs.declared.status.Status.TheVariants.{Successful}
use Rattle.run_results.specs.Printed.{text_after}

-- the name of what happened
abbrev pub kind_word : EventKind → List ℕ
kind_word Started = codes "started"
kind_word Finished = codes "finished"
kind_word Skipped = codes "skipped"
kind_word Registered = codes "registered"

-- how a node ended: its status, and the text behind any status but SUCCESSFUL
abbrev pub status_and_text : Status → List ℕ → List ℕ
status_and_text Successful text = codes " SUCCESSFUL"
status_and_text status text = (codes " " ++ status_text status) ++ text_after text

-- what stands behind the id: of a skipped node the text, of a finished one how it ended
abbrev pub ending : EventKind → Option Status → List ℕ → List ℕ
ending Skipped status text = text_after text
ending Finished (Some status) text = status_and_text status text
ending _ _ text = []

-- the line of an event at node 0
abbrev pub plan_line : Event → List ℕ
plan_line e = codes "w" ++ decimal e.worker ++ codes " plan " ++ kind_word e.kind ++ codes "\n"

-- the front of the line of an event at a node with this id
abbrev pub node_front : Event → List ℕ → List ℕ
node_front e id = codes "w" ++ decimal e.worker ++ codes " " ++ kind_word e.kind ++ codes " " ++ id

-- the line of an event at a node with this id and this text
abbrev pub node_line : Event → List ℕ → List ℕ → List ℕ
node_line e id text = node_front e id ++ ending e.kind e.status text ++ codes "\n"

-- the line of an event at a node with this id and this text; of node 0 it says `plan`, and no more than what happened
abbrev pub event_line : Event → List ℕ → List ℕ → List ℕ
event_line e id text = cond (e.node == 0) (plan_line e) (node_line e id text)

-- the canonical id of a node that may be missing
abbrev pub id_or : Option Node → List ℕ
id_or None = []
id_or (Some node) = spelling node.id

-- the canonical id of a node; nothing for node 0, and for a node that the plan lacks
abbrev pub id_at : PlanParts → ℕ → List ℕ
id_at plan n = id_or (node_at plan.tree n)

abbrev pub text_or : Option (List ℕ) → List ℕ
text_or None = []
text_or (Some text) = text

-- the whole text: the lines of the events, in their order
abbrev pub feed_of : PlanParts → TextParts → List Event → List ℕ
feed_of plan texts events = flat_map (λ e. event_line e (id_at plan e.node) (text_or (text_at texts e.node))) events
