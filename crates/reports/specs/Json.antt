-- The JSON of a run: an object for each event, in their order, each on a line of its own. What an object is, what text is written for
-- it and what a text is read as are the kit's own definitions, those of its crate `json`.
use Rattle.std.specs.Prelude.{◌≡◌, ℕ, ◌==◌, cond, List, [], ◌++◌, map, codes, Option, Some, None}
use Rattle.std.specs.Fmt.{decimal}
use Rattle.std.specs.List.{flat_map}
use Rattle.std.specs.Str.Lines.{lines}
use Rattle.descriptor.specs.Nodes.{kind_of}
use Rattle.descriptor.specs.declared.kind.Kind.{Kind}
use Rattle.descriptor.specs.declared.kind.Kind.TheVariants.{Container, Test, ContainerAndTest}
use Rattle.json.specs.Json.{Json, string, number, object, Members, no_members, member, document}
use Rattle.json.specs.Print.{print}
use Rattle.json.specs.Tree.{json_tokens}
use Rattle.job_times.specs.Timings.{Took, took_of}
use Rattle.resource_locks.specs.Plans.{PlanParts}
use Rattle.plan_events.specs.Statuses.{status_text}
use Rattle.plan_events.specs.Texts.{TextParts, text_at}
use Rattle.plan_events.specs.declared.event.Event.{Event}
use Rattle.plan_events.specs.declared.event.EventKind.{EventKind}
use Rattle.plan_events.specs.declared.event.EventKind.TheVariants.{Finished, Skipped}
use Rattle.plan_events.specs.declared.status.Status.{Status}
use Rattle.plan_events.specs.declared.status.Status.TheVariants.{Successful}
use Rattle.run_results.specs.Feed.{kind_word, id_at, text_or}
use Rattle.run_results.specs.TreeTexts.{name_at}
use Rattle.reports.specs.TimeTexts.{milliseconds}

-- the text of a value: no space, and the shortest escapes
abbrev pub written : Json → List ℕ
written value = print (json_tokens value)

-- the lines of the text, read as JSON, are these values, in their order
abbrev pub ReadsAs : List ℕ → List Json → Type 0
ReadsAs text values = map document (lines text) ≡ map Some values

-- a member whose value is a text, before others
abbrev pub text_member : List ℕ → List ℕ → Members → Members
text_member name text more = member name (string text) more

-- a member whose value is a number, before others
abbrev pub number_member : List ℕ → ℕ → Members → Members
number_member name n more = member name (number (decimal n)) more

-- the name of a node's type
abbrev pub type_word : Kind → List ℕ
type_word Container = codes "CONTAINER"
type_word Test = codes "TEST"
type_word ContainerAndTest = codes "CONTAINER_AND_TEST"

-- how long a node took, if it is known
abbrev pub time_members : Option ℕ → Members
time_members None = no_members
time_members (Some micros) = number_member (codes "ms") (milliseconds micros) no_members

-- how a node ended: its status, the text with any status but SUCCESSFUL, and how long it took, if it is known
abbrev pub status_members : Status → List ℕ → Option ℕ → Members
status_members Successful text took = text_member (codes "status") (codes "SUCCESSFUL") (time_members took)
status_members status text took = text_member (codes "status") (status_text status) (text_member (codes "text") text (time_members took))

-- what stands behind the name: of a skipped node the text, of a finished one how it ended
abbrev pub timed_ending_members : EventKind → Option Status → List ℕ → Option ℕ → Members
timed_ending_members Skipped status text took = text_member (codes "text") text no_members
timed_ending_members Finished (Some status) text took = status_members status text took
timed_ending_members _ _ text took = no_members

-- what stands behind the name where no time is known
abbrev pub ending_members : EventKind → Option Status → List ℕ → Members
ending_members kind status text = timed_ending_members kind status text None

-- of which node an event tells, and what stands behind its name, with this text and time; of node 0 no more is said than that it is the plan
abbrev pub node_members : PlanParts → Event → List ℕ → Option ℕ → Members
node_members plan e text took =
    cond (e.node == 0)
    (text_member (codes "type") (codes "PLAN") no_members)
    (text_member (codes "type") (type_word (kind_of plan.tree e.node))
    (text_member (codes "id") (id_at plan e.node)
    (text_member (codes "name") (name_at plan.tree e.node)
    (timed_ending_members e.kind e.status text took))))

-- the object of an event with this text and time: what happened, which worker saw to it, and to which node
abbrev pub event_json : PlanParts → Event → List ℕ → Option ℕ → Json
event_json plan e text took =
    object (text_member (codes "event") (kind_word e.kind) (number_member (codes "worker") e.worker (node_members plan e text took)))

-- its text, where no time is known
abbrev pub object_with : PlanParts → Event → List ℕ → List ℕ
object_with plan e text = written (event_json plan e text None)

-- the object of an event with the text and the time of its node
abbrev pub timed_object_told : PlanParts → TextParts → Took → Event → Json
timed_object_told plan texts took e = event_json plan e (text_or (text_at texts e.node)) (took_of took e.node)

-- the object of an event with the text of its node where no time is known
abbrev pub object_told : PlanParts → TextParts → Event → Json
object_told plan texts e = timed_object_told plan texts [] e

-- its text
abbrev pub timed_event_object : PlanParts → TextParts → Took → Event → List ℕ
timed_event_object plan texts took e = written (timed_object_told plan texts took e)

-- the object of a line that tells of no node: what it is, and one member besides
abbrev pub note_json : List ℕ → List ℕ → List ℕ → Json
note_json what name text = object (text_member (codes "event") what (text_member name text no_members))

-- its line
abbrev pub note_line : List ℕ → List ℕ → List ℕ → List ℕ
note_line what name text = written (note_json what name text) ++ codes "\n"

-- the whole text: the objects of the events, in their order
abbrev pub timed_json_of : PlanParts → TextParts → Took → List Event → List ℕ
timed_json_of plan texts took events = flat_map (λ e. timed_event_object plan texts took e ++ codes "\n") events

-- the whole text where no time is known
abbrev pub json_of : PlanParts → TextParts → List Event → List ℕ
json_of plan texts events = timed_json_of plan texts [] events
