-- What a line of a saved run tells, by its texts: what happened, to which node, and how it ended.
use Rattle.std.specs.Prelude.{ℕ, ◌==◌, cond, List, length, Bool, true, false, Option, Some, None, Result, Ok, Err}
use Rattle.std.specs.Option.{option_map, option_and_then}
use Rattle.std.specs.Str.{bytes_eq}
use Rattle.run_results.specs.Feed.{kind_word}
use Rattle.plan_events.specs.Statuses.{status_text}
use Rattle.plan_events.specs.declared.event.EventKind.TheVariants as kinds
use Rattle.plan_events.specs.declared.status.Status.{Status}
use Rattle.plan_events.specs.declared.status.Status.TheVariants.{Successful, Aborted, Failed}
use Rattle.unique_id.specs.Reading.{id_of}
use Rattle.unique_id.specs.declared.fault.UidFault.{UidFault}
use Rattle.unique_id.specs.declared.unique_id.Segment.{Segment}
use Rattle.saved_runs.specs.declared.told.Told.{Told}
use Rattle.saved_runs.specs.declared.told.Told.TheVariants.{PlanStarted, PlanFinished, Node, Note}
use Rattle.saved_runs.specs.declared.told.What.{What}
use Rattle.saved_runs.specs.declared.told.What.TheVariants.{Started, Registered, Skipped, Finished}

-- the status of this name
abbrev pub status_named : List ℕ → Option Status
status_named word =
    cond (bytes_eq word (status_text Successful)) (Some Successful) (
    cond (bytes_eq word (status_text Aborted)) (Some Aborted) (
    cond (bytes_eq word (status_text Failed)) (Some Failed) None))

-- what happened, by its name and what is told of its end: of a finish the status, of a skip anything, else nothing
abbrev pub what_by : List ℕ → List ℕ → Option What
what_by word status =
    cond (bytes_eq word (kind_word kinds.Started)) (cond (length status == 0) (Some Started) None) (
    cond (bytes_eq word (kind_word kinds.Registered)) (cond (length status == 0) (Some Registered) None) (
    cond (bytes_eq word (kind_word kinds.Skipped)) (Some Skipped) (
    cond (bytes_eq word (kind_word kinds.Finished)) (option_map Finished (status_named status)) None)))

-- what happened to the plan, by its name
abbrev pub plan_told : List ℕ → Option Told
plan_told word =
    cond (bytes_eq word (kind_word kinds.Started)) (Some PlanStarted) (
    cond (bytes_eq word (kind_word kinds.Finished)) (Some PlanFinished) None)

-- what is told of the node whose id was read
abbrev pub told_of : What → Result (List Segment) UidFault → Option Told
told_of what (Ok id) = Some (Node id what)
told_of what (Err fault) = None

-- what is told of the node whose id this text spells
abbrev pub told_by : What → List ℕ → Option Told
told_by what id = told_of what (id_of id)

-- what is told of a node, by the name of what happened, the text of its id, and its status
abbrev pub node_told : List ℕ → List ℕ → List ℕ → Option Told
node_told word id status = option_and_then (λ what. told_by what id) (what_by word status)

-- whether it is the plan's finish
abbrev pub is_plan_finish : Told → Bool
is_plan_finish PlanStarted = false
is_plan_finish PlanFinished = true
is_plan_finish (Node id what) = false
is_plan_finish Note = false

-- whether a node ended so, and failed
abbrev pub is_failure : What → Bool
is_failure Started = false
is_failure Registered = false
is_failure Skipped = false
is_failure (Finished Successful) = false
is_failure (Finished Aborted) = false
is_failure (Finished Failed) = true

-- whether a node ended so, without failing: it was skipped, or finished with another status
abbrev pub is_pass : What → Bool
is_pass Started = false
is_pass Registered = false
is_pass Skipped = true
is_pass (Finished Successful) = true
is_pass (Finished Aborted) = true
is_pass (Finished Failed) = false

-- the node of which it is told, if what happened passes this test
abbrev pub id_where : (What → Bool) → Told → Option (List Segment)
id_where test PlanStarted = None
id_where test PlanFinished = None
id_where test (Node id what) = cond (test what) (Some id) None
id_where test Note = None

-- the node that failed, if it is told of one
abbrev pub failed_id : Told → Option (List Segment)
failed_id told = id_where is_failure told

-- the node that ended without failing, if it is told of one
abbrev pub passed_id : Told → Option (List Segment)
passed_id told = id_where is_pass told
