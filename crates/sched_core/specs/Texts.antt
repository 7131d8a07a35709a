-- The texts of a history.
use Rattle.std.specs.Prelude.{◌≡◌, ℕ, ◌<◌, Bool, false, nat_lt, if◌then◌else◌, List, length, Option, Some, None, slice_index_or}
use Rattle.descriptor.specs.Nodes.{size}
use Rattle.plan_events.specs.declared.event.EventKind.TheVariants.{Finished, Skipped}
use Rattle.plan_events.specs.declared.event.Event.{Event}
use Rattle.plan_events.specs.declared.note.Note.{Note}
use Rattle.plan_events.specs.declared.note.Note.TheVariants.{Own, TooMany}
use Rattle.plan_events.specs.declared.outcome.Reply.{Reply}
use Rattle.plan_events.specs.Texts.{TextParts, reasons_of}
use Rattle.resource_locks.specs.Plans.{PlanParts}
use Rattle.event_history.specs.Places.{has}
use Rattle.event_history.specs.Results.{Jobs, Pulled, jobs_of}
use Rattle.event_history.specs.Expected.{Expected, Finishes, result_by}
use Rattle.scheduling.specs.Notes.{skip_note}
use Rattle.sched_core.specs.Replies.{reply_of}

-- whether a factory's reply has more pulls than there are spares
abbrev pub pulls_too_many : (ℕ → Reply) → Jobs → Bool
pulls_too_many reply (Pulled body spares) = nat_lt spares (reply body).pulls
pulls_too_many reply _ = false

-- the note of a result's text: its own, or that there were too many dynamic tests; none for a result without a text
abbrev pub note_by : Bool → Expected → Option Note
note_by too_many (Finishes status (Some text)) = Some (if too_many then TooMany else Own text)
note_by too_many _ = None

-- the note of a node for which these jobs are run
abbrev pub jobs_note : (ℕ → Reply) → Jobs → Option Note
jobs_note reply jobs = note_by (pulls_too_many reply jobs) (result_by reply jobs)

-- the note of node n where it is finished: the text of its result
abbrev pub own_note : PlanParts → List (ℕ × Reply) → ℕ → Option Note
own_note p answers n = jobs_note (reply_of answers) (jobs_of p n)

-- the note of node n: by its skip, where that stands, else by its finish
abbrev pub note_of : PlanParts → List (ℕ × Reply) → List Event → ℕ → Option Note
note_of p answers events n = if has Skipped n events then Some (skip_note p n) else (if has Finished n events then own_note p answers n else None)

-- a place for each node, which holds the node's note, and the reasons of the nodes
pub record AreTexts (p : PlanParts) (answers : List (ℕ × Reply)) (events : List Event) (texts : TextParts) : Type 0 where
  pub places : length texts.notes ≡ size p.tree
  pub notes : (n : ℕ) → n < size p.tree → slice_index_or texts.notes n None ≡ note_of p answers events n
  pub reasons : texts.reasons ≡ reasons_of p.tree
