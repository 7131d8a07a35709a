-- What is noted of a node by its event alone.
use Rattle.std.specs.Prelude.{ℕ, if◌then◌else◌}
use Rattle.descriptor.specs.Nodes.{is_disabled}
use Rattle.plan_events.specs.declared.note.Note.{Note}
use Rattle.plan_events.specs.declared.note.Note.TheVariants.{Reason, Cancelled}
use Rattle.resource_locks.specs.Plans.{PlanParts}

-- the note of node n where it is skipped: its own reason, if it is disabled, and else that the plan was cancelled
abbrev pub skip_note : PlanParts → ℕ → Note
skip_note p n = if is_disabled p.tree n then Reason else Cancelled
