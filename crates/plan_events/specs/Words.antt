-- Which events may be published, and the word of each.
use Rattle.std.specs.Prelude.{ℕ, ◌+◌, ◌*◌, ◌==◌, ◌&&◌, ◌||◌, nat_le, not, Bool, true, false, Option, Some, None}
use Rattle.plan_events.specs.declared.status.Status.{Status}
use Rattle.plan_events.specs.declared.status.Status.TheVariants.{Successful, Aborted, Failed}
use Rattle.plan_events.specs.declared.event.EventKind.{EventKind}
use Rattle.plan_events.specs.declared.event.EventKind.TheVariants.{Started, Finished, Skipped, Registered}
use Rattle.plan_events.specs.declared.event.Event.{Event}

-- a status stands exactly where the node is finished
abbrev pub fits_status : EventKind → Option Status → Bool
fits_status Finished None = false
fits_status Finished (Some s) = true
fits_status _ None = true
fits_status _ (Some s) = false

-- the plan's node starts, or finishes successfully, and has no other event
abbrev pub plan_may : EventKind → Option Status → Bool
plan_may Started status = true
plan_may Finished (Some Successful) = true
plan_may _ status = false

-- a run may publish the event
abbrev pub is_lawful : Event → Bool
is_lawful e =
    fits_status e.kind e.status && (nat_le 1 e.worker && nat_le e.worker 64) && nat_le e.node 16383 && (not (e.node == 0) || plan_may e.kind e.status)

-- the number of a kind in a word
abbrev pub kind_code : EventKind → ℕ
kind_code Started = 1
kind_code Finished = 2
kind_code Skipped = 3
kind_code Registered = 4

-- the number of a status in a word, 0 for none
abbrev pub status_code : Option Status → ℕ
status_code None = 0
status_code (Some Successful) = 1
status_code (Some Aborted) = 2
status_code (Some Failed) = 3

-- the word of an event: the kind in bits 0 to 7, the status in 8 to 15, the worker in 16 to 23, the node in 32 to 47
abbrev pub word_of : Event → ℕ
word_of e = kind_code e.kind + 256 * status_code e.status + 65536 * e.worker + 4294967296 * e.node
