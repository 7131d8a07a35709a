-- Which notes are still in slots once the table is taken apart.
use Rattle.std.specs.Prelude.{◌≡◌, ℕ, ◌<◌, List, Some, slice_get}
use Rattle.plan_events.specs.declared.note.Note.{Note}
use Rattle.plan_events.specs.declared.outcome.Reply.{Reply}
use Rattle.table_rule.specs.declared.view.About.{About}
use Rattle.table_rule.specs.declared.view.DispatcherFacts.{DispatcherFacts}
use Rattle.table_rule.specs.declared.view.SlotState.TheVariants.{Noted}
use Rattle.table_rule.specs.Slots.{slot_count, jobs_at, told_note}
use Rattle.table_contents.specs.Remains.{notes_from}
use Rattle.run_table.specs.Ended.{HasEnded}

module _ {B : Type 0} where
  -- Where the run has ended so, the notes that are left are just those in the slots, in the order of the slots. So the note of each
  -- answer that is noted, which is one that the dispatcher has not taken, is there, with its slot.
  pub record HasLeftNotes (replies : ℕ → List Reply) (key : About B) (d : DispatcherFacts) (jobs : List (ℕ × B)) (notes : List (ℕ × Note)) : Type 0 where
    pub ended : HasEnded replies key d jobs
    pub left : notes ≡ notes_from 0 ended.slots
    pub noted : (k : ℕ) (reply : Reply) → k < slot_count key.plan → ended.slot_state k ≡ Noted reply → (i : ℕ) × (slice_get notes i ≡ Some (k, told_note (jobs_at key.plan k) reply))
