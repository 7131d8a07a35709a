-- What is left in a row of slots: the jobs that have answered, and the notes, each with the number of its slot.
use Rattle.std.specs.Prelude.{ℕ, suc, List, [], ◌∷◌, ◌++◌, Option, Some}
use Rattle.plan_events.specs.declared.note.Note.{Note}
use Rattle.resource_locks.specs.Plans.{PlanParts}
use Rattle.table_rule.specs.declared.view.Slot.{Slot}
use Rattle.table_rule.specs.declared.view.Slot.TheVariants.{Answered}
use Rattle.table_rule.specs.Slots.{job_at, used_in}

module _ {B : Type 0} where
  -- the notes that stand in these slots, the first of which is slot k, each with the number of its slot
  abbrev pub note_at : ℕ → Slot B → List (ℕ × Note)
  note_at k (Answered pulls status note job) = (k, note) ∷ []
  note_at k _ = []

  abbrev pub notes_from : ℕ → List (Slot B) → List (ℕ × Note)
  notes_from k [] = []
  notes_from k (slot ∷ slots) = note_at k slot ++ notes_from (suc k) slots

  abbrev pub with_number : Option ℕ → Option B → List (ℕ × B)
  with_number (Some number) (Some job) = (number, job) ∷ []
  with_number _ _ = []

  -- the jobs that have answered in these slots, the first of which is slot k
  abbrev pub used_at : Option ℕ → Slot B → List (ℕ × B)
  used_at number slot = with_number number (used_in slot)

  abbrev pub used_from : PlanParts → ℕ → List (Slot B) → List (ℕ × B)
  used_from p k [] = []
  used_from p k (slot ∷ slots) = used_at (job_at p k) slot ++ used_from p (suc k) slots
