-- How far the slots are filled, and which of them are empty.
use Rattle.std.specs.Prelude.{◌≡◌, ℕ, ◌<◌, ◌≤◌, Bool, true, false, List, [], length, Option, Some, None, get_or}
use mathlib.Core.Option.{some}
use lib.ListN.{get_elem?}
use Rattle.resource_locks.specs.Plans.{PlanParts}
use Rattle.table_rule.specs.declared.view.Slot.{Slot}
use Rattle.table_rule.specs.declared.view.Slot.TheVariants.{Empty}
use Rattle.table_rule.specs.Slots.{slot_count, job_at, slot_for}
use Rattle.table_contents.specs.Prepared.{slot_of, unused_after}

-- the slot of each job, at the place of the job's number; a number that is past the end is that of none
abbrev pub IsIndex : PlanParts → List (Option ℕ) → Type 0
IsIndex p index = (number : ℕ) → get_or index number None ≡ slot_of p number

module _ {B : Type 0} where
  -- whether nothing stands in a slot
  abbrev pub is_bare : Slot B → Bool
  is_bare Empty = true
  is_bare _ = false

  -- these jobs stand in the slots, but for those that go into none
  pub record IsFilled (p : PlanParts) (before : List (ℕ × B)) (slots : List (Slot B)) (unused : List (ℕ × B)) : Type 0 where
    pub many : length slots ≡ slot_count p
    pub slots_are : (k : ℕ) → k < slot_count p → get_elem? slots k ≡ some (slot_for before (job_at p k))
    pub unused_is : unused ≡ unused_after p [] before

  -- one of the first so many slots, that of this job, is empty
  pub record IsBare (p : PlanParts) (slots : List (Slot B)) (many number : ℕ) : Type 0 where
    pub slot : ℕ
    pub inside : slot < many
    pub is : job_at p slot ≡ Some number
    pub empty : get_elem? slots slot ≡ some Empty

  -- the least number of these, if there is one
  abbrev pub IsLeastBare : PlanParts → List (Slot B) → ℕ → Option ℕ → Type 0
  IsLeastBare p slots many None = (number : ℕ) → IsBare p slots many number → ⊥
  IsLeastBare p slots many (Some number) = IsBare p slots many number × ((other : ℕ) → IsBare p slots many other → number ≤ other)
