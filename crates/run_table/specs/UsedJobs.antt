-- The jobs that have answered, as they come back once the table is taken apart, and what they say.
use Rattle.std.specs.Prelude.{◌≡◌, ◌≤◌, ℕ, List, [], ◌∷◌, Some, length, slice_get}
use Rattle.plan_events.specs.declared.outcome.Outcome.{Outcome}
use Rattle.plan_events.specs.declared.outcome.Reply.{Reply}
use Rattle.table_rule.specs.declared.view.About.{About}
use Rattle.table_rule.specs.declared.view.DispatcherFacts.{DispatcherFacts}
use Rattle.table_rule.specs.Picture.{SaysSo}
use Rattle.table_rule.specs.Slots.{slot_count}
use Rattle.run_table.specs.Balance.{IsUsed}
use Rattle.run_table.specs.Ended.{HasGiven}

module _ {B : Type 0} where
  -- What the jobs gave explains what was read; and those that come back are of the numbers that are used, at least one of each, and each
  -- says that it answered just what explains this, or asked for more dynamic tests than its factory has, and was not called.
  pub record HasSaid (says : B → Outcome → Type 0) (given : ℕ → Reply → Type 0) (replies : ℕ → List Reply) (key : About B) (d : DispatcherFacts) (used : List (ℕ × B)) : Type 0 where
    pub is : HasGiven given replies key d
    pub says_so : (i number : ℕ) (job : B) → slice_get used i ≡ Some (number, job) → (reply : Reply) × (is.told number ≡ reply ∷ []) × SaysSo says key.plan number reply job
    pub alone : (i number : ℕ) (job : B) → slice_get used i ≡ Some (number, job) → IsUsed key.plan d.read number
    pub few : length used ≤ slot_count key.plan
    pub each : (number : ℕ) → IsUsed key.plan d.read number → (i : ℕ) × (job : B) × (slice_get used i ≡ Some (number, job))
