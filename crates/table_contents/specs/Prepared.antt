-- Which of the jobs that are handed in stand in slots at the start, which in none, and when a run is refused.
use Rattle.std.specs.Prelude.{◌≡◌, ℕ, zero, suc, ◌<◌, ◌≤◌, ◌==◌, ◌&&◌, ◌⊎◌, not, Bool, false, cond, List, [], ◌∷◌, ◌++◌, Option, Some, None}
use Rattle.std.specs.Option.{is_some}
use Rattle.resource_locks.specs.Plans.{PlanParts}
pub use Rattle.table_rule.specs.Limits.{IsRightCount, IsRightRing}
use Rattle.table_rule.specs.declared.view.About.{About}
use Rattle.table_rule.specs.declared.view.Slot.{Slot}
use Rattle.table_rule.specs.declared.view.Slot.TheVariants.{Body}
use Rattle.table_rule.specs.Slots.{slot_count, job_at, job_with}
use Rattle.table_contents.specs.declared.fault.TableFault.{TableFault}
use Rattle.table_contents.specs.declared.fault.TableFault.TheVariants.{NoMemory, NoWorkers, TooManyWorkers, BadRing, JobsMissing}

-- the slot of the job with this number, of the slots below k
abbrev pub is_number : ℕ → Option ℕ → Bool
is_number number None = false
is_number number (Some other) = other == number

abbrev pub slot_below : PlanParts → ℕ → ℕ → Option ℕ
slot_below p number zero = None
slot_below p number (suc k) = cond (is_number number (job_at p k)) (Some k) (slot_below p number k)

abbrev pub slot_of : PlanParts → ℕ → Option ℕ
slot_of p number = slot_below p number (slot_count p)

module _ {B : Type 0} where
  -- a job goes into a slot if its number is that of one, and no job before it has the number
  abbrev pub goes_in : PlanParts → List (ℕ × B) → ℕ → Bool
  goes_in p before number = is_some (slot_of p number) && not (is_some (job_with before number))

  -- of the jobs that stand behind these, those that go into none
  abbrev pub unused_after : PlanParts → List (ℕ × B) → List (ℕ × B) → List (ℕ × B)
  unused_after p before [] = []
  unused_after p before (job ∷ jobs) = cond (goes_in p before job.0) (unused_after p (before ++ job ∷ []) jobs) (job ∷ unused_after p (before ++ job ∷ []) jobs)

  abbrev pub unused_of : About B → List (ℕ × B)
  unused_of key = unused_after key.plan [] key.jobs

  -- the jobs that stand in these slots, the first of which has the number k
  abbrev pub job_in : Option ℕ → Slot B → List (ℕ × B)
  job_in (Some number) (Body job) = (number, job) ∷ []
  job_in _ _ = []

  abbrev pub jobs_from : PlanParts → ℕ → List (Slot B) → List (ℕ × B)
  jobs_from p k [] = []
  jobs_from p k (slot ∷ slots) = job_in (job_at p k) slot ++ jobs_from p (suc k) slots

  -- a body of the plan, or an after-body, has no job
  pub record IsMissing (p : PlanParts) (jobs : List (ℕ × B)) (number : ℕ) : Type 0 where
    pub slot : ℕ
    pub inside : slot < slot_count p
    pub is : job_at p slot ≡ Some number
    pub none : job_with jobs number ≡ None

  pub record IsLeastMissing (p : PlanParts) (jobs : List (ℕ × B)) (number : ℕ) : Type 0 where
    pub missing : IsMissing p jobs number
    pub least : (other : ℕ) → IsMissing p jobs other → number ≤ other

  abbrev pub HasAllJobs : PlanParts → List (ℕ × B) → Type 0
  HasAllJobs p jobs = (number : ℕ) → IsMissing p jobs number → ⊥

  -- Why a run is refused, in the order in which it is judged. Want of memory hides neither a number of workers nor a size of the ring.
  abbrev pub IsRefused : PlanParts → (workers ring : ℕ) → List (ℕ × B) → TableFault → Type 0
  IsRefused p workers ring jobs NoWorkers = workers ≡ 0
  IsRefused p workers ring jobs TooManyWorkers = 64 < workers
  IsRefused p workers ring jobs BadRing = IsRightCount workers × ((ring ≡ 0) ⊎ (16384 < ring))
  IsRefused p workers ring jobs (JobsMissing number) = IsRightCount workers × IsRightRing ring × IsLeastMissing p jobs number
  IsRefused p workers ring jobs NoMemory = IsRightCount workers × IsRightRing ring
