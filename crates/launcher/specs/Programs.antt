-- What is run and printed of a program's jobs, of which nobody knows beforehand what they answer.
use Rattle.std.specs.Prelude.{◌≡◌, ℕ, ◌<◌, ◌⊎◌, true, false, List, [], ◌∷◌, ◌++◌, Option, Some, slice_get}
use Rattle.std.specs.Option.{is_some}
use Rattle.config_params.specs.declared.settings.Settings.{Settings}
use Rattle.descriptor.specs.Nodes.{Nodes, size, body_of, after_of}
use Rattle.plan_events.specs.declared.event.Event.{Event}
use Rattle.plan_events.specs.declared.outcome.Reply.{Reply}
use Rattle.plan_events.specs.Texts.{TextParts}
use Rattle.resource_locks.specs.Plans.{PlanParts}
use Rattle.event_history.specs.Apart.{IsApart}
use Rattle.event_history.specs.Exclusion.{IsExclusive}
use Rattle.event_history.specs.Limits.{IsWithinLimits}
use Rattle.event_history.specs.Expected.{expected, IsAsExpected}
use Rattle.event_history.specs.History.{IsLegal, IsComplete}
use Rattle.event_history.specs.Order.{IsInOrder}
use Rattle.event_history.specs.Parts.{EndsInPlan}
use Rattle.event_history.specs.Plans.{is_same}
use Rattle.junit_report.specs.Expectations.{IsPrintedAsExpected}
use Rattle.table_rule.specs.Picture.{given_by, replies_of}
use Rattle.table_rule.specs.Reached.{Agrees}
use Rattle.table_rule.specs.Slots.{job_with}
use Rattle.run_table.specs.Balance.{IsBalanced, IsUsed}
use Rattle.worker_pool.specs.Reports.{run_of, AreTexts, IsToldAsGiven}
use Rattle.job_times.specs.Timings.{Times, times_asked}
use Rattle.run_results.specs.Results.{tests_found, has_failed}
use Rattle.launch_options.specs.Asked.{Asked}
use Rattle.run_outputs.specs.declared.exit_status.ExitStatus.{ExitStatus}
use Rattle.run_outputs.specs.ExitStatuses.{status_of_run}
use Rattle.run_outputs.specs.ScheduleLines.{IsBehindRun}
use Rattle.run_outputs.specs.Outputs.{details_of}
use Rattle.run_outputs.specs.WarningTexts.{head_of}

-- each body and each after-body of the tree has a job
abbrev pub HasJobs : {B : Type 0} → Nodes → List (ℕ × B) → Type 0
HasJobs t jobs = (n number : ℕ) → (body_of t n ≡ Some number) ⊎ (after_of t n ≡ Some number) → is_some (job_with jobs number) ≡ true

-- one reply of each job
abbrev pub one_each : (ℕ → Reply) → ℕ → List Reply
one_each reply job = reply job ∷ []

-- A history of a run of the plan by so many workers, whatever these do first, in which each job gave this reply: it is legal by
-- these replies, in same-thread order, nodes that hold conflicting locks stand apart in it, and so do those that declare them or are
-- isolated, no more nodes hold a key at once than its limit says, it is complete, and the plan's finish stands last.
pub record IsHistoryBy (workers : ℕ) (p : PlanParts) (reply : ℕ → Reply) (history : List Event) : Type 0 where
  pub legal : IsLegal p (one_each reply) workers history
  pub order : IsInOrder p history
  pub exclusive : IsExclusive p history
  pub within : IsWithinLimits p history
  pub apart : IsApart p history
  pub complete : IsComplete p history
  pub ends : EndsInPlan history
  -- one worker has no other by these replies where every node runs in the thread of its parent
  pub only : workers ≡ 1 → ((n : ℕ) → n < size p.tree → is_same p n ≡ true) → (h : List Event) → IsLegal p (one_each reply) 1 h → IsInOrder p h → IsComplete p h → h ≡ history
  -- and unless the plan fails fast each node ends as it is expected to by these replies, whatever the number of workers
  pub as_expected : p.fail_fast ≡ false → (n : ℕ) → n < size p.tree → IsAsExpected p (one_each reply) history n (expected p reply n)

-- of jobs that may answer so, and that give their replies so
module _ {B : Type 0} (answers : B → List Reply) (gives : B → Reply → Type 0) where
  -- What is known of a run of these jobs by so many workers that is over, by its own parts: the history, the texts of its nodes, and the
  -- jobs that are left. There is one reply of each job, such that the history is one in which the jobs gave these replies, and is that of a
  -- run of the core in which each job replies just this (`gave.ran.of_core reply agrees`).
  pub record HasRun (workers ring : ℕ) (p : PlanParts) (jobs : List (ℕ × B)) (history : List Event) (texts : TextParts) (left : List (ℕ × B)) : Type 0 where
    -- the history is legal by what the jobs may answer, and the texts of its nodes are by that too;
    pub may_be : IsLegal p (replies_of answers (run_of p workers ring jobs)) workers history
    pub may_say : AreTexts p (replies_of answers (run_of p workers ring jobs)) history texts
    -- and both are by what the jobs gave: by the very call of the job, but where a factory's job asked for more dynamic tests than there are;
    pub gave : IsToldAsGiven (given_by gives (run_of p workers ring jobs)) (replies_of answers (run_of p workers ring jobs)) p workers history texts
    -- which is one reply of each job, of a job that was used one that it may give
    pub reply : ℕ → Reply
    pub agrees : Agrees gave.ran.told reply
    pub given : (number : ℕ) → IsUsed p history number → (place : ℕ) × (slice_get (replies_of answers (run_of p workers ring jobs) number) place ≡ Some (reply number))
    pub published : IsHistoryBy workers p reply history
    pub are : AreTexts p (one_each reply) history texts
    -- and unless the plan fails fast what is printed of it is as expected by these replies
    pub as_expected : p.fail_fast ≡ false → IsPrintedAsExpected p reply history texts
    -- the jobs that were used are just those of the nodes that have finished, each once; all others are left
    pub balanced : IsBalanced p jobs history left

-- What is printed of a run that is over, of whose jobs it may be known what they answer, by its history, and the texts and times of its
-- nodes: a line for each warning, then the history as the options say, with the times if they are asked for, and then what is to stand
-- behind it; its failures make the status.
pub record IsPrintedOf (known : Option (List (ℕ × Reply))) (asked : Asked) (settings : Settings) (p : PlanParts) (history : List Event) (texts : TextParts) (times : Times) (text : List ℕ) (status : ExitStatus) : Type 0 where
  pub behind : List ℕ
  pub is_behind : IsBehindRun asked.details asked.schedule settings.workers p known history texts behind
  pub printed : text ≡ head_of asked.details settings.warnings ++ (details_of asked.details asked.theme p texts (times_asked asked.times times) history ++ behind)
  pub exits : status ≡ status_of_run asked.fail_if_no_tests (tests_found p history) (has_failed p history)
