-- What is printed of a run or of a replay, and its status.
use Rattle.std.specs.Prelude.{◌≡◌, ℕ, ◌<◌, true, false, List, ◌++◌, Option, Some, None}
use Rattle.config_params.specs.declared.settings.Settings.{Settings}
use Rattle.descriptor.specs.Nodes.{size}
use Rattle.plan_events.specs.declared.event.Event.{Event}
use Rattle.plan_events.specs.declared.outcome.Reply.{Reply}
use Rattle.plan_events.specs.Texts.{TextParts}
use Rattle.resource_locks.specs.Plans.{PlanParts}
use Rattle.event_history.specs.Apart.{IsApart}
use Rattle.event_history.specs.Exclusion.{IsExclusive}
use Rattle.event_history.specs.Limits.{IsWithinLimits}
use Rattle.event_history.specs.Expected.{expected, IsAsExpected}
use Rattle.event_history.specs.History.{IsLegal, IsComplete}
use Rattle.event_history.specs.Order.{IsInOrder}
use Rattle.event_history.specs.Parts.{EndsInPlan}
use Rattle.event_history.specs.Plans.{is_same}
use Rattle.scheduling.specs.declared.step.Step.{Step}
use Rattle.sched_core.specs.Replies.{reply_of, replies_of}
use Rattle.worker_pool.specs.Reports.{AreTexts as AreRunTexts}
use Rattle.job_times.specs.Timings.{Times, times_asked}
use Rattle.run_results.specs.Results.{tests_found, has_failed}
use Rattle.launch_options.specs.declared.details.Details.{Details}
use Rattle.run_outputs.specs.declared.exit_status.ExitStatus.{ExitStatus}
use Rattle.run_outputs.specs.ExitStatuses.{status_of_run}
use Rattle.run_outputs.specs.Outputs.{IsExpectedOutput, IsListing, IsPlanned, IsReplayOutput, details_of}
use Rattle.run_outputs.specs.ScheduleLines.{IsBehindDetails}
use Rattle.launch_options.specs.declared.details.Details.TheVariants as details
use Rattle.run_outputs.specs.WarningTexts.{head_of}
use Rattle.launch_options.specs.Asked.{Asked}

-- A history of a run of the plan by so many workers, whatever these do first: it is legal for what the suite has its bodies answer,
-- in same-thread order, nodes that hold conflicting locks stand apart in it, and so do those that declare them or are isolated, no
-- more nodes hold a key at once than its limit says, it is complete, and the plan's finish stands last.
pub record IsHistory (workers : ℕ) (p : PlanParts) (answers : List (ℕ × Reply)) (history : List Event) : Type 0 where
  pub legal : IsLegal p (replies_of answers) workers history
  pub order : IsInOrder p history
  pub exclusive : IsExclusive p history
  pub within : IsWithinLimits p history
  pub apart : IsApart p history
  pub complete : IsComplete p history
  pub ends : EndsInPlan history
  -- one worker has no other where every node runs in the thread of its parent
  pub only : workers ≡ 1 → ((n : ℕ) → n < size p.tree → is_same p n ≡ true) → (h : List Event) → IsLegal p (replies_of answers) 1 h → IsInOrder p h → IsComplete p h → h ≡ history
  -- and unless the plan fails fast each node ends as it is expected to, whatever the number of workers
  pub as_expected : p.fail_fast ≡ false → (n : ℕ) → n < size p.tree → IsAsExpected p (replies_of answers) history n (expected p (reply_of answers) n)

-- What is printed of this history of a run of the plan by the settings' workers, with these texts and times of its nodes: what the
-- output begins with and a line for each warning, then the history as the options say, with the times if they are asked for, then its
-- schedule, if one is asked for; and its failures make the status.
pub record IsPrintedRun (asked : Asked) (settings : Settings) (p : PlanParts) (answers : List (ℕ × Reply)) (history : List Event) (texts : TextParts) (times : Times) (text : List ℕ) (status : ExitStatus) : Type 0 where
  pub published : IsHistory settings.workers p answers history
  pub are : AreRunTexts p (replies_of answers) history texts
  pub schedule : List ℕ
  pub behind_details : IsBehindDetails asked.details asked.schedule settings.workers p answers history schedule
  pub printed : text ≡ head_of asked.details settings.warnings ++ (details_of asked.details asked.theme p texts (times_asked asked.times times) history ++ schedule)
  pub exits : status ≡ status_of_run asked.fail_if_no_tests (tests_found p history) (has_failed p history)
  -- and unless the plan fails fast all this but a feed and the schedule is what is expected, whatever the workers did
  pub as_expected : p.fail_fast ≡ false → IsExpectedOutput asked settings p.tree (reply_of answers) schedule text status
