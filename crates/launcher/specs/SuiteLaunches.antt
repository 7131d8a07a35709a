-- What a launch of a suite comes to, by what the suite says that its bodies answer.
use Rattle.std.specs.Prelude.{◌≡◌, ◌⊎◌, ℕ, List, Option, Some, None, IfSome, Result, Ok, Err}
use Rattle.config_params.specs.declared.settings.Settings.{Settings}
use Rattle.plan_events.specs.declared.event.Event.{Event}
use Rattle.plan_events.specs.declared.outcome.Reply.{Reply}
use Rattle.resource_locks.specs.Plans.{PlanParts}
use Rattle.resource_locks.specs.Spares.{HasBareSpares, HasFreeSpares}
use Rattle.scheduling.specs.declared.step.Step.{Step}
use Rattle.sched_core.specs.Replies.{replies_of}
use Rattle.sched_core.specs.InTurns.{IsScheduled}
use Rattle.sched_core.specs.declared.trace.Trace.{Trace}
use Rattle.schedules.specs.Replays.{HasSchedule}
use Rattle.job_times.specs.Timings.{Times}
use Rattle.suite_words.specs.declared.suite.fault.SuiteFault.{SuiteFault}
use Rattle.suite_text.specs.Reading.Bytes.{suite_read}
use Rattle.suite_text.specs.Reading.Parts.{SuiteParts}
use Rattle.suite_text.specs.Suites.{suite_parts}
use Rattle.suite_text.specs.declared.suite.Suite as suites
use Rattle.launch_options.specs.Asked.{Asked}
use Rattle.launch_options.specs.declared.fault.LaunchFault.{LaunchFault}
use Rattle.run_outputs.specs.Outputs.{IsReplayOutput}
use Rattle.run_outputs.specs.declared.exit_status.ExitStatus.{ExitStatus}
use Rattle.ready_runs.specs.Ready.{FailsSuite, answers_of, run_refusal}
use Rattle.ready_runs.specs.declared.scripted.ScriptedJob.{ScriptedJob}
use Rattle.ready_runs.specs.Reading.{ReadsSuite, TakesFrom, fault_in, front_read, most_read}
use Rattle.worker_pool.specs.Reports.{AreTexts}
use Rattle.worker_pool.specs.declared.report.Report.{Report}
use Rattle.launcher.specs.Launches.{IsPrintedTo, IsUnbegun}
use Rattle.launcher.specs.PlannedLaunches.{DoesPlan, IsIdle, IsPlannedLaunch, IsRefusedLaunch}
use Rattle.launcher.specs.Reports.{IsHistory, IsPrintedRun}

-- the same run, whatever became of its jobs; or none
abbrev pub IsSameRun : {B C : Type 0} → Option (Report B) → Option (Report C) → Type 0
IsSameRun (Some a) (Some b) = (b.plan ≡ a.plan) × (b.events.items ≡ a.events.items) × (b.texts ≡ a.texts)
IsSameRun (Some a) None = ⊥
IsSameRun None (Some b) = ⊥
IsSameRun None None = Unit {0}

-- How a history comes about: steps of the core lead to just that, with the replies that the suite says; where the fixed schedule is asked for,
-- and no dynamic test holds a key, it is the one history of the schedule.
abbrev pub ComesAbout : (drive : Option ℕ) → (workers : ℕ) → PlanParts → List (ℕ × Reply) → List Event → Type 0
ComesAbout None workers p answers history = HasSchedule p answers workers history
ComesAbout (Some driven) workers p answers history = HasFreeSpares p → (trace : Trace) × IsScheduled p answers workers trace × (history ≡ trace.published.items)

module _ {B : Type 0} (asked : Asked) (times : Times) (old new : Option (List ℕ)) where
  module _ (settings : Settings) (p : PlanParts) (answers : List (ℕ × Reply)) where
    -- A run of the plan is over, and this is it: its history is one of what the suite says, and so are the texts of its nodes; and what is
    -- printed of it, with these times, was written.
    pub record IsSuiteRunOver (ran : Report B) (answer : Result ExitStatus LaunchFault) : Type 0 where
      pub plan : ran.plan ≡ p
      pub published : IsHistory settings.workers p answers ran.events.items
      pub are : AreTexts p (replies_of answers) ran.events.items ran.texts
      pub comes : ComesAbout asked.drive settings.workers p answers ran.events.items
      pub printed : IsPrintedTo asked (IsPrintedRun asked settings p answers ran.events.items ran.texts times) old new answer

    -- the plan is run, or there were no means
    abbrev pub RunsSuite : Option (Report B) → Result ExitStatus LaunchFault → Type 0
    RunsSuite (Some ran) answer = IsSuiteRunOver ran answer
    RunsSuite None answer = IsUnbegun old new answer

    -- what is done with the plan: where there are steps to be replayed the settings' workers take them, and nothing else counts
    abbrev pub DoesSuite : Option (List Step) → Option (Report B) → Result ExitStatus LaunchFault → Type 0
    DoesSuite None ran answer = DoesPlan asked old new RunsSuite asked.details settings p ran answer
    DoesSuite (Some steps) ran answer = IsIdle asked old new (IsReplayOutput asked.fail_if_passed_over steps settings.workers p answers) ran answer

  -- what a launch of a suite comes to
  abbrev pub IsSuiteLaunch : SuiteParts → Option (Report B) → Result ExitStatus LaunchFault → Type 0
  IsSuiteLaunch suite ran answer =
      IsRefusedLaunch asked old new (FailsSuite asked suite) ran answer ⊎ IsPlannedLaunch asked old new (run_refusal asked suite) suite (λ settings p. DoesSuite settings p (answers_of suite.scripts) asked.replay) ran answer

  -- What is done behind a reading: a suite, of which no spare declares a lock and no engine is a factory, is launched; where the reading is
  -- refused nothing is run or written.
  abbrev pub LaunchesLoaded : Result suites.Suite LaunchFault → Option (Report B) → Result ExitStatus LaunchFault → Type 0
  LaunchesLoaded (Ok suite) ran answer = HasBareSpares suite.tree × IsSuiteLaunch (suite_parts suite) ran answer
  LaunchesLoaded (Err fault) ran answer = (answer ≡ Err fault) × (ran ≡ None) × (new ≡ old)

  -- these bytes are read, and what that gave is launched
  pub record IsReadLaunch (read : Result SuiteParts SuiteFault) (ran : Option (Report B)) (answer : Result ExitStatus LaunchFault) : Type 0 where
    pub loaded : Result suites.Suite LaunchFault
    pub reads : ReadsSuite read loaded
    pub launches : LaunchesLoaded loaded ran answer

-- The suite that a reader holds is launched; of a reader that tells nothing of its bytes, what is judged is what it gave, at most so many
-- bytes.
pub record IsSuiteTextLaunch {B : Type 0} (asked : Asked) (times : Times) (before left old new : Option (List ℕ)) (ran : Option (Report B)) (answer : Result ExitStatus LaunchFault) : Type 0 where
  pub exact : IfSome before (λ bytes. IsReadLaunch asked times old new (front_read asked.most_nodes bytes) ran answer)
  pub reads : TakesFrom (most_read asked.most_nodes) before left (fault_in answer) (λ bytes. IsReadLaunch asked times old new (suite_read asked.most_nodes bytes) ran answer)

-- what the launch of a suite's text comes to that is handed out to nobody: it is that of some run, if one is over, with some times
pub record IsSuiteTextRun (asked : Asked) (before left old new : Option (List ℕ)) (answer : Result ExitStatus LaunchFault) : Type 0 where
  pub times : Times
  pub ran : Option (Report ScriptedJob)
  pub launch : IsSuiteTextLaunch asked times before left old new ran answer
