-- What is launched, and what a launch of it comes to.
use Rattle.std.specs.Prelude.{ℕ, List, Option, Result}
use Rattle.descriptor.specs.Nodes.{Nodes}
use Rattle.job_times.specs.Timings.{Times}
use Rattle.launch_options.specs.Asked.{Asked}
use Rattle.launch_options.specs.declared.fault.LaunchFault.{LaunchFault}
use Rattle.plan_events.specs.declared.outcome.Outcome.{Outcome}
use Rattle.plan_events.specs.declared.outcome.Reply.{Reply}
use Rattle.ready_runs.specs.ReadyPrograms.{program_parts}
use Rattle.resource_locks.specs.Plans.{PlanParts}
use Rattle.run_outputs.specs.declared.exit_status.ExitStatus.{ExitStatus}
use Rattle.worker_pool.specs.Premises.{JobsMayAnswer}
use Rattle.worker_pool.specs.Reports.{run_of}
use Rattle.worker_pool.specs.declared.report.Report.{Report}
use Rattle.launcher.specs.PlannedLaunches.{IsProgramLaunch}
use Rattle.launcher.specs.Programs.{HasJobs}
use Rattle.launcher.specs.SuiteLaunches.{IsSuiteTextLaunch}
use Rattle.launcher.specs.declared.source.LaunchSource.{LaunchSource}
use Rattle.launcher.specs.declared.source.LaunchSource.TheVariants.{Text, Program}

module _ {B : Type 0} (answers : B → List Reply) where
  -- whatever plan is made of a tree, its jobs may answer, and each of its bodies has one
  pub record MayRun (tree : Nodes) (jobs : List (ℕ × B)) : Type 0 where
    pub all : HasJobs tree jobs
    pub may_answer : (plan : PlanParts) (workers ring : ℕ) → JobsMayAnswer answers (run_of plan workers ring jobs)

  -- a suite may be launched, and a program whose jobs may be run
  abbrev pub MayLaunch : LaunchSource B → Type 0
  MayLaunch Text = Unit {0}
  MayLaunch (Program program) = MayRun program.tree program.jobs.items

  -- what a launch of it comes to: by what is asked for and the times that are noted, and by what reader and writer held before and hold after
  abbrev pub Launches : (gives : B → Reply → Type 0) → (says : B → Outcome → Type 0) → LaunchSource B → Asked → Times → (before left old new : Option (List ℕ)) → Option (Report B) → Result ExitStatus LaunchFault → Type 0
  Launches gives says Text asked times before left old new ran answer = IsSuiteTextLaunch asked times before left old new ran answer
  Launches gives says (Program program) asked times before left old new ran answer = IsProgramLaunch answers gives says asked times program.jobs.items old new (program_parts program.tree program.properties) ran answer
