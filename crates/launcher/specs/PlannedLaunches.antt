-- What a launch comes to whose tree is known: why it is refused, or what is done with the plan of what is selected.
use Rattle.std.specs.Prelude.{◌≡◌, ◌⊎◌, ℕ, List, Option, None, Result, Ok}
use Rattle.std.specs.Result.{IsErrAnd}
use Rattle.config_params.specs.declared.settings.Settings.{Settings}
use Rattle.plan_events.specs.declared.outcome.Outcome.{Outcome}
use Rattle.plan_events.specs.declared.outcome.Reply.{Reply}
use Rattle.resource_locks.specs.Plans.{PlanParts}
use Rattle.resource_locks.specs.Spares.{HasBareSpares}
use Rattle.never_stuck.specs.Reaching.{NeverStuck}
use Rattle.job_times.specs.Timings.{Times}
use Rattle.suite_text.specs.Reading.Parts.{SuiteParts}
use Rattle.launch_options.specs.Asked.{Asked}
use Rattle.launch_options.specs.declared.details.Details.{Details}
use Rattle.launch_options.specs.declared.details.Details.TheVariants as details
use Rattle.launch_options.specs.declared.fault.LaunchFault.{LaunchFault}
use Rattle.run_outputs.specs.Missing.{answer_unless, is_missing}
use Rattle.run_outputs.specs.Outputs.{IsListing, IsPlanned}
use Rattle.run_outputs.specs.declared.exit_status.ExitStatus.{ExitStatus}
use Rattle.ready_runs.specs.Ready.{plan_in, settings_in}
use Rattle.ready_runs.specs.ReadyPrograms.{FailsProgram, program_refusal}
use Rattle.worker_pool.specs.declared.report.Report.{Report}
use Rattle.launcher.specs.Launches.{IsLaunched, IsPrintedTo}

module _ {B : Type 0} (asked : Asked) (old new : Option (List ℕ)) where
  -- nothing is run, and this is printed
  pub record IsIdle (Prints : List ℕ → ExitStatus → Type 0) (ran : Option (Report B)) (answer : Result ExitStatus LaunchFault) : Type 0 where
    pub unrun : ran ≡ None
    pub printed : IsPrintedTo asked Prints old new answer

  -- what is done with a plan: it is run, unless the list or the nodes are asked for
  abbrev pub DoesPlan : (Runs : Option (Report B) → Result ExitStatus LaunchFault → Type 0) → Details → Settings → PlanParts → Option (Report B) → Result ExitStatus LaunchFault → Type 0
  DoesPlan Runs details.None settings p ran answer = Runs ran answer
  DoesPlan Runs details.Summary settings p ran answer = Runs ran answer
  DoesPlan Runs details.Tree settings p ran answer = Runs ran answer
  DoesPlan Runs details.Testfeed settings p ran answer = Runs ran answer
  DoesPlan Runs details.Json settings p ran answer = Runs ran answer
  DoesPlan Runs details.Xml settings p ran answer = Runs ran answer
  DoesPlan Runs details.List settings p ran answer = IsIdle (IsListing asked.fail_if_no_tests p) ran answer
  DoesPlan Runs details.Plan settings p ran answer = IsIdle (IsPlanned asked.fail_if_no_tests settings.warnings p) ran answer

  -- it was refused: nothing was run or written
  pub record IsRefusedLaunch (Fails : LaunchFault → Type 0) (ran : Option (Report B)) (answer : Result ExitStatus LaunchFault) : Type 0 where
    pub fails : IsErrAnd answer Fails
    pub unrun : ran ≡ None
    pub unwritten : new ≡ old

  -- Nothing refuses it: what the request selects of the tree is a plan, with which this is done; the status of a shard says too that nothing
  -- is selected.
  pub record IsPlannedLaunch (refusal : Option LaunchFault) (parts : SuiteParts) (Does : Settings → PlanParts → Option (Report B) → Result ExitStatus LaunchFault → Type 0) (ran : Option (Report B)) (answer : Result ExitStatus LaunchFault) : Type 0 where
    pub accepted : refusal ≡ None
    pub settings : Settings
    pub are : settings_in asked parts ≡ Ok settings
    pub told : Result ExitStatus LaunchFault
    pub does : Does settings (plan_in asked parts.tree parts.properties settings) ran told
    pub judged : answer ≡ answer_unless (is_missing asked parts.tree) told
    -- whatever the workers of this plan do first, it can still be brought to its end
    pub never_stuck : HasBareSpares parts.tree → NeverStuck (plan_in asked parts.tree parts.properties settings)

-- what a launch of a program's jobs comes to, of which nobody knows beforehand what they answer
module _ {B : Type 0} (answers : B → List Reply) (gives : B → Reply → Type 0) (says : B → Outcome → Type 0) (asked : Asked) (times : Times) (jobs : List (ℕ × B)) (old new : Option (List ℕ)) where
  abbrev pub DoesJobs : Settings → PlanParts → Option (Report B) → Result ExitStatus LaunchFault → Type 0
  DoesJobs settings p ran answer = DoesPlan asked old new (IsLaunched answers gives says None times asked settings p jobs old new) asked.details settings p ran answer

  abbrev pub IsProgramLaunch : SuiteParts → Option (Report B) → Result ExitStatus LaunchFault → Type 0
  IsProgramLaunch parts ran answer = IsRefusedLaunch asked old new (FailsProgram asked parts) ran answer ⊎ IsPlannedLaunch asked old new (program_refusal asked parts) parts DoesJobs ran answer
