-- What a program does that runs tests of its own.
use Rattle.std.specs.Prelude.{◌≡◌, ℕ, Bool, List, Option, Some, None}
use Rattle.launch_options.specs.Asked.{asked_by}
use Rattle.launch_options.specs.Given.{Text}
use Rattle.launch_options.specs.declared.asked.Options.{Options}
use Rattle.launch_options.specs.declared.fault.LaunchFault.TheVariants.{BadWords}
use Rattle.launcher.specs.PlannedLaunches.{IsProgramLaunch}
use Rattle.listeners.specs.Listeners.{Telling}
use Rattle.messages.specs.Sentences.{tests_sentence_of}
use Rattle.plan_events.specs.declared.outcome.Outcome.{Outcome}
use Rattle.plan_events.specs.declared.outcome.Reply.{Reply}
use Rattle.report_files.specs.Deeds.{Deed}
use Rattle.report_files.specs.FiledReports.{Wanted}
use Rattle.resource_locks.specs.Plans.{PlanParts}
use Rattle.suite_text.specs.Reading.Parts.{SuiteParts}
use Rattle.command_line.specs.Commands.{RefusesCommand}
use Rattle.command_line.specs.Runs.{IsLaunchRun}
use Rattle.command_line.specs.declared.closing.Ending.{Ending}

-- of jobs that may answer so, and of who watches
module _ {B V W E : Type 0} (answers : B → List Reply) (gives : B → Reply → Type 0) (says : B → Outcome → Type 0) (parts : SuiteParts) (jobs : List (ℕ × B)) (saw : PlanParts → V → V → List Telling → Type 0) (begun ended : V) (contents : W → Option (List ℕ)) (said : E → Option (List ℕ)) where
  -- the tests are launched with these options and reports
  abbrev pub IsTestsRun : (is_terminal : Bool) → Options → List Wanted → (before left : Option (List ℕ)) → (old new : W) → (first last : E) → (was now : Option (List Deed)) → Ending → Type 0
  IsTestsRun is_terminal options wanted before left old new first last was now ending =
      IsLaunchRun tests_sentence_of contents said (λ asked times before left old new ran answer. IsProgramLaunch answers gives says asked times jobs old new parts ran answer) saw begun ended is_terminal (asked_by options) wanted before left old new first last was now ending

  -- the tests are launched; a file with a suite is refused, since the tests are the program's own
  abbrev pub ConductsTests : {R K : Type 0} → (deeds : K → Option (List Deed)) → (remaining : R → Option (List ℕ)) → (is_terminal : Bool) → Options → (suite : Option Text) → List Wanted → (before after : R) → (old new : W) → (first last : E) → (was now : K) → Ending → Type 0
  ConductsTests deeds remaining is_terminal options None wanted before after old new first last was now ending = IsTestsRun is_terminal options wanted (remaining before) (remaining after) old new first last (deeds was) (deeds now) ending
  ConductsTests deeds remaining is_terminal options (Some name) wanted before after old new first last was now ending = RefusesCommand tests_sentence_of contents said BadWords before after begun ended old new first last was now ending
