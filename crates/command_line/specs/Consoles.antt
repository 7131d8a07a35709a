-- What the program does that runs suites.
use Rattle.std.specs.Prelude.{◌≡◌, ◌⊎◌, ℕ, Bool, List, Option, Some, None, Result, Ok, Err}
use Rattle.command_words.specs.Words.{ReadsWords}
use Rattle.launch_options.specs.Asked.{Asked, asked_by}
use Rattle.launch_options.specs.Given.{Text}
use Rattle.launch_options.specs.declared.asked.Options.{Options}
use Rattle.launch_options.specs.declared.fault.LaunchFault.{LaunchFault}
use Rattle.launch_options.specs.declared.fault.LaunchFault.TheVariants.{NoMemory, Reading}
use Rattle.launcher.specs.SuiteLaunches.{IsSuiteTextLaunch, IsSuiteTextRun}
use Rattle.listeners.specs.Listeners.{Telling}
use Rattle.messages.specs.Sentences.{sentence_of}
use Rattle.ready_runs.specs.declared.scripted.ScriptedJob.{ScriptedJob}
use Rattle.report_files.specs.Deeds.{Deed}
use Rattle.report_files.specs.FiledReports.{Wanted}
use Rattle.resource_locks.specs.Plans.{PlanParts}
use Rattle.run_outputs.specs.declared.exit_status.ExitStatus.{ExitStatus}
use Rattle.command_line.specs.Runs.{Closes, IsLaunchRun, SaysText, waiting_said}
use Rattle.command_line.specs.declared.closing.Ending.{Ending}

module _ {R W : Type 0} (remaining : R → Option (List ℕ)) (contents : W → Option (List ℕ)) where
  -- what is done with what the arguments gave: options are run; a refusal is answered, and neither reader nor writer is touched
  abbrev pub RunsOptions : Result Options LaunchFault → (before after : R) → (left : Option (List ℕ)) → (old new : W) → Result ExitStatus LaunchFault → Type 0
  RunsOptions (Ok options) before after left old new result = IsSuiteTextRun (asked_by options) (remaining before) left (contents old) (contents new) result
  RunsOptions (Err fault) before after left old new result = (result ≡ Err fault) × (after ≡ before) × (new ≡ old)

  -- the arguments are read, and what that gave is run
  pub record IsConsoleRun (words : List Text) (before after : R) (left : Option (List ℕ)) (old new : W) (result : Result ExitStatus LaunchFault) : Type 0 where
    pub options : Result Options LaunchFault
    pub reads : ReadsWords words options
    pub runs : RunsOptions options before after left old new result

module _ {V W E : Type 0} (saw : PlanParts → V → V → List Telling → Type 0) (begun ended : V) (contents : W → Option (List ℕ)) (said : E → Option (List ℕ)) where
  -- The suite of which this is left to read is launched. On the other writer stands first what is waited for, if something is said of that.
  pub record IsSourceRun (is_terminal : Bool) (waited : Option (List ℕ)) (asked : Asked) (wanted : List Wanted) (before : Option (List ℕ)) (old new : W) (first last : E) (was now : Option (List Deed)) (ending : Ending) : Type 0 where
    pub left : Option (List ℕ)
    pub waiting : E
    pub waits : SaysText said waited first waiting
    pub run : IsLaunchRun {B = ScriptedJob} sentence_of contents said IsSuiteTextLaunch saw begun ended is_terminal asked wanted before left old new waiting last was now ending

  module _ {K : Type 0} (deeds : K → Option (List Deed)) where
    -- a file that has no suite to run: that is said, no file is touched, and nothing is seen
    pub record LacksFile (fault : LaunchFault) (old new : W) (first last : E) (was now : K) (ending : Ending) : Type 0 where
      pub unseen : ended ≡ begun
      pub untouched : now ≡ was
      pub closes : Closes sentence_of contents said (Err fault) old new first last ending

    -- the suite that a file has is launched; or the file cannot be read
    abbrev pub IsFileRun : (is_terminal : Bool) → Asked → List Wanted → (old new : W) → (first last : E) → (was now : K) → Ending → Type 0
    IsFileRun is_terminal asked wanted old new first last was now ending =
        ((bytes : List ℕ) × IsSourceRun is_terminal None asked wanted (Some bytes) old new first last (deeds was) (deeds now) ending)
        ⊎ (LacksFile Reading old new first last was now ending ⊎ LacksFile NoMemory old new first last was now ending)

    -- these options are run of the suite that the reader holds; or, where a file is named, of that which it has, and the reader is not touched
    abbrev pub ConductsSuite : {R : Type 0} → (remaining : R → Option (List ℕ)) → (is_terminal is_typed : Bool) → Options → (suite : Option Text) → List Wanted → (before after : R) → (old new : W) → (first last : E) → (was now : K) → Ending → Type 0
    ConductsSuite remaining is_terminal is_typed options None wanted before after old new first last was now ending =
        IsSourceRun is_terminal (waiting_said is_typed None) (asked_by options) wanted (remaining before) old new first last (deeds was) (deeds now) ending
    ConductsSuite remaining is_terminal is_typed options (Some name) wanted before after old new first last was now ending =
        (after ≡ before) × IsFileRun is_terminal (asked_by options) wanted old new first last was now ending
