-- What is told of the run that a launch hands out: each report, and the list of its slowest tests.
use Rattle.std.specs.Prelude.{◌≡◌, ℕ, Bool, List, Option, Some, None, Result, Ok, Err}
use Rattle.job_times.specs.Timings.{Times}
use Rattle.listeners.specs.Listeners.{EachPlace}
use Rattle.run_results.specs.declared.theme.Theme.{Theme}
use Rattle.launch_options.specs.declared.fault.LaunchFault.{LaunchFault}
use Rattle.run_outputs.specs.declared.exit_status.ExitStatus.{ExitStatus}
use Rattle.report_files.specs.Reports.{IsReported}
use Rattle.report_files.specs.SlowestTests.{IsSlowestIn}
use Rattle.report_files.specs.Told.{ToldParts}
use Rattle.report_files.specs.declared.report.Report.{Report as FileReport}
use Rattle.worker_pool.specs.declared.report.Report.{Report}

-- a run as reports see it
abbrev pub told_by : {B : Type 0} → Report B → ToldParts
told_by ran = record { plan = ran.plan; events = ran.events.items; texts = ran.texts }

-- each report is written of this very run, if all of it was printed; and else its writer was left alone
abbrev pub AreReportsBy : {B F : Type 0} → (F → Option (List ℕ)) → Theme → Times → Option (Report B) → Result ExitStatus LaunchFault → (old new : List (FileReport F)) → Type 0
AreReportsBy contents theme times (Some ran) (Ok status) old new = EachPlace (IsReported contents theme (told_by ran) times) old new
AreReportsBy contents theme times (Some ran) (Err fault) old new = new ≡ old
AreReportsBy contents theme times None answer old new = new ≡ old

-- the list is of this very run
abbrev pub IsSlowestBy : {B : Type 0} → (is_asked : Bool) → Times → Option (Report B) → (slowest : Option (List ℕ)) → Type 0
IsSlowestBy is_asked times (Some ran) slowest = IsSlowestIn is_asked times ran.plan slowest
IsSlowestBy is_asked times None slowest = slowest ≡ None
