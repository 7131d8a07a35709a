-- A launch with reports, whose run is watched, and of which the slowest tests are listed.
use Rattle.std.specs.Prelude.{◌≡◌, ℕ, List, Option, Result}
use Rattle.job_times.specs.Timings.{Times, times_asked}
use Rattle.launch_options.specs.Asked.{Asked}
use Rattle.launch_options.specs.declared.fault.LaunchFault.{LaunchFault}
use Rattle.launcher.specs.FiledLaunches.{IsFiledLaunch}
use Rattle.launcher.specs.Launches.{Sees}
use Rattle.launcher.specs.RunReports.{IsSlowestBy}
use Rattle.listeners.specs.Listeners.{Telling}
use Rattle.report_files.specs.Deeds.{Deed}
use Rattle.report_files.specs.FiledReports.{Wanted}
use Rattle.resource_locks.specs.Plans.{PlanParts}
use Rattle.run_outputs.specs.declared.exit_status.ExitStatus.{ExitStatus}
use Rattle.worker_pool.specs.declared.report.Report.{Report}

module _ {B V : Type 0} (Launches : Asked → Times → (before left old new : Option (List ℕ)) → Option (Report B) → Result ExitStatus LaunchFault → Type 0) (saw : PlanParts → V → V → List Telling → Type 0) (begun ended : V) where
  -- Something is launched with these reports, which are kept in files; whoever watches has seen the run that is handed out, and of that run this
  -- list of the slowest tests is made. What is printed, each report and the list tell the same times.
  pub record IsTimedLaunch (asked : Asked) (wanted : List Wanted) (before left old new : Option (List ℕ)) (was now : Option (List Deed)) (ran : Option (Report B)) (answer : Result ExitStatus LaunchFault) (slowest : Option (List ℕ)) : Type 0 where
    pub times : Times
    pub filed : IsFiledLaunch (Launches asked times before left old new) asked.theme (times_asked asked.times times) wanted was now ((left ≡ before) × (new ≡ old)) ran answer
    pub seen : Sees saw begun ended ran
    pub listed : IsSlowestBy asked.times times ran slowest
