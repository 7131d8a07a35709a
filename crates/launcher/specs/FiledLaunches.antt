-- What becomes of the reports of a launch, which are kept in files.
use Rattle.std.specs.Prelude.{◌≡◌, ◌≢◌, ◌⊎◌, ℕ, List, [], ◌∷◌, ◌++◌, length, Option, Some, None, IfErr, Result, Ok, Err}
use Rattle.std.specs.Io.KnownBytes.{Appends}
use Rattle.job_times.specs.Timings.{Times}
use Rattle.run_results.specs.declared.theme.Theme.{Theme}
use Rattle.launch_options.specs.declared.fault.LaunchFault.{LaunchFault}
use Rattle.run_outputs.specs.declared.exit_status.ExitStatus.{ExitStatus}
use Rattle.report_files.specs.Deeds.{Deed, Does, IsEmpty}
use Rattle.report_files.specs.Deeds.Deed.{Opened, Kept, NotKept, GivenUp}
use Rattle.report_files.specs.FiledReports.{Wanted, IsUnopened, answer_with, first_lost, givings_up, openings}
use Rattle.report_files.specs.ReportTexts.{report_of}
use Rattle.report_files.specs.Told.{ToldParts}
use Rattle.worker_pool.specs.declared.report.Report.{Report}
use Rattle.launcher.specs.RunReports.{told_by}

-- what is known of a file that was empty is just this text
abbrev pub HoldsJust : Option (List ℕ) → List ℕ → Type 0
HoldsJust bytes text = (first : Option (List ℕ)) × IsEmpty first × Appends first bytes text

-- what became of a report: its form of what was told, with these times, stands under its name; or it is given up
abbrev pub IsFiled : Theme → ToldParts → Times → Wanted → Deed → Type 0
IsFiled theme told times w (Opened name) = ⊥
IsFiled theme told times w (Kept name bytes) = (name ≡ w.1) × HoldsJust bytes (report_of w.0 theme told times)
IsFiled theme told times w (NotKept name) = name ≡ w.1
IsFiled theme told times w (GivenUp name) = name ≡ w.1

-- and of each
abbrev pub AreFiled : Theme → ToldParts → Times → List Wanted → List Deed → Type 0
AreFiled theme told times [] [] = Unit {0}
AreFiled theme told times [] (deed ∷ deeds) = ⊥
AreFiled theme told times (w ∷ wanted) [] = ⊥
AreFiled theme told times (w ∷ wanted) (deed ∷ deeds) = IsFiled theme told times w deed × AreFiled theme told times wanted deeds

-- each report is filed of this very run, if all of it was printed; and else all are given up
abbrev pub AreFiledBy : {B : Type 0} → Theme → Times → List Wanted → Option (Report B) → Result ExitStatus LaunchFault → List Deed → Type 0
AreFiledBy theme times wanted (Some ran) (Ok status) ends = AreFiled theme (told_by ran) times wanted ends
AreFiledBy theme times wanted (Some ran) (Err fault) ends = ends ≡ givings_up wanted
AreFiledBy theme times wanted None answer ends = ends ≡ givings_up wanted

-- The files were opened, and something is launched. In the end each is filed of that; of what is refused all are given up. The answer is that
-- of the launch, or the number of the first report that is not kept.
pub record IsOpenedWith (Launches : Result ExitStatus LaunchFault → Type 0) (Files : Result ExitStatus LaunchFault → List Deed → Type 0) (wanted : List Wanted) (was now : Option (List Deed)) (answer : Result ExitStatus LaunchFault) : Type 0 where
  pub told : Result ExitStatus LaunchFault
  pub launches : Launches told
  pub ends : List Deed
  pub did : Does was now (openings wanted ++ ends)
  pub refused : IfErr told (λ fault. ends ≡ givings_up wanted)
  pub filed : Files told ends
  pub answers : answer ≡ answer_with told (first_lost 1 ends)

module _ {B : Type 0} (Launches : Option (Report B) → Result ExitStatus LaunchFault → Type 0) (theme : Theme) (times : Times) (wanted : List Wanted) (was now : Option (List Deed)) where
  -- the files could not be opened, and nothing was launched
  pub record IsUnopenedLaunch (unlaunched : Type 0) (ran : Option (Report B)) (answer : Result ExitStatus LaunchFault) : Type 0 where
    pub fault : LaunchFault
    pub is : answer ≡ Err fault
    pub some : length wanted ≢ 0
    pub unopened : IsUnopened wanted was now fault
    pub unrun : ran ≡ None
    pub untouched : unlaunched

  -- They were opened first, and in the end each is filed of the run that is handed out; the answer is that of the launch, or the number of
  -- the first report that is not kept.
  abbrev pub IsFiledLaunch : (unlaunched : Type 0) → Option (Report B) → Result ExitStatus LaunchFault → Type 0
  IsFiledLaunch unlaunched ran answer = IsUnopenedLaunch unlaunched ran answer ⊎ IsOpenedWith (Launches ran) (AreFiledBy theme times wanted ran) wanted was now answer
