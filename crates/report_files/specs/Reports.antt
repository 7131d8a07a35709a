-- What the writers of reports were given.
use Rattle.std.specs.Prelude.{◌≡◌, ◌<◌, ℕ, List, [], length, take, Option}
use Rattle.std.specs.Io.KnownBytes.{Appends}
use Rattle.launch_options.specs.declared.fault.CutCause.TheVariants.{Writer, Memory}
use Rattle.job_times.specs.Timings.{Times}
use Rattle.run_results.specs.declared.theme.Theme.{Theme}
use Rattle.report_files.specs.ReportTexts.{report_of}
use Rattle.report_files.specs.Told.{ToldParts}
use Rattle.report_files.specs.declared.report.Outcome.{Outcome}
use Rattle.report_files.specs.declared.report.Outcome.TheVariants.{Waiting, Whole, Cut}
use Rattle.report_files.specs.declared.report.Report.{Report}

-- a text stands behind what a writer held: all of it; or the first so many bytes, and not all, where the writer failed; or nothing of it,
-- where there was no memory for it
abbrev pub StandsBehind : Outcome → (old new : Option (List ℕ)) → List ℕ → Type 0
StandsBehind Waiting old new text = ⊥
StandsBehind Whole old new text = Appends old new text
StandsBehind (Cut Writer) old new text = (sent : ℕ) × (sent < length text) × Appends old new (take sent text)
StandsBehind (Cut Memory) old new text = Appends old new []

module _ {F : Type 0} (contents : F → Option (List ℕ)) (theme : Theme) where
  -- a report is written of this run with these times, in its form
  pub record IsReported (told : ToldParts) (times : Times) (old new : Report F) : Type 0 where
    pub form : new.form ≡ old.form
    pub stands : StandsBehind new.outcome (contents old.file) (contents new.file) (report_of old.form theme told times)
