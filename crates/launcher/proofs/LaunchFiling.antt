-- Reports that were opened are filed of the run that a launch hands out.
use Rattle.std.proofs.Common.{◌≡◌, ◌∙◌, ℕ, suc, true, List, [], ◌∷◌, length, map, Option, Some, None, Result, Ok, Err, IfErr, arith, sym, ap, subst}
use Rattle.std.specs.Io.KnownBytes.{Appends}
use Rattle.std.proofs.lemmas.Bool.{false≢true}
use Rattle.std.proofs.lemmas.List.{length-map, take_all}
use Rattle.job_times.specs.Timings.{Times}
use Rattle.listeners.specs.Listeners.{EachPlace}
use Rattle.run_results.specs.declared.theme.Theme.{Theme}
use Rattle.launch_options.specs.ReportTexts.{parts_of}
use Rattle.launch_options.specs.declared.details.Details.{Details}
use Rattle.launch_options.specs.declared.fault.LaunchFault.{LaunchFault}
use Rattle.launch_options.specs.declared.reports.ReportAsked.{ReportAsked}
use Rattle.run_outputs.specs.declared.exit_status.ExitStatus.{ExitStatus}
use Rattle.report_files.specs.Deeds.{Deed, Does}
use Rattle.report_files.specs.Deeds.Deed.{Opened, Kept, NotKept, GivenUp}
use Rattle.report_files.specs.FiledReports.{Wanted, AreEnded, AreOpened, IsEnded, IsOpened, answer_with, first_lost, givings_up, is_whole, openings}
use Rattle.report_files.specs.Reports.{IsReported, StandsBehind}
use Rattle.report_files.specs.ReportTexts.{report_of}
use Rattle.report_files.specs.Told.{ToldParts}
use Rattle.report_files.specs.declared.report.Outcome.{Outcome}
use Rattle.report_files.specs.declared.report.Outcome.TheVariants.{Waiting, Whole, Cut}
use Rattle.report_files.specs.declared.report.Report.{Report as FileReport}
use Rattle.report_files.proofs.Filing.{all_given_up, does_more}
use Rattle.worker_pool.specs.declared.report.Report.{Report}
use Rattle.launcher.specs.FiledLaunches.{AreFiled, AreFiledBy, IsFiled, IsOpenedWith}
use Rattle.launcher.specs.RunReports.{AreReportsBy, told_by}

-- how many are asked for
pub many_wanted : (ws : List ReportAsked) (n : ℕ) → n ≡ length ws → n ≡ length (map parts_of ws)
many_wanted ws n is = is ∙ sym (length-map ws parts_of)

-- reports whose files were open are given up where something is refused, and else this is done with them
pub opened_with : {F : Type 0} (contents : F → Option (List ℕ)) (Runs : Result ExitStatus LaunchFault → Type 0) (Files : Result ExitStatus LaunchFault → List Deed → Type 0) (ws : List Wanted) (account was now : Option (List Deed)) (b n : List (FileReport F)) (told answer : Result ExitStatus LaunchFault) (ds : List Deed)
    → length b ≡ length ws → AreOpened contents b ws → Does account was (openings ws) → Runs told → Files told ds → IfErr told (λ fault. n ≡ b) → length n ≡ length b → Does was now ds → AreEnded contents n ws ds → answer ≡ answer_with told (first_lost 1 ds)
    → IsOpenedWith Runs Files ws account now answer
opened_with {F} contents Runs Files ws account was now b n told answer ds many opened opening runs files refused same ending ended answers = record {
  told = told;
  launches = runs;
  ends = ds;
  did = does_more account was now (openings ws) ds opening ending;
  refused = all_up told refused;
  filed = files;
  answers = answers;
}
  where
    all_up : (r : Result ExitStatus LaunchFault) → IfErr r (λ fault. n ≡ b) → IfErr r (λ fault. ds ≡ givings_up ws)
    all_up (Ok status) is = tt
    all_up (Err fault) is = all_given_up contents n ws ds (subst (λ (l : List (FileReport F)). AreOpened contents l ws) (sym is) opened) ended ∙ ap givings_up (take_all (length n) ws (omega (arith, same, many)))

-- all of a text stands behind what was there, where the report is whole
whole_stands : (o : Outcome) (old new : Option (List ℕ)) (text : List ℕ) → is_whole o ≡ true → StandsBehind o old new text → Appends old new text
whole_stands Waiting old new text whole stands = absurd stands
whole_stands Whole old new text whole stands = stands
whole_stands (Cut cause) old new text whole stands = absurd (false≢true whole)

module _ {F : Type 0} (contents : F → Option (List ℕ)) (theme : Theme) where
  filed_one : (told : ToldParts) (times : Times) (w : Wanted) (was now : FileReport F) (d : Deed) → IsOpened contents w was → IsReported contents theme told times was now → IsEnded contents w now d → IsFiled theme told times w d
  filed_one told times w was now (Opened name) opened reported ended = absurd ended
  filed_one told times w was now (Kept name bytes) opened reported ended =
      let text = report_of was.form theme told times in
      let stands : Appends (contents was.file) (contents now.file) text = whole_stands now.outcome (contents was.file) (contents now.file) text ended.1 reported.stands in
      let kept : Appends (contents was.file) bytes text = subst (λ (bs : Option (List ℕ)). Appends (contents was.file) bs text) (sym ended.2) stands in
      (ended.0, (contents was.file, opened.empty, subst (λ (form : Details). Appends (contents was.file) bytes (report_of form theme told times)) opened.form kept))
  filed_one told times w was now (NotKept name) opened reported ended = ended.0
  filed_one told times w was now (GivenUp name) opened reported ended = ended.0

  pub filed_each : (told : ToldParts) (times : Times) (ws : List Wanted) (was now : List (FileReport F)) (ds : List Deed) → length was ≡ length ws → length now ≡ length was → AreOpened contents was ws → EachPlace (IsReported contents theme told times) was now → AreEnded contents now ws ds
      → AreFiled theme told times ws ds
  filed_each told times [] [] [] [] many same opened each ended = tt
  filed_each told times [] [] [] (d ∷ ds) many same opened each ended = absurd ended
  filed_each told times [] [] (n ∷ now) ds many same opened each ended = absurd (omega (arith, same))
  filed_each told times [] (b ∷ was) now ds many same opened each ended = absurd (omega (arith, many))
  filed_each told times (w ∷ ws) [] now ds many same opened each ended = absurd (omega (arith, many))
  filed_each told times (w ∷ ws) (b ∷ was) [] ds many same opened each ended = absurd (omega (arith, same))
  filed_each told times (w ∷ ws) (b ∷ was) (n ∷ now) [] many same opened each ended = absurd ended
  filed_each told times (w ∷ ws) (b ∷ was) (n ∷ now) (d ∷ ds) many same opened each ended = (
    filed_one told times w b n d opened.0 (each 0 b (omega arith)) ended.0,
    filed_each told times ws was now ds (omega (arith, many)) (omega (arith, same)) opened.1 (λ k r lt. each (suc k) r (omega (arith, lt))) ended.1,
  )

module _ {F : Type 0} (contents : F → Option (List ℕ)) (theme : Theme) (times : Times) (ws : List Wanted) (b n : List (FileReport F)) (ds : List Deed) (many : length b ≡ length ws) (same : length n ≡ length b) (opened : AreOpened contents b ws) (ended : AreEnded contents n ws ds) where
  all_up : n ≡ b → ds ≡ givings_up ws
  all_up is = all_given_up contents n ws ds (subst (λ (l : List (FileReport F)). AreOpened contents l ws) (sym is) opened) ended ∙ ap givings_up (take_all (length n) ws (omega (arith, same, many)))

  module _ {B : Type 0} where
    pub filed_by : (ran : Option (Report B)) (answer : Result ExitStatus LaunchFault) → AreReportsBy contents theme times ran answer b n → AreFiledBy theme times ws ran answer ds
    filed_by (Some ran) (Ok status) is = filed_each contents theme (told_by ran) times ws b n ds many same opened is ended
    filed_by (Some ran) (Err fault) is = all_up is
    filed_by None answer is = all_up is

    pub left_alone : (ran : Option (Report B)) (answer : Result ExitStatus LaunchFault) → AreReportsBy contents theme times ran answer b n → IfErr answer (λ fault. n ≡ b)
    left_alone (Some ran) (Ok status) is = tt
    left_alone (Some ran) (Err fault) is = is
    left_alone None (Ok status) is = tt
    left_alone None (Err fault) is = is
