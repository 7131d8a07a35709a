-- What a run prints, from what each of its parts says.
use Rattle.std.proofs.Common.{◌≡◌, ◌∙◌, ◌<◌, ◌≤◌, ℕ, Bool, true, false, arith, List, [], ◌++◌, Option, Some, None, Result, Ok, Err, refl, ap, ap₂, subst, inl, inr}
use Rattle.std.specs.Prelude.{◌⊎◌}
use Rattle.std.proofs.lemmas.Option.{none-some, same_Some}
use Rattle.config_params.specs.declared.settings.Settings.{Settings}
use Rattle.descriptor.specs.Nodes.{IsTree}
use Rattle.plan_events.specs.declared.event.Event.{Event}
use Rattle.plan_events.specs.declared.outcome.Reply.{Reply}
use Rattle.plan_events.specs.Texts.{TextParts, text_at}
use Rattle.resource_locks.specs.Declarations.{declared_of}
use Rattle.resource_locks.specs.Hoisted.{IsGuarded}
use Rattle.resource_locks.specs.Plans.{PlanParts}
use Rattle.event_history.specs.History.{IsLegal}
use Rattle.event_history.proofs.Apart.{apart}
use Rattle.job_times.specs.Timings.{Times, times_asked}
use Rattle.run_results.specs.Results.{tests_found, has_failed}
use Rattle.run_results.specs.SummaryTexts.{summary_of}
use Rattle.junit_report.specs.Expectations.{IsPrintedAsExpected}
use Rattle.junit_report.proofs.PrintedAsExpected.{printed_as_expected}
use Rattle.scheduling.proofs.OnlyHistory.{only_history, as_expected}
use Rattle.sched_core.specs.Replies.{reply_of, replies_of as replies_by}
use Rattle.table_rule.specs.Picture.{replies_in, replies_of}
use Rattle.table_rule.specs.Slots.{slot_count}
use Rattle.table_rule.proofs.ThatCount.{counted_among}
use Rattle.table_rule.proofs.MoreReplies.{wide_legal, wide_text}
use Rattle.worker_pool.specs.Reports.{run_of, AreTexts, IsReport, IsRefusedRun}
use Rattle.worker_pool.specs.declared.report.RunCause.{RunCause}
use Rattle.worker_pool.specs.declared.report.RunCause.TheVariants.{Table, NoWorker}
use Rattle.table_contents.specs.Prepared.{HasAllJobs, IsRightRing}
use Rattle.table_contents.specs.declared.fault.TableFault.TheVariants.{NoMemory, NoWorkers, TooManyWorkers, BadRing, JobsMissing}
use Rattle.launch_options.specs.declared.details.Details.{Details}
use Rattle.launch_options.specs.declared.details.Details.TheVariants as details
use Rattle.run_outputs.specs.declared.exit_status.ExitStatus.{ExitStatus}
use Rattle.ready_runs.specs.declared.scripted.ScriptedJob.{ScriptedJob}
use Rattle.launch_options.specs.Asked.{Asked}
use Rattle.run_outputs.specs.ExitStatuses.{status_of_run}
use Rattle.run_outputs.specs.Outputs.{details_of, expected_details, IsExpectedOutput}
use Rattle.run_outputs.specs.ScheduleLines.{IsBehindDetails}
use Rattle.launch_options.specs.declared.fault.LaunchFault.{LaunchFault}
use Rattle.launcher.specs.Launches.{IsPrintedTo, LacksAll}
use Rattle.launcher.specs.Programs.{IsPrintedOf}
use Rattle.launcher.specs.Reports.{IsHistory, IsPrintedRun}
use Rattle.ready_runs.specs.Scripted.{replies_left, AreScripted}
use Rattle.run_outputs.specs.WarningTexts.{head_of}
use Rattle.run_outputs.specs.ScheduleTexts.{schedule_line}
use Rattle.launcher.proofs.BrokenOff.{answered_as}
use Rattle.launcher.proofs.Scripting.{legal_as_said, text_as_said}

-- what the threads report of the suite's jobs is a history of what the suite says
pub history_of : (p : PlanParts) → IsTree p.tree → IsGuarded (declared_of p.tree) p → (answers : List (ℕ × Reply)) (jobs : List (ℕ × ScriptedJob)) → AreScripted p answers (slot_count p) jobs → (workers ring : ℕ) (history : List Event)
    → IsReport (run_of p workers ring jobs) (replies_of replies_left (run_of p workers ring jobs)) history → IsHistory workers p answers history
history_of p tree safe answers jobs are workers ring history report =
    let run = run_of p workers ring jobs in
    let given : IsLegal p (replies_in replies_left jobs) workers history = wide_legal (replies_of replies_left run) (replies_in replies_left jobs) (counted_among replies_left run) p workers history report.legal in
    let legal : IsLegal p (replies_by answers) workers history = legal_as_said p tree answers jobs are workers history given in
    record {
      legal = legal;
      order = report.order;
      exclusive = report.exclusive;
      within = report.within;
      apart = apart p tree (replies_by answers) workers history safe legal report.order report.exclusive;
      complete = report.complete;
      ends = report.ends;
      only = λ one same h other order complete.
          only_history p tree (reply_of answers) (replies_by answers) (λ job. refl) same h history other order complete (subst (λ (w : ℕ). IsLegal p (replies_by answers) w history) one legal) report.order report.complete;
      as_expected = λ calm. as_expected p tree (reply_of answers) (replies_by answers) (λ job. refl) calm workers history legal report.complete;
    }

-- the history, with the texts of its nodes
pub record IsTold (workers : ℕ) (p : PlanParts) (answers : List (ℕ × Reply)) (history : List Event) (texts : TextParts) : Type 0 where
  pub tree : IsTree p.tree
  pub published : IsHistory workers p answers history
  pub are : AreTexts p (replies_by answers) history texts

-- and the texts that they report are those that the suite says
pub told_of : (p : PlanParts) → IsTree p.tree → IsGuarded (declared_of p.tree) p → (answers : List (ℕ × Reply)) (jobs : List (ℕ × ScriptedJob)) → AreScripted p answers (slot_count p) jobs → (workers ring : ℕ) (history : List Event) (texts : TextParts)
    → IsReport (run_of p workers ring jobs) (replies_of replies_left (run_of p workers ring jobs)) history → AreTexts p (replies_of replies_left (run_of p workers ring jobs)) history texts
    → IsTold workers p answers history texts
told_of p tree safe answers jobs are workers ring history texts report told =
    let run = run_of p workers ring jobs in
    let given : AreTexts p (replies_in replies_left jobs) history texts = λ n low. wide_text (replies_of replies_left run) (replies_in replies_left jobs) (counted_among replies_left run) p history n (text_at texts n) (told n low) in
    record {
      tree = tree;
      published = history_of p tree safe answers jobs are workers ring history report;
      are = λ n low. text_as_said p tree answers jobs are history n (text_at texts n) (given n low);
    }

-- a ring that is right is none that is refused
not_right : (ring : ℕ) → IsRightRing ring → (ring ≡ 0) ⊎ (16384 < ring) → ⊥
not_right ring right (inl none) = omega (arith, right.0, none)
not_right ring right (inr many) = omega (arith, right.1, many)

-- with as many workers and as long a ring as there may be, and all its jobs, a run is refused for want of memory or of threads alone
pub unrun : {B : Type 0} (p : PlanParts) (workers ring : ℕ) (jobs : List (ℕ × B)) (cause : RunCause) → IsRefusedRun p workers ring jobs cause → 1 ≤ workers → workers ≤ 64 → IsRightRing ring → HasAllJobs p jobs → (cause ≡ Table NoMemory) ⊎ (cause ≡ NoWorker)
unrun p workers ring jobs (Table NoMemory) is some few right all = inl refl
unrun p workers ring jobs (Table NoWorkers) is some few right all = absurd (omega (arith, is, some))
unrun p workers ring jobs (Table TooManyWorkers) is some few right all = absurd (omega (arith, is, few))
unrun p workers ring jobs (Table BadRing) is some few right all = absurd (not_right ring right is.1)
unrun p workers ring jobs (Table (JobsMissing number)) is some few right all = absurd (all number is.2.missing)
unrun p workers ring jobs NoWorker is some few right all = inr refl

-- what is printed of a history by which all is as it is expected to be
module _ (asked : Asked) (settings : Settings) (p : PlanParts) (reply : ℕ → Reply) (history : List Event) (texts : TextParts) (is : IsPrintedAsExpected p reply history texts) (times : Times) where
  expected_text : (kind : Details) (asks : Bool) (text : List ℕ) → expected_details kind asks asked.theme p.tree reply ≡ Some text → details_of kind asked.theme p texts (times_asked asks times) history ≡ text
  expected_text details.None asks text so = same_Some _ _ so
  expected_text details.Summary asks text so = ap summary_of is.counts ∙ same_Some _ _ so
  expected_text details.Tree asks text so = ap₂ (λ a b. a ++ b) (is.tree asked.theme) (ap summary_of is.counts) ∙ same_Some _ _ so
  expected_text details.Testfeed asks text so = absurd (none-some text so)
  expected_text details.Json asks text so = absurd (none-some text so)
  expected_text details.Xml true text so = absurd (none-some text so)
  expected_text details.Xml false text so = is.xml ∙ same_Some _ _ so
  expected_text details.List asks text so = absurd (none-some text so)
  expected_text details.Plan asks text so = absurd (none-some text so)

  pub expected_output : (behind text : List ℕ) (status : ExitStatus) → text ≡ head_of asked.details settings.warnings ++ (details_of asked.details asked.theme p texts (times_asked asked.times times) history ++ behind)
      → status ≡ status_of_run asked.fail_if_no_tests (tests_found p history) (has_failed p history) → IsExpectedOutput asked settings p.tree reply behind text status
  expected_output behind text status printed exits = record {
    printed = λ shown so. printed ∙ ap (λ (xs : List ℕ). head_of asked.details settings.warnings ++ (xs ++ behind)) (expected_text asked.details asked.times shown so);
    exits = exits ∙ ap₂ (λ (tests : ℕ) (failed : Bool). status_of_run asked.fail_if_no_tests tests failed) is.tests is.failure;
  }

-- it is, where the plan does not fail fast
printed_so : (workers : ℕ) (p : PlanParts) (answers : List (ℕ × Reply)) (history : List Event) (texts : TextParts) → IsTold workers p answers history texts → p.fail_fast ≡ false → IsPrintedAsExpected p (reply_of answers) history texts
printed_so workers p answers history texts told calm = printed_as_expected p told.tree (reply_of answers) (replies_by answers) (λ job. refl) calm workers history told.published.legal told.published.complete texts told.are

-- this is what is printed of it
pub printed_run : (schedule text : List ℕ) (status : ExitStatus) (asked : Asked) (settings : Settings) (p : PlanParts) (answers : List (ℕ × Reply)) (history : List Event) (texts : TextParts) → IsTold settings.workers p answers history texts
    → (times : Times)
    → IsBehindDetails asked.details asked.schedule settings.workers p answers history schedule → text ≡ head_of asked.details settings.warnings ++ (details_of asked.details asked.theme p texts (times_asked asked.times times) history ++ schedule)
    → status ≡ status_of_run asked.fail_if_no_tests (tests_found p history) (has_failed p history) → IsPrintedRun asked settings p answers history texts times text status
printed_run schedule text status asked settings p answers history texts told times behind printed exits = record {
  published = told.published;
  are = told.are;
  schedule = schedule;
  behind_details = behind;
  printed = printed;
  exits = exits;
  as_expected = λ calm. expected_output asked settings p (reply_of answers) history texts (printed_so settings.workers p answers history texts told calm) times schedule text status printed exits;
}

-- where there is no memory for a schedule, the line that says so would have been printed
pub schedule_behind : (kind : Details) (asked : Bool) (workers : ℕ) (p : PlanParts) (answers : List (ℕ × Reply)) (history : List Event) → (schedule : List ℕ) × IsBehindDetails kind asked workers p answers history schedule
schedule_behind kind false workers p answers history = ([], refl)
schedule_behind kind true workers p answers history = (schedule_line kind None, record { found = None; schedule = tt; namable = tt; printed = refl })

-- what is printed of the parts of a run is what is printed of a run of what the suite says
pub printed_as : (asked : Asked) (settings : Settings) (p : PlanParts) (answers : List (ℕ × Reply)) (history : List Event) (texts : TextParts) (times : Times) → IsTold settings.workers p answers history texts → (text : List ℕ) (status : ExitStatus) → IsPrintedOf (Some answers) asked settings p history texts times text status
    → IsPrintedRun asked settings p answers history texts times text status
printed_as asked settings p answers history texts times told text status out = printed_run out.behind text status asked settings p answers history texts told times out.is_behind out.printed out.exits

pub printed_to : (asked : Asked) (settings : Settings) (p : PlanParts) (answers : List (ℕ × Reply)) (history : List Event) (texts : TextParts) (times : Times) → IsTold settings.workers p answers history texts → (old new : Option (List ℕ)) (answer : Result ExitStatus LaunchFault)
    → IsPrintedTo asked (IsPrintedOf (Some answers) asked settings p history texts times) old new answer → IsPrintedTo asked (IsPrintedRun asked settings p answers history texts times) old new answer
printed_to asked settings p answers history texts times told old new answer is =
    answered_as asked (IsPrintedOf (Some answers) asked settings p history texts times) (IsPrintedRun asked settings p answers history texts times) (LacksAll old new) (LacksAll old new) (printed_as asked settings p answers history texts times told) (λ fault lacks. lacks) old new answer is
