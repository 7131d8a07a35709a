-- What is printed of a run of a program's jobs.
use Rattle.std.proofs.Common.{◌≡◌, ◌∙◌, ℕ, Bool, true, false, List, [], ◌++◌, Option, Some, None, slice_get, refl, sym, ap, subst}
use Rattle.config_params.specs.declared.settings.Settings.{Settings}
use Rattle.descriptor.specs.Nodes.{IsTree}
use Rattle.plan_events.specs.declared.event.Event.{Event}
use Rattle.plan_events.specs.declared.outcome.Outcome.{Outcome}
use Rattle.plan_events.specs.declared.outcome.Reply.{Reply}
use Rattle.plan_events.specs.Texts.{TextParts, text_at}
use Rattle.resource_locks.specs.Declarations.{declared_of}
use Rattle.resource_locks.specs.Hoisted.{IsGuarded}
use Rattle.resource_locks.specs.Plans.{PlanParts}
use Rattle.event_history.specs.History.{IsLegal}
use Rattle.event_history.proofs.Apart.{apart}
use Rattle.job_times.specs.Timings.{Times}
use Rattle.junit_report.specs.Expectations.{IsPrintedAsExpected}
use Rattle.junit_report.proofs.PrintedAsExpected.{printed_as_expected}
use Rattle.scheduling.proofs.OnlyHistory.{only_history, as_expected}
use Rattle.run_table.specs.Balance.{IsBalanced, IsUsed}
use Rattle.table_rule.specs.Picture.{AreAmong, given_by, replies_of}
use Rattle.table_rule.specs.Reached.{Agrees}
use Rattle.table_rule.proofs.MoreReplies.{wide_legal, wide_text}
use Rattle.worker_pool.specs.Reports.{run_of, AreTexts, IsReport, IsToldAsSaid}
use Rattle.schedules.proofs.Agreeing.{agreeing}
use Rattle.launch_options.specs.Asked.{Asked}
use Rattle.run_outputs.specs.declared.exit_status.ExitStatus.{ExitStatus}
use Rattle.launcher.specs.Programs.{one_each, HasRun, IsHistoryBy, IsPrintedOf}
use Rattle.run_outputs.specs.ScheduleLines.{IsBehindRun}
use Rattle.launch_options.specs.declared.details.Details.{Details}
use Rattle.run_outputs.specs.ScheduleTexts.{schedule_line}
use Rattle.launcher.proofs.Reporting.{schedule_behind}

module _ {B : Type 0} (answers : B → List Reply) (gives : B → Reply → Type 0) (says : B → Outcome → Type 0) (workers ring : ℕ) (p : PlanParts) (tree : IsTree p.tree) (safe : IsGuarded (declared_of p.tree) p) (jobs : List (ℕ × B)) (history : List Event) (texts : TextParts) (report : IsReport (run_of p workers ring jobs) (replies_of answers (run_of p workers ring jobs)) history)
    (may_say : AreTexts p (replies_of answers (run_of p workers ring jobs)) history texts) (used : List (ℕ × B))
    (said : IsToldAsSaid says (given_by gives (run_of p workers ring jobs)) (replies_of answers (run_of p workers ring jobs)) p workers history texts used) where
  abbrev told : ℕ → List Reply
  told = said.is.ran.told

  -- the reply of each job: what it told, if it told anything
  answer : (reply : ℕ → Reply) × Agrees told reply
  answer = agreeing told said.is.ran.once

  abbrev answered : ℕ → Reply
  answered = answer.0

  told_among : AreAmong told (one_each answered)
  told_among number i reply at = (0, ap Some (answer.1 number i reply at))

  -- a job that was used has told one that it may give
  answered_so : (number : ℕ) → IsUsed p history number → (place : ℕ) × (slice_get (replies_of answers (run_of p workers ring jobs) number) place ≡ Some (answered number))
  answered_so number is =
      let back = said.each number is in
      let reply = said.says_so back.0 number back.1 back.2 in
      let at : slice_get (told number) 0 ≡ Some reply.0 = ap (λ (l : List Reply). slice_get l 0) reply.1 in
      let may = said.is.ran.among number 0 reply.0 at in
      (may.0, may.1 ∙ ap Some (sym (answer.1 number 0 reply.0 at)))

  are : AreTexts p (one_each answered) history texts
  are n low = wide_text told (one_each answered) told_among p history n (text_at texts n) (said.is.texts_are n low)

  published : IsHistoryBy workers p answered history
  published =
      let legal = wide_legal told (one_each answered) told_among p workers history said.is.legal in
      record {
        legal = legal;
        order = report.order;
        exclusive = report.exclusive;
        within = report.within;
        apart = apart p tree (one_each answered) workers history safe legal report.order report.exclusive;
        complete = report.complete;
        ends = report.ends;
        only = λ one same h other order complete.
            only_history p tree answered (one_each answered) (λ job. refl) same h history other order complete (subst (λ (w : ℕ). IsLegal p (one_each answered) w history) one legal) report.order report.complete;
        as_expected = λ calm. as_expected p tree answered (one_each answered) (λ job. refl) calm workers history legal report.complete;
      }

  printed_so : p.fail_fast ≡ false → IsPrintedAsExpected p answered history texts
  printed_so calm = printed_as_expected p tree answered (one_each answered) (λ job. refl) calm workers history published.legal published.complete texts are

  -- this is known of it
  pub has_run : (left : List (ℕ × B)) → IsBalanced p jobs history left → HasRun answers gives workers ring p jobs history texts left
  has_run left balanced = record {
    may_be = report.legal;
    may_say = may_say;
    gave = said.is;
    reply = answered;
    agrees = answer.1;
    given = answered_so;
    published = published;
    are = are;
    as_expected = printed_so;
    balanced = balanced;
  }

-- what is printed of a run of one plan, with these times, is what is printed of a run of the same, with the same
pub moved_print : {p q : PlanParts} {t u : Times} {known : Option (List (ℕ × Reply))} {asked : Asked} {settings : Settings} {history : List Event} {texts : TextParts} {text : List ℕ} {status : ExitStatus} → p ≡ q → t ≡ u → IsPrintedOf known asked settings p history texts t text status → IsPrintedOf known asked settings q history texts u text status
moved_print {p} {q} {t} {u} {known} {asked} {settings} {history} {texts} {text} {status} same also is = subst (λ (r : PlanParts). IsPrintedOf known asked settings r history texts u text status) same (subst (λ (v : Times). IsPrintedOf known asked settings p history texts v text status) also is)

-- where there is no memory for a schedule, the line that says so would have been printed
pub some_line : (known : Option (List (ℕ × Reply))) (kind : Details) (asks : Bool) (workers : ℕ) (p : PlanParts) (history : List Event) (texts : TextParts) → (behind : List ℕ) × IsBehindRun kind asks workers p known history texts behind
some_line (Some replies) kind asks workers p history texts = schedule_behind kind asks workers p replies history
some_line None kind false workers p history texts = ([], refl)
some_line None kind true workers p history texts = (schedule_line kind None, record { told = []; line = record { found = None; schedule = tt; namable = tt; printed = refl }; explains = tt })
