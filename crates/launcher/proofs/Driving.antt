-- What is printed of a run by the fixed schedule, and what was seen of it.
use Rattle.std.proofs.Common.{◌≡◌, ◌∙◌, ℕ, ◌+◌, ◌<◌, ◌≤◌, Bool, true, List, [], ◌∷◌, ◌++◌, length, take, get_or, Option, Some, None, Result, refl, sym, ap, subst, append_assoc}
use Rattle.std.specs.Option.{is_some}
use Rattle.std.proofs.lemmas.Bool.{false≢true}
use Rattle.std.proofs.lemmas.List.{map-append, take_more, take_all}
use Rattle.config_params.specs.declared.settings.Settings.{Settings}
use Rattle.descriptor.specs.Nodes.{IsTree}
use Rattle.plan_events.specs.declared.event.Event.{Event}
use Rattle.plan_events.specs.declared.outcome.Reply.{Reply}
use Rattle.plan_events.specs.Texts.{TextParts}
use Rattle.resource_locks.specs.Declarations.{declared_of}
use Rattle.resource_locks.specs.Hoisted.{IsGuarded}
use Rattle.resource_locks.specs.Plans.{PlanParts}
use Rattle.resource_locks.specs.Spares.{HasFreeSpares}
use Rattle.event_history.specs.History.{IsLegal}
use Rattle.scheduling.proofs.OnlyHistory.{only_history}
use Rattle.sched_core.specs.InTurns.{IsScheduled}
use Rattle.sched_core.specs.Replies.{reply_of, replies_of}
use Rattle.sched_core.specs.Rounds.{EndsWhole}
use Rattle.sched_core.specs.Traces.{IsRightTrace, KeepsApart, HasExpected}
use Rattle.sched_core.specs.declared.trace.Trace.{Trace}
use Rattle.listeners.specs.Listeners.{Telling, telling, tellings_of}
use Rattle.listeners.proofs.Stepping.{nothing_more}
use Rattle.listeners.specs.Observing.{HasSeenMore}
use Rattle.job_times.specs.Timings.{Times}
use Rattle.launch_options.specs.Asked.{Asked}
use Rattle.launch_options.specs.declared.fault.LaunchFault.{LaunchFault}
use Rattle.run_outputs.specs.declared.exit_status.ExitStatus.{ExitStatus}
use Rattle.worker_pool.specs.Reports.{AreTexts}
use Rattle.worker_pool.specs.declared.report.Report.{Report}
use Rattle.launcher.specs.Launches.{IsPrintedTo}
use Rattle.launcher.specs.Programs.{IsPrintedOf}
use Rattle.launcher.specs.Reports.{IsHistory}
use Rattle.launcher.specs.SuiteLaunches.{ComesAbout, IsSuiteRunOver}
use Rattle.launcher.proofs.Reporting.{printed_to}

-- the fixed schedule of a plan in which no spare holds a key leaves a history of the plan
pub driven_history : (p : PlanParts) → IsTree p.tree → IsGuarded (declared_of p.tree) p → HasFreeSpares p → (answers : List (ℕ × Reply)) (workers : ℕ) (t : Trace) → IsRightTrace p answers workers t → EndsWhole p t → KeepsApart p t → HasExpected p answers t
    → IsHistory workers p answers t.published.items
driven_history p tree safe free answers workers t right ends apart expected =
    let whole = ends free in
    record {
      legal = right.legal;
      order = right.order;
      exclusive = right.exclusive;
      within = right.within;
      apart = apart safe;
      complete = whole.complete;
      ends = whole.ends;
      only = λ one same h other order complete.
          only_history p tree (reply_of answers) (replies_of answers) (λ job. refl) same h t.published.items other order complete (subst (λ (w : ℕ). IsLegal p (replies_of answers) w t.published.items) one right.legal) right.order whole.complete;
      as_expected = λ calm. expected calm whole.complete;
    }

module _ {L : Type 0} (saw : PlanParts → L → L → List Telling → Type 0) (p : PlanParts) (texts : TextParts) (events : List Event) where
  -- who is as it was has seen none of the events
  pub seen_none : (one : L) → HasSeenMore saw p (tellings_of texts (take 0 events)) one one
  seen_none one who = nothing_more (saw p who) one

  -- who has seen the first i events, and then the next, has seen so many more
  pub seen_more : (i : ℕ) (e : Event) (first old new : L) → i < length events → e ≡ get_or events i e → HasSeenMore saw p (tellings_of texts (take i events)) first old → HasSeenMore saw p (telling texts e ∷ []) old new
      → HasSeenMore saw p (tellings_of texts (take (i + 1) events)) first new
  seen_more i e first old new inside here before one who seen h =
      let front : List Telling = tellings_of texts (take i events) in
      let joined : front ++ telling texts e ∷ [] ≡ tellings_of texts (take (i + 1) events) =
      sym (map-append (telling texts) (take i events) (e ∷ [])) ∙ ap (tellings_of texts) (ap (λ (x : Event). take i events ++ x ∷ []) here ∙ sym (take_more events i e inside)) in
      subst (saw p who new) (append_assoc seen front (telling texts e ∷ []) ∙ ap (λ (ts : List Telling). seen ++ ts) joined) (one who (seen ++ front) (before who seen h))

  -- and at the end all
  pub seen_all : (i : ℕ) (first now : L) → length events ≤ i → HasSeenMore saw p (tellings_of texts (take i events)) first now → HasSeenMore saw p (tellings_of texts events) first now
  seen_all i first now past = subst (λ (es : List Event). HasSeenMore saw p (tellings_of texts es) first now) (take_all i events past)

-- by the fixed schedule a history comes about where that is asked for
comes_driven : (drive : Option ℕ) → is_some drive ≡ true → (workers : ℕ) (p : PlanParts) (answers : List (ℕ × Reply)) (history : List Event) → (trace : Trace) × IsScheduled p answers workers trace × (history ≡ trace.published.items) → ComesAbout drive workers p answers history
comes_driven None is workers p answers history scheduled = absurd (false≢true is)
comes_driven (Some driven) is workers p answers history scheduled = λ free. scheduled

-- what was printed of a run by the fixed schedule is printed of a run of what the suite says
pub driven_over : {B : Type 0} (asked : Asked) (times : Times) (old new : Option (List ℕ)) (settings : Settings) (p : PlanParts) (answers : List (ℕ × Reply)) (ran : Report B) (answer : Result ExitStatus LaunchFault) → ran.plan ≡ p → IsTree p.tree → IsHistory settings.workers p answers ran.events.items → AreTexts p (replies_of answers) ran.events.items ran.texts
    → is_some asked.drive ≡ true → (trace : Trace) × IsScheduled p answers settings.workers trace × (ran.events.items ≡ trace.published.items) → IsPrintedTo asked (IsPrintedOf (Some answers) asked settings p ran.events.items ran.texts times) old new answer → IsSuiteRunOver asked times old new settings p answers ran answer
driven_over asked times old new settings p answers ran answer plan tree history texts driven scheduled printed = record {
  plan = plan;
  published = history;
  are = texts;
  comes = comes_driven asked.drive driven settings.workers p answers ran.events.items scheduled;
  printed = printed_to asked settings p answers ran.events.items ran.texts times (record { tree = tree; published = history; are = texts }) old new answer printed;
}
