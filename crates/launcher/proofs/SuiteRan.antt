-- A run of a suite's jobs is a run of what the suite says.
use Rattle.std.proofs.Common.{◌≡◌, ◌≤◌, ◌∙◌, ℕ, true, List, Option, Some, None, Result, refl, sym, subst}
use Rattle.std.specs.Option.{is_some}
use Rattle.config_params.specs.declared.settings.Settings.{Settings}
use Rattle.descriptor.specs.Nodes.{IsTree}
use Rattle.plan_events.specs.declared.event.Event.{Event}
use Rattle.plan_events.specs.declared.outcome.Outcome.{Outcome}
use Rattle.plan_events.specs.declared.outcome.Reply.{Reply}
use Rattle.plan_events.specs.Texts.{TextParts}
use Rattle.resource_locks.specs.Declarations.{declared_of}
use Rattle.resource_locks.specs.Hoisted.{IsGuarded}
use Rattle.resource_locks.specs.Plans.{PlanParts, IsPlan}
use Rattle.resource_locks.specs.Spares.{HasFreeSpares}
use Rattle.job_times.specs.Timings.{Times}
use Rattle.table_rule.specs.Picture.{replies_of}
use Rattle.table_rule.specs.Slots.{slot_count}
use Rattle.sched_core.specs.Replies.{replies_of as replies_by}
use Rattle.listeners.specs.Listeners.{Telling, tellings_of}
use Rattle.listeners.specs.Observing.{HasSeenMore}
use Rattle.worker_pool.specs.Reports.{run_of, AreTexts, IsReport}
use Rattle.worker_pool.specs.declared.report.Report.{Report}
use Rattle.schedules.specs.Replays.{HasSchedule}
use Rattle.schedules.proofs.Scheduled.{scheduled}
use Rattle.launch_options.specs.Asked.{Asked}
use Rattle.launch_options.specs.declared.fault.LaunchFault.{LaunchFault}
use Rattle.run_outputs.specs.declared.exit_status.ExitStatus.{ExitStatus}
use Rattle.ready_runs.specs.declared.scripted.ScriptedJob.{ScriptedJob}
use Rattle.ready_runs.specs.Scripted.{gives_left, replies_left, AreScripted}
use Rattle.launcher.specs.Launches.{IsLaunched, IsPrintedTo, IsRunOver, IsUnbegun, Sees}
use Rattle.launcher.specs.Reports.{IsHistory, IsPrintedRun}
use Rattle.launcher.specs.Programs.{HasRun}
use Rattle.launcher.specs.SuiteLaunches.{ComesAbout, IsSameRun, IsSuiteRunOver, RunsSuite}
use Rattle.launcher.proofs.Reporting.{IsTold, printed_to, told_of}
use Rattle.launcher.proofs.Scripting.{told_as_said}

-- a history that has a schedule comes about by that, where no fixed schedule is asked for that the plan has
comes_by_steps : (drive : Option ℕ) (workers : ℕ) (p : PlanParts) (answers : List (ℕ × Reply)) (history : List Event) → (is_some drive ≡ true → HasFreeSpares p → ⊥) → HasSchedule p answers workers history → ComesAbout drive workers p answers history
comes_by_steps None workers p answers history never has = has
comes_by_steps (Some driven) workers p answers history never has = λ free. absurd (never refl free)

module _ (asked : Asked) (settings : Settings) (p : PlanParts) (tree : IsTree p.tree) (safe : IsGuarded (declared_of p.tree) p) (answers : List (ℕ × Reply)) (jobs : List (ℕ × ScriptedJob)) (are : AreScripted p answers (slot_count p) jobs) where
  -- a run of a suite's jobs that is over is a run of what the suite says
  pub of_run : (history : List Event) (texts : TextParts) (left : List (ℕ × ScriptedJob)) → HasRun replies_left gives_left settings.workers asked.ring p jobs history texts left → IsTold settings.workers p answers history texts
  of_run history texts left ran =
      let report : IsReport (run_of p settings.workers asked.ring jobs) (replies_of replies_left (run_of p settings.workers asked.ring jobs)) history = record { legal = ran.may_be; order = ran.published.order; exclusive = ran.published.exclusive; within = ran.published.within; complete = ran.published.complete; ends = ran.published.ends } in
      told_of p tree safe answers jobs are settings.workers asked.ring history texts report ran.may_say

  -- and its history has a schedule: steps that are the core's, with the replies that the suite says, lead to just that
  pub run_scheduled : IsPlan p → settings.workers ≤ 64 → (history : List Event) (texts : TextParts) (left : List (ℕ × ScriptedJob)) → HasRun replies_left gives_left settings.workers asked.ring p jobs history texts left → HasSchedule p answers settings.workers history
  run_scheduled plan few history texts left ran =
      let as_given = ran.gave.ran in
      scheduled p answers plan settings.workers few as_given.told history as_given.once as_given.of_core (told_as_said p tree answers jobs are settings.workers asked.ring as_given.told as_given.among)

  module _ (plan : IsPlan p) (few : settings.workers ≤ 64) (never : is_some asked.drive ≡ true → HasFreeSpares p → ⊥) (says : ScriptedJob → Outcome → Type 0) (times : Times) (old new : Option (List ℕ)) where
    suite_over : (ran : Report ScriptedJob) (answer : Result ExitStatus LaunchFault) → IsRunOver replies_left gives_left says (Some answers) times asked settings p jobs old new ran answer → IsSuiteRunOver asked times old new settings p answers ran answer
    suite_over ran answer over =
        let told = of_run ran.events.items ran.texts ran.unused_jobs.items over.has in
        record {
          plan = over.plan;
          published = told.published;
          are = told.are;
          comes = comes_by_steps asked.drive settings.workers p answers ran.events.items never (run_scheduled plan few ran.events.items ran.texts ran.unused_jobs.items over.has);
          printed = printed_to asked settings p answers ran.events.items ran.texts times told old new answer over.printed;
        }

    -- so a launch of its jobs is one of the suite's plan
    pub suite_launched : (ran : Option (Report ScriptedJob)) (answer : Result ExitStatus LaunchFault) → IsLaunched replies_left gives_left says (Some answers) times asked settings p jobs old new ran answer → RunsSuite asked times old new settings p answers ran answer
    suite_launched (Some ran) answer is = suite_over ran answer is
    suite_launched None answer is = is

-- of the same run the same holds
pub same_runs : {B C : Type 0} (asked : Asked) (times : Times) (old new : Option (List ℕ)) (settings : Settings) (p : PlanParts) (answers : List (ℕ × Reply)) (ran : Option (Report B)) (other : Option (Report C)) (answer given : Result ExitStatus LaunchFault) → IsSameRun ran other → given ≡ answer → RunsSuite asked times old new settings p answers ran answer
    → RunsSuite asked times old new settings p answers other given
same_runs asked times old new settings p answers (Some a) (Some b) answer given is same over =
    subst (λ (r : Result ExitStatus LaunchFault). IsSuiteRunOver asked times old new settings p answers b r) (sym same) (record {
      plan = is.0 ∙ over.plan;
      published = subst (λ (h : List Event). IsHistory settings.workers p answers h) (sym is.1) over.published;
      are = subst (λ (t : TextParts). AreTexts p (replies_by answers) b.events.items t) (sym is.2) (subst (λ (h : List Event). AreTexts p (replies_by answers) h a.texts) (sym is.1) over.are);
      comes = subst (λ (h : List Event). ComesAbout asked.drive settings.workers p answers h) (sym is.1) over.comes;
      printed = subst (λ (t : TextParts). IsPrintedTo asked (IsPrintedRun asked settings p answers b.events.items t times) old new answer) (sym is.2) (subst (λ (h : List Event). IsPrintedTo asked (IsPrintedRun asked settings p answers h a.texts times) old new answer) (sym is.1) over.printed);
    })
same_runs asked times old new settings p answers (Some a) None answer given is same over = absurd is
same_runs asked times old new settings p answers None (Some b) answer given is same over = absurd is
same_runs asked times old new settings p answers None None answer given is same over = subst (λ (r : Result ExitStatus LaunchFault). IsUnbegun old new r) (sym same) over

pub same_sees : {B C V : Type 0} (saw : PlanParts → V → V → List Telling → Type 0) (first now : V) (ran : Option (Report B)) (other : Option (Report C)) → IsSameRun ran other → Sees saw first now ran → Sees saw first now other
same_sees saw first now (Some a) (Some b) is sees =
    subst (λ (p : PlanParts). HasSeenMore saw p (tellings_of b.texts b.events.items) first now) (sym is.0) (subst (λ (t : TextParts). HasSeenMore saw a.plan (tellings_of t b.events.items) first now) (sym is.2) (subst (λ (h : List Event). HasSeenMore saw a.plan (tellings_of a.texts h) first now) (sym is.1) sees))
same_sees saw first now (Some a) None is sees = absurd is
same_sees saw first now None (Some b) is sees = absurd is
same_sees saw first now None None is sees = sees
