-- The replies that were read off the run are those of its schedule.
use Rattle.std.proofs.Common.{◌≡◌, ℕ, Bool, true, false, List, Option, Result, Ok, Err, IfOk, IfSome, String, Global, string_bytes, arith, sym}
use Rattle.std.proofs.lemmas.Bool.{true≢false}
use Rattle.std.proofs.lemmas.Grind.{common_steps}
use Rattle.plan_events.specs.declared.event.Event.{Event}
use Rattle.plan_events.specs.declared.outcome.Reply.{Reply}
use Rattle.plan_events.specs.Texts.{TextParts}
use Rattle.resource_locks.specs.Plans.{PlanParts}
use Rattle.scheduling.specs.declared.step.Step.{Step}
use Rattle.schedules.specs.Schedules.{IsSchedule}
use Rattle.step_text.specs.StepSpelling.{AreNamable}
use Rattle.launch_options.specs.declared.details.Details.{Details}
use Rattle.run_outputs.specs.ScheduleLines.{HasTextsBy, IsBehindJobs}
use Rattle.run_outputs.specs.ScheduleTexts.{schedule_line}
use Rattle.run_outputs.proofs.schedule_line.behind_jobs.Goals as goal

behind_told : {E : Type 0} (kind : Details) (asks : Bool) (workers : ℕ) (p : PlanParts) (told : List (ℕ × Reply)) (history : List Event) (texts : TextParts) (found : Option (List Step)) (result : Result (String Global) E) → asks ≡ true → IfSome found (IsSchedule p told workers history)
    → IfSome found AreNamable → IfSome found (λ _. HasTextsBy p told history texts) → IfOk result (λ line. string_bytes line ≡ schedule_line kind found) → IfOk result (λ line. IsBehindJobs kind asks workers p history texts (string_bytes line))
behind_told kind true workers p told history texts found (Ok line) asked schedule namable explains printed = record {
  told = told;
  line = record { found = found; schedule = schedule; namable = namable; printed = printed };
  explains = explains;
}
behind_told kind true workers p told history texts found (Err fault) asked schedule namable explains printed = tt
behind_told kind false workers p told history texts found result asked schedule namable explains printed = absurd (true≢false (sym asked))

pub returns : goal.returns
returns c =
    let asked : c.args.asked ≡ true = grind (arith, common_steps) in
    behind_told c.args.details c.args.asked c.args.workers c.args.plan.now _ c.args.history.now c.args.texts.now _ c.schedule_line.result asked c.in_ok-found.ensures.schedule c.in_ok-found.ensures.namable c.in_ok-found.ensures.texts c.schedule_line.ensures
