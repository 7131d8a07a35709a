-- The steps of the schedule of one worker, as a list: none is passed over, and each leaves less to do.
use Rattle.std.proofs.Common.{◌≡◌, ◌∙◌, ℕ, List, Some, slice_get, refl, sym, ap, subst, arith}
use Rattle.std.proofs.lemmas.Option.{same_Some}
use Rattle.plan_events.specs.declared.outcome.Reply.{Reply}
use Rattle.resource_locks.specs.Plans.{PlanParts, IsPlan}
use Rattle.scheduling.specs.declared.seat.Seat.{Seat}
use Rattle.scheduling.specs.declared.step.Action.{Action}
use Rattle.scheduling.specs.declared.step.Step.TheVariants.{Worker}
use Rattle.scheduling.specs.Rows.{Works, after, decided_seat}
use Rattle.scheduling.specs.Schedule.{IsNext, finished, reads, works}
use Rattle.scheduling.specs.State.{State}
use Rattle.scheduling.proofs.DecidedInPlace.{after_direct}
use Rattle.scheduling.proofs.Going.{going_read}
use Rattle.scheduling.proofs.Headline.{core_plan}
use Rattle.sched_core.specs.Drives.{Drives, IsOnSchedule}
use Rattle.sched_core.specs.Inside.Rounds.{Leads}
use Rattle.sched_core.specs.Replies.{reply_of, replies_of}
use Rattle.sched_core.specs.Steps.{reply_awaited, reply_for, after_step}
use Rattle.sched_core.proofs.Progress.{goes_on}
use Rattle.sched_core.proofs.Serving.{leads_here, leads_one, leads_then, read_leads}
use Rattle.sched_core.proofs.Sound.{work_is}

module _ (p : PlanParts) (plan : IsPlan p) (answers : List (ℕ × Reply)) where
  work_leads : (s t : State) → IsOnSchedule p answers s → (seat : Seat) (a : Action) → slice_get s.seats 0 ≡ Some seat → IsNext p s (decided_seat p (reply_for p answers seat) seat) (reply_for p answers seat) a
      → after p s (Works 0 a (reply_for p answers seat)) ≡ Some t → Leads p answers s t × IsOnSchedule p answers t
  work_leads s t going seat a at next q =
      let on = goes_on p plan (reply_of answers) (replies_of answers) (λ job. refl) s going seat at (reply_for p answers seat) (λ job e. ap (reply_awaited answers) e) a next in
      let to : on.to ≡ t = same_Some on.to t (sym on.leads ∙ sym (after_direct p s 0 a (reply_for p answers seat) seat at) ∙ q) in
      let is_step : after_step p answers s (Worker 1 a) ≡ Some on.to = work_is p answers s 1 a seat (λ z. omega (arith, z)) at ∙ after_direct p s 0 a (reply_for p answers seat) seat at ∙ on.leads in
      subst (λ (x : State). Leads p answers s x × IsOnSchedule p answers x) to (leads_one p answers s on.to (Worker 1 a) is_step on.fewer, on.going)

  pub driven_leads : (s t : State) → IsOnSchedule p answers s → Drives p answers s t → Leads p answers s t
  driven_leads s t going (finished none end) = leads_here p answers s
  driven_leads s t going (reads q more) = leads_then p answers s _ t (read_leads p answers s _ q) (driven_leads _ t (going_read p (core_plan p plan.tree) (replies_of answers) s _ going.0 going.1 q) more)
  driven_leads s t going (works seat a none running is next q more) =
      let one = work_leads s _ going seat a is next q in
      leads_then p answers s _ t one.0 (driven_leads _ t one.1 more)
