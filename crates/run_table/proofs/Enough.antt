-- What is told asks for no fewer dynamic tests than are registered of the factory in hand.
use Rattle.std.proofs.Common.{◌≡◌, ◌≤◌, Option, Some, sym, ap, ◌∙◌, inl, inr, arith}
use Rattle.std.proofs.lemmas.Option.{same_Some}
use Rattle.plan_events.specs.declared.note.Note.{Note}
use Rattle.plan_events.specs.declared.outcome.Reply.{Reply}
use Rattle.plan_events.specs.declared.status.Status.{Status}
use Rattle.resource_locks.specs.Plans.{PlanParts}
use Rattle.scheduling.specs.declared.seat.Hand.{Hand}
use Rattle.scheduling.specs.declared.task.Task.{Task}
use Rattle.scheduling.specs.declared.task.Task.TheVariants.{Free}
use Rattle.run_table.specs.Answering.{registered_by, IsToldAs}
use Rattle.run_table.specs.Seats.{seated}

pub told_enough : (p : PlanParts) (task : Task) (hand : Option Hand) (reply : Reply) (status : Status) (note : Note) → IsToldAs p (seated task hand) reply status note → (h : Hand) → task ≡ Free → hand ≡ Some h → h.registered ≤ reply.pulls
told_enough p task hand reply status note told h free held = elim told [
  | inl own ↦ (let count : registered_by task hand ≡ h.registered = λ i. registered_by (free i) (held i) in
      let pulls = own.pulls in
      omega (arith, count, pulls))
  | inr many ↦ (let same : many.held ≡ h = same_Some many.held h (sym many.in_hand ∙ held) in
      let count : many.held.registered ≡ h.registered = ap (λ (y : Hand). y.registered) same in
      let more = many.more in
      omega (arith, count, more))
]
