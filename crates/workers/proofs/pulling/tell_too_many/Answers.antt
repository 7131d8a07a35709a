use Rattle.std.proofs.Common.{◌≡◌, ℕ, List, ◌≤◌, inr, sym, ap, ◌∙◌, subst}
use Rattle.resource_locks.specs.Plans.{PlanParts}
use Rattle.scheduling.specs.declared.seat.Seat.{Seat}
use Rattle.table_rule.specs.Picture.{given_by}
use Rattle.table_rule.specs.Plays.{worker}
use Rattle.run_table.proofs.Facts.{plan_is}
use Rattle.run_table.specs.Seats.{seated}
use Rattle.workers.specs.Inside.Steady.{IsPulled}
use Rattle.std.proofs.lemmas.Option.{none-some}
use Rattle.event_history.specs.Plans.{spare_count}
use Rattle.plan_events.specs.declared.status.Status.TheVariants.{Failed}
use Rattle.plan_events.specs.declared.note.Note.TheVariants.{Own, TooMany}
use Rattle.table_rule.specs.declared.view.WorkerFacts.{WorkerFacts}
use Rattle.workers.specs.Inside.Answering.{IsTold}
use Rattle.workers.proofs.Going.{goes_as, still_of}
use Rattle.workers.proofs.LettingGo.{let_go_due}
use Rattle.workers.proofs.Outgoing.{then_goes}
use Rattle.workers.proofs.Tests.{too_many_may, hand_slot_is}
use Rattle.workers.proofs.pulling.tell_too_many.Goals as goal

pub text_in-requires-clause-answer : goal.text_in-requires-clause-answer
text_in-requires-clause-answer g c = λ slot at.
    let old = c.args.seat.now in
    let plan = plan_is _ _ _ old.seat c.args.table.now.fitting c.requires.table in
    let p = old.seat.me.0.about.plan in
    let made = (worker old.seat.me.0).slots in
    let j = c.requires.job in
    too_many_may p _ (given_by g.B.Job.gives old.seat.me.0.about) c.args.factory c.args.asked (seated old.task old.hand) made old.task old.hand j.0 slot _ (subst (λ (s : Seat). IsPulled p c.args.factory c.args.asked s made) old.at_work.seat_is c.requires.steady.hand) c.requires.free
    (λ h held. old.within.now.spares h (ap (λ (s : Seat). s.hand) old.at_work.seat_is ∙ held)) (subst (λ (q : PlanParts). spare_count q c.args.factory ≤ c.args.asked) (sym plan) c.requires.all) j.1 j.2 c.requires.some (λ r x. inr x) at

-- its job was not called, and says nothing
pub text_in-requires-clause-said : goal.text_in-requires-clause-said
text_in-requires-clause-said g c = λ reply own. absurd (not_own reply.outcome.text own.note_is)
  where
    not_own : (text : List ℕ) → TooMany ≡ Own text → ⊥
    not_own text q = cc

pub unreachable-requires : goal.unreachable-requires
unreachable-requires g c =
    let old = c.args.seat.now in
    let p = old.seat.me.0.about.plan in
    let made = (worker old.seat.me.0).slots in
    let kept : IsPulled p c.args.factory c.args.asked (seated old.task old.hand) made = subst (λ (s : Seat). IsPulled p c.args.factory c.args.asked s made) old.at_work.seat_is c.requires.steady.hand in
    none-some c.args.factory (sym c.in_default.ensures.refused.1 ∙ hand_slot_is p old.task old.hand kept.hand c.args.factory c.requires.free kept.held kept.is_it)

pub let_go-requires-clause-table : goal.let_go-requires-clause-table
let_go-requires-clause-table g c = still_of _ _ _ c.requires.table c.text_in.ensures.same

pub let_go-requires-clause-due : goal.let_go-requires-clause-due
let_go-requires-clause-due g c =
    let old = c.args.seat.now in
    let p = old.seat.me.0.about.plan in
    let made = (worker old.seat.me.0).slots in
    let kept : IsPulled p c.args.factory c.args.asked (seated old.task old.hand) made = subst (λ (s : Seat). IsPulled p c.args.factory c.args.asked s made) old.at_work.seat_is c.requires.steady.hand in
    let d = c.in-Ok.ensures.told in
    let told : IsTold old.seat c.text_in.new.self.seat old.task old.hand c.args.factory = record { slot = d.0; reply = d.1; status = Failed; note = TooMany; at = d.2; told_as = d.3; now = d.4 } in
    let_go_due old.seat c.text_in.new.self.seat c.args.factory c.args.asked old.task old.hand old.at_work.seat_is kept c.requires.free c.requires.idle c.text_in.ensures.same.about told

pub returns-clause-goes_on : goal.returns-clause-goes_on
returns-clause-goes_on g c =
    let same = goes_as c.args.seat.now.seat c.text_in.new.self.seat c.text_in.ensures.same (ap (λ (w : WorkerFacts). w.mine) c.in-Ok.ensures.told.4) in
    then_goes _ _ _ same c.let_go.ensures.goes_on
