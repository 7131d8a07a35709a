-- Neither the texts nor the observer change what was read.
use Rattle.std.proofs.Common.{◌≡◌, ◌∙◌, ℕ, [], ◌∷◌, ◌++◌, ap, subst, sym, List}
use Rattle.plan_events.specs.declared.event.Event.{Event}
use Rattle.resource_locks.specs.Plans.{PlanParts}
use Rattle.listeners.specs.Listeners.{telling}
use Rattle.listeners.specs.Observing.{HasSeenMore}
use Rattle.event_history.specs.History.{IsLegal}
use Rattle.table_rule.specs.declared.view.SlotState.{SlotState}
use Rattle.table_rule.specs.Picture.{replies_of}
use Rattle.table_rule.specs.Plays.{dispatcher}
use Rattle.run_table.proofs.Facts.{plan_is}
use Rattle.thread_pool.specs.Telling.{AreTextsRead, KeepsTexts}
use Rattle.thread_pool.proofs.DispatcherStates.{of_then, seat_then}
use Rattle.thread_pool.proofs.Seen.{tellings_stay}
use Rattle.thread_pool.proofs.Moments.{moment_alike}
use Rattle.thread_pool.proofs.Carried.{carried}
use Rattle.thread_pool.proofs.TextsRead.{read_alike}
use Rattle.thread_pool.proofs.dispatching.dispatch_one.Goals as goal

pub keep_text-requires-clause-seat : goal.keep_text-requires-clause-seat
keep_text-requires-clause-seat g c = seat_then _ _ _ c.requires.seat c.read.ensures.same

pub keep_text-requires-clause-last : goal.keep_text-requires-clause-last
keep_text-requires-clause-last g c =
    let v = c.args.dispatcher_seat.now.seat.me.0 in (
      (dispatcher v).read,
      ap (λ d. d.read) c.in_ok-read.ensures.read,
      carried c.read.ensures.same.about (λ a. AreTextsRead a.plan (replies_of g.B.Job.answers a) (dispatcher c.read.new.self.seat.me.0).slots (dispatcher v).read c.args.texts.now)
          (carried (ap (λ d. d.slots) c.in_ok-read.ensures.read) (λ (made : List (ℕ × SlotState)). AreTextsRead v.about.plan (replies_of g.B.Job.answers v.about) made (dispatcher v).read c.args.texts.now) c.requires.texts),
    )

pub advance-requires : goal.advance-requires
advance-requires g c = seat_then _ _ _ (seat_then _ _ _ c.requires.seat c.read.ensures.same) c.keep_text.ensures.same

pub returns-clause-same : goal.returns-clause-same
returns-clause-same g c = of_then _ _ _ (of_then _ _ _ c.read.ensures.same c.keep_text.ensures.same) c.advance.ensures.same

pub returns-clause-texts : goal.returns-clause-texts
returns-clause-texts g c =
    read_alike g.B.Job.answers c.keep_text.new.dispatcher_seat.seat.me.0 c.advance.new.self.seat.me.0 c.keep_text.new.texts c.advance.ensures.same.about (ap (λ d. d.read) c.advance.ensures.told) (ap (λ d. d.slots) c.advance.ensures.told) c.keep_text.ensures.texts

pub returns-clause-some : goal.returns-clause-some
returns-clause-some g c = ap (λ d. d.read) c.advance.ensures.told ∙ (c.keep_text.ensures.read ∙ ap (λ d. d.read) c.in_ok-read.ensures.read)

pub returns-in_err-read-clause-texts : goal.returns-in_err-read-clause-texts
returns-in_err-read-clause-texts g c = carried c.in_err-read.ensures.none (λ m. KeepsTexts g.B.Job.answers m.0 c.args.texts.now) c.requires.texts

pub returns-clause-moment : goal.returns-clause-moment
returns-clause-moment g c =
    moment_alike g.B.Job.answers c.read.new.self.seat.me.0 c.advance.new.self.seat.me.0 (c.advance.ensures.same.about ∙ c.keep_text.ensures.same.about)
    (ap (λ d. d.dealt) c.advance.ensures.told ∙ c.keep_text.ensures.dealt) (ap (λ d. d.read) c.advance.ensures.told ∙ c.keep_text.ensures.read) c.read.ensures.moment

pub returns-clause-kept : goal.returns-clause-kept
returns-clause-kept g c =
    let v = c.args.dispatcher_seat.now.seat.me.0 in
    let w = c.read.new.self.seat.me.0 in
    let read : (dispatcher w).read ≡ (dispatcher v).read ++ c.in_ok-read.read ∷ [] = ap (λ d. d.read) c.in_ok-read.ensures.read in
    let replies = replies_of g.B.Job.answers w.about in
    let legal = subst (λ (h : List Event). IsLegal w.about.plan replies w.about.workers h) read c.read.ensures.moment.legal in
    tellings_stay w.about.plan replies w.about.workers (dispatcher v).read c.in_ok-read.read legal c.args.texts.now c.keep_text.new.texts c.keep_text.ensures.others c.keep_text.ensures.silent

pub returns-clause-seen : goal.returns-clause-seen
returns-clause-seen g c =
    let seat = c.args.dispatcher_seat.now.seat in
    carried (plan_is _ _ _ seat c.args.table.now.fitting c.requires.seat ∙ sym c.plan.ensures)
    (λ (p : PlanParts). HasSeenMore g.O.Observer.saw p (telling c.keep_text.new.texts c.in_ok-read.read ∷ []) c.args.observer.now c.see.new.self) c.see.ensures
