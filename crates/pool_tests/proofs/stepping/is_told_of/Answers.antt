-- At a table at which nobody has worked the jobs may answer, and nothing was told.
use Rattle.std.proofs.Common.{◌≡◌, ◌∙◌, ℕ, List, [], ap}
use Rattle.plan_events.specs.declared.event.Event.{Event}
use Rattle.table_rule.specs.Picture.{replies_of}
use Rattle.table_rule.specs.declared.view.SlotState.{SlotState}
use Rattle.table_rule.specs.Plays.{dispatcher}
use Rattle.test_jobs.specs.Acting.{replies_left}
use Rattle.workers.specs.Premises.{MayAnswer}
use Rattle.worker_pool.specs.Reports.{run_of}
use Rattle.thread_pool.specs.Telling.{AreTextsRead}
use Rattle.worker_pool.proofs.Handed.{may_answer}
use Rattle.thread_pool.proofs.Carried.{carried}
use Rattle.pool_tests.proofs.stepping.is_told_of.Goals as goal

pub is_told_at-requires-clause-jobs : goal.is_told_at-requires-clause-jobs
is_told_at-requires-clause-jobs g c =
    carried c.in-Ok.ensures.about (λ about. MayAnswer replies_left about)
    (may_answer replies_left (run_of c.args.plan 1 c.args.ring c.args.jobs.items) c.in_ok-texts.ensures.tree c.in-Ok.ensures.accepted.2 c.requires)

pub is_told_at-requires-clause-texts : goal.is_told_at-requires-clause-texts
is_told_at-requires-clause-texts g c =
    let about = c.in-Some.ensures.same.about ∙ c.in-Ok.ensures.seat.about ∙ c.in-Ok.ensures.about in
    let read : (dispatcher c.split.new.self.seat.me.0).read ≡ [] = ap (λ d. d.read) c.in-Some.ensures.dealt ∙ ap (λ d. d.read) c.in-Ok.ensures.opens in
    let key = run_of c.args.plan 1 c.args.ring c.args.jobs.items in
    let slots : (dispatcher c.split.new.self.seat.me.0).slots ≡ [] = ap (λ d. d.slots) c.in-Some.ensures.dealt ∙ ap (λ d. d.slots) c.in-Ok.ensures.opens in
    carried {a = key} about (λ a. AreTextsRead a.plan (replies_of replies_left a) (dispatcher c.split.new.self.seat.me.0).slots (dispatcher c.split.new.self.seat.me.0).read c.in_ok-texts.texts)
    (carried (λ k. (slots k, read k)) (λ (z : List (ℕ × SlotState) × List Event). AreTextsRead key.plan (replies_of replies_left key) z.0 z.1 c.in_ok-texts.texts) (c.in_ok-texts.ensures.texts (replies_of replies_left key)))
