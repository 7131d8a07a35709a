-- The job of a task leaves its slot and answers; or there is none.
use Rattle.std.proofs.Common.{sym, ap, ◌∙◌, subst}
use Rattle.std.proofs.lemmas.Option.{same_Some}
use Rattle.scheduling.specs.declared.seat.Seat.{Seat}
use Rattle.table_rule.specs.Picture.{about_of}
use Rattle.table_rule.specs.Plays.{worker}
use Rattle.run_table.specs.Moved.{job_slot}
use Rattle.run_table.specs.Seats.{seated}
use Rattle.workers.specs.Inside.Answering.{WaitsFor}
use Rattle.workers.specs.Inside.Steady.{IsSteady}
use Rattle.workers.proofs.Due.{is_ready}
use Rattle.workers.proofs.Outgoing.{Apart, gives_seat, leaves_seat, same_decided, same_ready, told_decided, told_goes, told_steady, unasked_decided, waited, waiting_may, waits_none}
use Rattle.workers.proofs.answering.run_awaited.Goals as goal

pub run-requires-clause-out : goal.run-requires-clause-out
run-requires-clause-out g c =
    let old = c.args.seat.now in
    let new = c.body_out.new.self in
    let none = waits_none c.args.node old.task old.hand c.requires.waits in
    let d = c.in-Some.ensures.some in (
      d.0,
      d.1,
      leaves_seat g.B.Job.answers (g.B.Job.answers c.in-Some.job) old.seat new.seat old.task new.task old.hand new.hand c.args.node d.0 d.1 c.body_out.ensures.same.about c.body_out.ensures.task c.body_out.ensures.hand d.6 d.2 d.4 none (c.in-Some.ensures.replies d.1 d.4),
      gives_seat g.B.Job.gives (g.B.Job.gives c.in-Some.job) old.seat new.seat old.task new.task old.hand new.hand d.1 c.body_out.ensures.same.about c.body_out.ensures.task c.body_out.ensures.hand none (c.in-Some.ensures.given d.1 d.4),
    )

pub run-requires-clause-some : goal.run-requires-clause-some
run-requires-clause-some g c =
    let old = c.args.seat.now in
    let d = c.in-Some.ensures.some in
    let seat_task = ap (λ (s : Seat). s.task) old.at_work.seat_is in
    waiting_may g.B.Job.answers (about_of c.args.table.now.table.shared.key) old.seat.me.0.about old.task old.hand c.args.node d.1 (g.B.Job.answers c.in-Some.job) c.requires.jobs c.requires.table.about c.requires.waits
    (λ is. c.requires.steady.1.plain c.args.node (seat_task ∙ is)) d.4 (c.in-Some.ensures.replies d.1 d.4)

pub returns-in-Some-clause-goes_on : goal.returns-in-Some-clause-goes_on
returns-in-Some-clause-goes_on g c =
    let mid = c.body_out.new.self in
    let d = c.in-Some.ensures.some in
    told_goes c.args.seat.now.seat mid.seat c.run.new.seat.seat mid.task mid.hand c.args.node d.0 c.body_out.ensures.same c.run.ensures.same d.6 c.run.ensures.told

pub returns-in-Some-clause-decided : goal.returns-in-Some-clause-decided
returns-in-Some-clause-decided g c =
    let old = c.args.seat.now in
    let mid = c.body_out.new.self in
    let d = c.in-Some.ensures.some in
    told_decided old.seat mid.seat c.run.new.seat.seat mid.task mid.hand c.args.node d.0 c.body_out.ensures.same.about c.run.ensures.same.about d.6 c.run.ensures.told
    (subst (λ (s : Seat). WaitsFor c.args.node s.task) (sym old.at_work.seat_is) c.requires.waits)

pub returns-in-Some-clause-steady : goal.returns-in-Some-clause-steady
returns-in-Some-clause-steady g c = λ phase it.
    let old = c.args.seat.now in
    let mid = c.body_out.new.self in
    let p = old.seat.me.0.about.plan in
    let made = (worker old.seat.me.0).slots in
    let d = c.in-Some.ensures.some in
    let w = waited p phase (seated old.task old.hand) made old.hand c.args.node (subst (λ (s : Seat). IsSteady p phase s made) old.at_work.seat_is it) c.requires.waits in
    told_steady old.seat mid.seat c.run.new.seat.seat mid.task mid.hand c.args.node d.0 c.body_out.ensures.same.about c.run.ensures.same.about d.6 c.run.ensures.told
    (subst (λ (s : Seat). WaitsFor c.args.node s.task) (sym old.at_work.seat_is) c.requires.waits) phase
    ((λ k. job_slot p (c.body_out.ensures.task k) (c.body_out.ensures.hand k) c.args.node) ∙ d.2) it.hand
    (subst (Apart phase) (same_Some w.slot d.0 (sym w.at ∙ d.2)) w.apart)

pub returns-in_default-clause-decided : goal.returns-in_default-clause-decided
returns-in_default-clause-decided g c =
    let old = c.args.seat.now in
    let p = old.seat.me.0.about.plan in
    let made = (worker old.seat.me.0).slots in
    let w = waited p c.requires.steady.0 (seated old.task old.hand) made old.hand c.args.node (subst (λ (s : Seat). IsSteady p c.requires.steady.0 s made) old.at_work.seat_is c.requires.steady.1) c.requires.waits in
    same_decided old.seat.me c.body_out.new.self.seat.me c.in_default.ensures.none.0
    (unasked_decided p (worker old.seat.me.0) old.task old.hand c.args.node w.slot old.at_work.seat_is c.requires.waits w.at c.in_default.ensures.none.1 w.unmoved)

pub returns-in_default-clause-steady : goal.returns-in_default-clause-steady
returns-in_default-clause-steady g c = λ phase it.
    let old = c.args.seat.now in
    same_ready old.seat c.body_out.new.self.seat phase c.in_default.ensures.none.0 (is_ready old.seat phase it)
