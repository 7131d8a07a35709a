use Rattle.std.proofs.Common.{ap, subst}
use Rattle.scheduling.specs.declared.seat.Seat.{Seat}
use Rattle.table_rule.specs.Picture.{gives_in}
use Rattle.table_rule.specs.Plays.{worker}
use Rattle.workers.specs.Inside.Steady.{IsPulled}
use Rattle.table_rule.specs.declared.view.WorkerFacts.{WorkerFacts}
use Rattle.run_table.specs.Seats.{seated}
use Rattle.workers.proofs.Going.{goes_as, still_of}
use Rattle.workers.proofs.LettingGo.{let_go_due}
use Rattle.workers.proofs.Outgoing.{then_goes}
use Rattle.workers.proofs.Tests.{factory_gives, factory_out}
use Rattle.workers.proofs.pulling.run_factory.Goals as goal

pub run-requires-clause-out : goal.run-requires-clause-out
run-requires-clause-out g c =
    let old = c.args.seat.now in
    let p = old.seat.me.0.about.plan in
    let made = (worker old.seat.me.0).slots in
    let j = c.requires.job in
    let kept : IsPulled p c.args.factory c.args.asked (seated old.task old.hand) made = subst (λ (s : Seat). IsPulled p c.args.factory c.args.asked s made) old.at_work.seat_is c.requires.steady.hand in
    (c.args.factory, j.0, factory_out p _ _ c.args.factory c.args.asked made old.task old.hand j.0 kept c.requires.free j.1 j.2, factory_gives p (gives_in g.B.Job.gives old.seat.me.0.about.jobs j.0) (g.B.Job.gives c.args.job) c.args.factory c.args.asked made old.task old.hand kept c.requires.free j.3)

pub let_go-requires-clause-table : goal.let_go-requires-clause-table
let_go-requires-clause-table g c = still_of _ _ _ c.requires.table c.run.ensures.same

pub let_go-requires-clause-due : goal.let_go-requires-clause-due
let_go-requires-clause-due g c =
    let old = c.args.seat.now in
    let p = old.seat.me.0.about.plan in
    let made = (worker old.seat.me.0).slots in
    let kept : IsPulled p c.args.factory c.args.asked (seated old.task old.hand) made = subst (λ (s : Seat). IsPulled p c.args.factory c.args.asked s made) old.at_work.seat_is c.requires.steady.hand in
    let_go_due old.seat c.run.new.seat.seat c.args.factory c.args.asked old.task old.hand old.at_work.seat_is kept c.requires.free c.requires.idle c.run.ensures.same.about c.run.ensures.told

pub returns-clause-goes_on : goal.returns-clause-goes_on
returns-clause-goes_on g c =
    let same = goes_as c.args.seat.now.seat c.run.new.seat.seat c.run.ensures.same (ap (λ (w : WorkerFacts). w.mine) c.run.ensures.told.now) in
    then_goes _ _ _ same c.let_go.ensures.goes_on
