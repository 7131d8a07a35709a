use Rattle.std.proofs.Common.{ap, ◌∙◌}
use Rattle.scheduling.specs.declared.seat.Seat.{Seat}
use Rattle.table_rule.specs.Plays.{worker}
use Rattle.workers.specs.Inside.Steady.{AtNodes}
use Rattle.workers.proofs.Steps.{arrives}
use Rattle.workers.proofs.Tests.{let_go_steady}
use Rattle.workers.proofs.pulling.let_go.Goals as goal

pub returns-clause-steady : goal.returns-clause-steady
returns-clause-steady g c =
    let old = c.args.seat.now in
    let p = old.seat.me.0.about.plan in
    let w = worker old.seat.me.0 in
    let d = c.give_guard_due.ensures.done in
    arrives old.seat c.give_guard_due.new.self.seat AtNodes _ c.give_guard_due.ensures.same.about d.3.worker_is
    (let_go_steady p w d.0 d.1 (ap (λ (s : Seat). s.task) old.at_work.seat_is ∙ c.requires.free) d.2 (λ m e. c.give_guard_due.ensures.after m (d.3.task ∙ e)))
