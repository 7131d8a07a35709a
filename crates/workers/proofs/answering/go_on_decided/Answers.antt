use Rattle.std.proofs.Common.{rules}
use Rattle.workers.proofs.Due.{draws, guards}
use Rattle.workers.proofs.answering.go_on_decided.Goals as goal

pub returns-in-Guarding-clause-steady : goal.returns-in-Guarding-clause-steady
returns-in-Guarding-clause-steady g c = guards c.args.seat.now.seat c.give_guard_due.new.self.seat c.give_guard_due.ensures.same.about c.in-Opens.field-0 _ (search rules) c.give_guard_due.ensures.done c.give_guard_due.ensures.after

pub returns-in-Ending-clause-steady : goal.returns-in-Ending-clause-steady
returns-in-Ending-clause-steady g c = draws c.args.seat.now.seat c.draw_due.new.self.seat c.draw_due.ensures.same.about _ c.draw_due.ensures.done c.draw_due.ensures.unmoved
