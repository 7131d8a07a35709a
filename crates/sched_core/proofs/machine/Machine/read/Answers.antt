-- What is read is the event at the next place, and it was shown.
use Rattle.std.proofs.Common.{◌<◌, length, sym, arith}
use Rattle.sched_core.proofs.Reading.{read_answer, read_shown}
use Rattle.sched_core.proofs.machine.Machine.read.Goals as goal

pub returns-clause-answered : goal.returns-clause-answered
returns-clause-answered c =
    let lt : c.args.self.now.given < length c.args.self.now.published.items = grind arith in
    read_answer _ c.args.self.now tt lt (sym c.if-not-is_next_shown.ensures)

pub returns-clause-shown : goal.returns-clause-shown
returns-clause-shown c before =
    let lt : c.args.self.now.given < length c.args.self.now.published.items = grind arith in
    read_shown c.args.self.now c.requires.placed lt (sym c.if-not-is_next_shown.ensures) before
