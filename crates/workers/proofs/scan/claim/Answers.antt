use Rattle.workers.proofs.Tests.{claimed_nodes, free_nodes}
use Rattle.workers.proofs.scan.claim.Goals as goal

pub returns-clause-steady : goal.returns-clause-steady
returns-clause-steady g c =
    let old = c.args.seat.now in
    claimed_nodes old.seat c.claim.new.self.seat old.task old.hand c.args.node c.claim.ensures.same.about c.requires.empty c.in-Ok.ensures.done.3.worker_is

pub returns-in_default-clause-steady : goal.returns-in_default-clause-steady
returns-in_default-clause-steady g c =
    let old = c.args.seat.now in
    free_nodes old.seat c.claim.new.self.seat old.task old.hand c.in_default.ensures.refused old.at_work.seat_is c.requires.free c.requires.empty
