use Rattle.workers.proofs.Going.{goes_itself, still_of}
use Rattle.workers.proofs.Outgoing.{then_goes}
use Rattle.workers.proofs.working.run_tasks.Goals as goal

pub loop-init : goal.loop-init
loop-init g c = record { table = c.requires.table; goes_on = goes_itself _; steady = λ phase it. it; led = λ first it. it }

pub go_on_opening-requires-clause-steady : goal.go_on_opening-requires-clause-steady
go_on_opening-requires-clause-steady g c = (let s = c.requires.steady in (s.0, c.loop.invariant.steady s.0 s.1))

pub go_on_closing-requires-clause-steady : goal.go_on_closing-requires-clause-steady
go_on_closing-requires-clause-steady g c = (let s = c.requires.steady in (s.0, c.loop.invariant.steady s.0 s.1))

pub loop-preserved-in-Opens : goal.loop-preserved-in-Opens
loop-preserved-in-Opens g c = record {
  table = still_of _ _ _ c.loop.invariant.table c.go_on_opening.ensures.goes_on.same;
  goes_on = then_goes _ _ _ c.loop.invariant.goes_on c.go_on_opening.ensures.goes_on;
  steady = λ phase it. c.go_on_opening.ensures.steady phase (c.loop.invariant.steady phase it);
  led = λ first it. c.go_on_opening.ensures.led first (c.loop.invariant.led first it);
}

pub loop-preserved : goal.loop-preserved
loop-preserved g c = record {
  table = still_of _ _ _ c.loop.invariant.table c.go_on_closing.ensures.goes_on.same;
  goes_on = then_goes _ _ _ c.loop.invariant.goes_on c.go_on_closing.ensures.goes_on;
  steady = λ phase it. c.go_on_closing.ensures.steady phase (c.loop.invariant.steady phase it);
  led = λ first it. c.go_on_closing.ensures.led first (c.loop.invariant.led first it);
}
