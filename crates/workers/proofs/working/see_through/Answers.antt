use Rattle.workers.specs.Inside.Steady.{AtNodes}
use Rattle.workers.proofs.Going.{goes_itself, still_of, then_still}
use Rattle.workers.proofs.Outgoing.{then_goes}
use Rattle.workers.proofs.working.see_through.Goals as goal

pub loop-init : goal.loop-init
loop-init g c = record { table = c.requires.table; goes_on = goes_itself _; steady = c.requires.steady; led = λ first it. it }

pub run_tasks-requires-clause-steady : goal.run_tasks-requires-clause-steady
run_tasks-requires-clause-steady g c = (AtNodes, c.loop.invariant.steady)

pub pull_tests-requires-clause-table : goal.pull_tests-requires-clause-table
pull_tests-requires-clause-table g c = still_of _ _ _ c.loop.invariant.table c.run_tasks.ensures.goes_on.same

pub pull_tests-requires-clause-steady : goal.pull_tests-requires-clause-steady
pull_tests-requires-clause-steady g c = c.run_tasks.ensures.steady AtNodes c.loop.invariant.steady

pub loop-preserved : goal.loop-preserved
loop-preserved g c = record {
  table = then_still _ _ _ _ c.loop.invariant.table c.run_tasks.ensures.goes_on.same c.pull_tests.ensures.goes_on.same;
  goes_on = then_goes _ _ _ (then_goes _ _ _ c.loop.invariant.goes_on c.run_tasks.ensures.goes_on) c.pull_tests.ensures.goes_on;
  steady = c.pull_tests.ensures.steady;
  led = λ first it. c.pull_tests.ensures.led first (c.run_tasks.ensures.led first (c.loop.invariant.led first it));
}

pub returns-in-None-hand-clause-goes_on : goal.returns-in-None-hand-clause-goes_on
returns-in-None-hand-clause-goes_on g c = then_goes _ _ _ c.loop.invariant.goes_on c.run_tasks.ensures.goes_on

pub returns-in-None-hand-clause-steady : goal.returns-in-None-hand-clause-steady
returns-in-None-hand-clause-steady g c = c.run_tasks.ensures.steady AtNodes c.loop.invariant.steady
