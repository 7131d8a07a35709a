use Rattle.workers.specs.Inside.Steady.{AtTests}
use Rattle.workers.proofs.Going.{goes_itself, still_of, then_still}
use Rattle.workers.proofs.Outgoing.{then_goes}
use Rattle.workers.proofs.pulling.see_tests_through.Goals as goal

pub loop-init : goal.loop-init
loop-init g c = record { table = c.requires.table; goes_on = goes_itself _; steady = λ f a it. it; led = λ first it. it }

pub run_tasks-gave_up-requires-clause-steady : goal.run_tasks-gave_up-requires-clause-steady
run_tasks-gave_up-requires-clause-steady g c = (let s = c.requires.steady in (AtTests s.0 s.1, c.loop.invariant.steady s.0 s.1 s.2))

pub returns-in_default-clause-goes_on : goal.returns-in_default-clause-goes_on
returns-in_default-clause-goes_on g c = then_goes _ _ _ c.loop.invariant.goes_on c.run_tasks-gave_up.ensures.goes_on

pub returns-in_default-clause-steady : goal.returns-in_default-clause-steady
returns-in_default-clause-steady g c = λ f a it. c.run_tasks-gave_up.ensures.steady (AtTests f a) (c.loop.invariant.steady f a it)

pub take_test-requires-clause-table : goal.take_test-requires-clause-table
take_test-requires-clause-table g c = still_of _ _ _ c.loop.invariant.table c.run_tasks-gave_up.ensures.goes_on.same

pub loop-preserved-then-not-take_test : goal.loop-preserved-then-not-take_test
loop-preserved-then-not-take_test g c = record {
  table = then_still _ _ _ _ c.loop.invariant.table c.run_tasks-gave_up.ensures.goes_on.same c.take_test.ensures.goes_on.same;
  goes_on = then_goes _ _ _ (then_goes _ _ _ c.loop.invariant.goes_on c.run_tasks-gave_up.ensures.goes_on) c.take_test.ensures.goes_on;
  steady = λ f a it. c.take_test.ensures.steady f a (c.run_tasks-gave_up.ensures.steady (AtTests f a) (c.loop.invariant.steady f a it));
  led = λ first it. c.run_tasks-gave_up.ensures.led first (c.loop.invariant.led first it);
}

pub loop-preserved : goal.loop-preserved
loop-preserved g c = record {
  table = then_still _ _ _ _ c.loop.invariant.table c.run_tasks-gave_up.ensures.goes_on.same c.take_test.ensures.goes_on.same;
  goes_on = then_goes _ _ _ (then_goes _ _ _ c.loop.invariant.goes_on c.run_tasks-gave_up.ensures.goes_on) c.take_test.ensures.goes_on;
  steady = λ f a it. c.take_test.ensures.steady f a (c.run_tasks-gave_up.ensures.steady (AtTests f a) (c.loop.invariant.steady f a it));
  led = λ first it. c.run_tasks-gave_up.ensures.led first (c.loop.invariant.led first it);
}
