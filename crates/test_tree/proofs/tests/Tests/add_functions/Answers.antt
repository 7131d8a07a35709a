-- One test further; and where it is refused.
use Rattle.std.proofs.Common.{◌↔◌, ◌∙◌, ◌≤◌, Result, length, rules}
use Rattle.plan_events.specs.declared.outcome.Outcome.{Outcome}
use Rattle.test_bodies.specs.Bodies.{may_answer}
use Rattle.test_tree.specs.Building.{held, memory_of}
use Rattle.test_tree.specs.Handles.{class_node}
use Rattle.test_tree.specs.Lists.{IsTestAdded}
use Rattle.test_tree.proofs.Listing.{folds_none, folds_on, stops_on, stops_here}
use Rattle.test_tree.proofs.tests.Tests.add_functions.Goals as goal

pub returns-in-Err-clause-refused : goal.returns-in-Err-clause-refused
returns-in-Err-clause-refused g c =
    c.loop-index.invariant.3 c.in-Err.fault.cause (held c.function.new.self)
    (stops_here _ c.args.tests.now c.loop-index.index c.index-tests-index.result c.loop-index-test.true c.index-tests-index.is _ (held c.loop-index.self) (held c.function.new.self) c.in-Err.ensures.err c.in-Err.ensures.refused)

pub loop-index-preserved : goal.loop-index-preserved
loop-index-preserved g c =
    let step : IsTestAdded (λ run body. (answer : Result (Unit {0}) Outcome) → may_answer body answer ↔ (goal.Fn-ptr g).post run (memory_of c.args.self.now, tt) answer) (class_node c.args.class) (held c.loop-index.self) c.index-tests-index.result (held c.function.new.self)
    = search rules in (
      c.function.ensures.properties ∙ c.loop-index.invariant.0,
      c.function.ensures.memory ∙ c.loop-index.invariant.1,
      (λ last rest. c.loop-index.invariant.2 last (folds_on _ c.args.tests.now c.loop-index.index c.index-tests-index.result c.loop-index-test.true c.index-tests-index.is _ _ step last rest)),
      (λ cause last rest. c.loop-index.invariant.3 cause last (stops_on _ c.args.tests.now c.loop-index.index c.index-tests-index.result c.loop-index-test.true c.index-tests-index.is _ _ _ step last rest)),
    )

pub returns-clause-added : goal.returns-clause-added
returns-clause-added g c =
    let over : length c.args.tests.now ≤ c.loop-index.index = search rules in
    c.loop-index.invariant.2 (held c.loop-index.self) (folds_none _ c.args.tests.now c.loop-index.index (held c.loop-index.self) over)
