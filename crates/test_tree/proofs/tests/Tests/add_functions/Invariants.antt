-- Steps over the tests that are still to come are steps over all.
use Rattle.std.proofs.Common.{◌≡◌, ◌↔◌, Result, drop}
use Rattle.plan_events.specs.declared.outcome.Outcome.{Outcome}
use Rattle.test_bodies.specs.Bodies.{may_answer}
use Rattle.test_tree.specs.Building.{held, memory_of, properties_of}
use Rattle.test_tree.specs.Handles.{class_node}
use Rattle.test_tree.specs.Lists.{AreTestsAdded, IsTestRefused}
use Rattle.test_tree.proofs.tests.Tests.add_functions.Given as goal

abbrev pub invariant-loop-index : goal.invariant-loop-index
invariant-loop-index g l =
    (properties_of l.self ≡ properties_of l.fn.self)
    × (memory_of l.self ≡ memory_of l.fn.self)
    × ((last : _)
    → AreTestsAdded (λ run body. (answer : Result (Unit {0}) Outcome) → may_answer body answer ↔ (goal.Fn-ptr g).post run (memory_of l.fn.self, tt) answer) (class_node l.class) (held l.self) (drop l.index l.tests) last
    → AreTestsAdded (λ run body. (answer : Result (Unit {0}) Outcome) → may_answer body answer ↔ (goal.Fn-ptr g).post run (memory_of l.fn.self, tt) answer) (class_node l.class) (held l.fn.self) l.fn.tests last)
    × ((cause : _) (last : _)
    → IsTestRefused (λ run body. (answer : Result (Unit {0}) Outcome) → may_answer body answer ↔ (goal.Fn-ptr g).post run (memory_of l.fn.self, tt) answer) (class_node l.class) cause (held l.self) (drop l.index l.tests) last
    → IsTestRefused (λ run body. (answer : Result (Unit {0}) Outcome) → may_answer body answer ↔ (goal.Fn-ptr g).post run (memory_of l.fn.self, tt) answer) (class_node l.class) cause (held l.fn.self) l.fn.tests last)
