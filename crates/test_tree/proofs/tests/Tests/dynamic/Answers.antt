-- The dynamic test is added, and counted.
use Rattle.test_bodies.specs.Bodies.{with_test}
use Rattle.test_tree.specs.Building.{held}
use Rattle.test_tree.proofs.Grown.{dynamic_added}
use Rattle.test_tree.proofs.tests.Tests.dynamic.Goals as goal

pub returns-in-Ok-clause-added : goal.returns-in-Ok-clause-added
returns-in-Ok-clause-added g c =
    dynamic_added with_test _ (held c.args.self.now) (held c.add_dynamic.new.self) c.args.factory.number c.new-parent.result c.args.name.now c.of_closure-body.result c.new-parent.ensures c.in-Ok.ensures.unmarked c.in-Ok.ensures.none
    c.of_closure-body.ensures.answers c.in-Ok.ensures.taken c.in-Ok.ensures.grown
