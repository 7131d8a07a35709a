-- With one more node each node has its bodies, none was run, and no dynamic test holds a key.
use Rattle.std.proofs.Common.{◌≡◌, true, refl}
use Rattle.descriptor.specs.Nodes.{IsTree}
use Rattle.resource_locks.specs.Spares.{HasBareSpares}
use Rattle.test_bodies.specs.Bodies.{is_spent}
use Rattle.test_tree.specs.Building.{held}
use Rattle.test_tree.specs.Growing.{built, grown, next_node}
use Rattle.test_tree.specs.Jobs.{HasJobs, are_fresh, is_fresh_or_none}
use Rattle.test_tree.proofs.Grown.{always, either_way, if_ok}
use Rattle.test_tree.proofs.Having.{bare_appended, fresh_grown, has_grown}
use Rattle.test_tree.proofs.tests.Tests.add_next.Goals as goal

pub invariant_of-self : goal.invariant_of-self
invariant_of-self g c =
    let b = held c.args.self.now in
    let next = grown b c.args.parent c.args.sort c.args.name.now in
    let now = built b.node_limit c.grow.new.tree c.grow.new.jobs.items c.grow.new.marks c.grow.new.body in
    record {
      has = either_way c.grow.result b next now c.grow.ensures.grown c.grow.ensures.err (λ x. HasJobs x.tree x.jobs) c.args.self.now.has (always c.grow.result _ (has_grown b c.args.parent c.args.sort c.args.name.now c.args.self.now.has));
      fresh =
          either_way c.grow.result b next now c.grow.ensures.grown c.grow.ensures.err (λ x. are_fresh is_spent x.jobs ≡ true) c.args.self.now.fresh
          (always c.grow.result _ (fresh_grown is_spent b c.args.parent c.args.sort c.args.name.now c.args.self.now.fresh c.args.self.now.unspent));
      unspent = either_way c.grow.result b next now c.grow.ensures.grown c.grow.ensures.err (λ x. is_fresh_or_none is_spent x.body ≡ true) c.args.self.now.unspent (always c.grow.result _ refl);
      bare =
          either_way c.grow.result b next now c.grow.ensures.grown c.grow.ensures.err (λ x. HasBareSpares x.tree) c.args.self.now.bare
          (if_ok c.grow.result (IsTree b.tree) _ c.grow.ensures.tree (λ tree. bare_appended b.tree c.args.parent (next_node b c.args.parent c.args.sort c.args.name.now) tree c.args.self.now.bare c.requires.spare c.requires.factory));
    }
