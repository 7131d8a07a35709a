-- The hashes and the bodies stay those of the tree where a node is given an after-body.
use Rattle.std.proofs.Common.{◌≡◌, arith, None}
use Rattle.std.proofs.lemmas.Grind.{common_steps}
use Rattle.descriptor.specs.Bodies.{with_after}
use Rattle.descriptor.specs.Refusals.{after_refusal}
use Rattle.descriptor.proofs.AfterBodies.{taken_after}
use Rattle.descriptor.proofs.Sets.{hashes_with_after, put_with_after}
use Rattle.descriptor.proofs.builder.TreeBuilder.set_after.Goals as goal

pub invariant_of-self : goal.invariant_of-self
invariant_of-self c =
    let given : c.set_after.new.self ≡ with_after c.self.inside.tree c.args.node c.args.body = grind (arith, common_steps) in
    let taken : after_refusal c.self.inside.tree c.args.node c.args.body ≡ None = grind (arith, common_steps) in
    record {
      has_hashes = hashes_with_after c.self.inside.tree _ c.args.node c.args.body c.self.inside.hashes given c.self.invariant.has_hashes;
      has_bodies = put_with_after c.self.inside.tree _ c.args.node c.args.body c.self.inside.bodies c.put.new.self given (taken_after c.self.inside.tree c.args.node c.args.body taken).1 c.self.invariant.has_bodies c.put.ensures;
    }
