-- The hashes and the bodies stay those of the tree, on each way out.
use Rattle.std.proofs.Common.{◌≡◌, arith}
use Rattle.std.proofs.lemmas.Grind.{common_steps}
use Rattle.unique_id.specs.Spelling.{spelling}
use Rattle.descriptor.specs.Inside.Hashes.{hash_of}
use Rattle.descriptor.specs.Nodes.{appended}
use Rattle.descriptor.proofs.Accepted.{accepted_by_most}
use Rattle.descriptor.proofs.Sets.{hashes_kept, hashes_grown, bodies_grown, hashes_as, bodies_as}
use Rattle.descriptor.proofs.builder.TreeBuilder.add.Goals as goal

pub invariant_of-self-in_err-number : goal.invariant_of-self-in_err-number
invariant_of-self-in_err-number c =
    let same : c.self.inside.tree ≡ c.push.new.self = grind (arith, common_steps) in
    record {
      has_hashes = hashes_as _ _ c.reserve.new.self same (hashes_kept c.self.inside.tree c.self.inside.hashes c.reserve.new.self c.self.invariant.has_hashes c.reserve.ensures.keys.2);
      has_bodies = bodies_as _ _ c.self.inside.bodies same c.self.invariant.has_bodies;
    }

pub invariant_of-self-2 : goal.invariant_of-self-2
invariant_of-self-2 c =
    let grown : c.push.new.self ≡ appended c.self.inside.tree c.args.parent c.args.node = grind (arith, common_steps) in
    let hashed : c.hash_of-hash.result ≡ hash_of (spelling c.args.node.id) = grind (arith, common_steps) in
    record {
      has_hashes = hashes_grown _ _ _ _ _ c.reserve.new.self c.insert.new.self grown hashed (hashes_kept c.self.inside.tree c.self.inside.hashes c.reserve.new.self c.self.invariant.has_hashes c.reserve.ensures.keys.2) c.in-Ok.ensures.updates.0;
      has_bodies = bodies_grown _ _ _ _ c.self.inside.bodies c.put.new.self c.put-2.new.self grown c.self.invariant.has_bodies c.put.ensures c.put-2.ensures;
    }

pub push-requires-clause-accepted : goal.push-requires-clause-accepted
push-requires-clause-accepted c = accepted_by_most c.args.limit c.self.inside.tree c.args.parent c.args.node c.refusal.ensures.few (grind (arith, common_steps))
