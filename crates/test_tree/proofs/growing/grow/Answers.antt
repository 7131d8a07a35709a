-- One more node.
use Rattle.std.proofs.Common.{rules}
use Rattle.test_tree.proofs.Grown.{grown_is}
use Rattle.test_tree.proofs.growing.grow.Goals as goal

pub returns-clause-grown : goal.returns-clause-grown
returns-clause-grown g c =
    grown_is c.args.limit c.args.tree.now c.tree-2.result.now c.hang.new.tree c.args.jobs.now.items c.reserve.new.self.items c.hang.new.jobs.items c.args.marks.now c.clear.new.self c.args.body.now c.hang.new.body c.args.parent c.args.sort c.args.name.now c.in_ok-node.node _
    c.tree-2.ensures.same c.in_ok-reserve.ensures.items (search rules) c.in_ok-node.ensures.ok c.in_ok-added.ensures.tree c.in_ok-added.ensures.jobs c.clear.ensures c.in_ok-added.ensures.body
