-- Where all are kept the pruned tree is the same tree.
use Rattle.std.proofs.Common.{◌∙◌, ap, sym}
use Rattle.descriptor.specs.Nodes.{size}
use Rattle.descriptor.specs.Inside.Fields.{nodes_of}
use Rattle.descriptor.proofs.AllKept.{all_same}
use Rattle.descriptor.proofs.tree.Tree.keeps_all.Goals as goal

pub returns-clause-same : goal.returns-clause-same
returns-clause-same c every =
    rw (sym c.self.view_is) (all_same (nodes_of c.self.inside) c.args.keep.now c.self.invariant.tree c.self.invariant.plan (c.requires ∙ ap size (sym c.self.view_is)) (c.are_all.ensures.0 every))
