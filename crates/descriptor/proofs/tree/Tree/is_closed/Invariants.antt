-- The kept nodes so far have kept parents.
use Rattle.std.proofs.Common.{◌≡◌, ℕ, ◌<◌, true}
use Rattle.descriptor.specs.Nodes.{parent_of}
use Rattle.descriptor.specs.Pruned.{is_kept}
use Rattle.descriptor.proofs.tree.Tree.is_closed.Given as goal

abbrev pub invariant-loop-node : goal.invariant-loop-node
invariant-loop-node l = (m : ℕ) → 0 < m → m < l.node → is_kept l.keep m ≡ true → is_kept l.keep (parent_of l.self m) ≡ true
