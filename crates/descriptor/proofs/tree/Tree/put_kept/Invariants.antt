-- The tree so far is that of the kept nodes so far, and each node so far has its new number.
use Rattle.std.proofs.Common.{◌≡◌, ℕ, ◌<◌, length, get_or}
use Rattle.descriptor.specs.Pruned.{pruned_below, new_number}
use Rattle.descriptor.proofs.tree.Tree.put_kept.Given as goal

abbrev pub invariant-loop-node : goal.invariant-loop-node
invariant-loop-node l = record {
  tree : l.tree ≡ pruned_below l.self l.keep l.node;
  as_many : length l.numbers.items ≡ l.node;
  numbers : (m : ℕ) → m < l.node → get_or l.numbers.items m 0 ≡ new_number l.keep m;
}
