-- The words so far are those of the seed, and the generator is at the next place.
use Rattle.std.proofs.Common.{◌≡◌, ℕ, ◌<◌, ◌≤◌, ◌-◌, length, get_or}
use Rattle.tree_orders.specs.Draws.{word_of}
use Rattle.tree_orders.proofs.Drawing.{rng_at}
use Rattle.tree_orders.proofs.words.words.Given as goal

abbrev pub invariant-loop-rng : goal.invariant-loop-rng
invariant-loop-rng l = record {
  rng : l.rng ≡ rng_at l.seed (length l.words.items);
  few : length l.words.items ≤ l.count;
  each : (k : ℕ) → k < length l.words.items → get_or l.words.items k 0 ≡ word_of l.seed k;
}

abbrev pub decreases-loop-rng : goal.decreases-loop-rng
decreases-loop-rng l = l.count - length l.words.items
