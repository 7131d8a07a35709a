-- What was passed, and what an id takes of the rest.
use Rattle.std.proofs.Common.{◌≡◌, ◌+◌, length}
use Rattle.saved_runs.specs.FeedLines.{id_len}
use Rattle.saved_runs.proofs.feed_line.id_len.Given as goal

abbrev pub invariant-loop-byte : goal.invariant-loop-byte
invariant-loop-byte l = (l.len + id_len l.left ≡ id_len l.text) × (l.len + length l.left ≡ length l.text)

abbrev pub decreases-loop-byte : goal.decreases-loop-byte
decreases-loop-byte l = length l.left
