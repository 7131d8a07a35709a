-- Reading a part: what is left, behind the bytes that are read, reads as the whole does.
use Rattle.std.proofs.Common.{◌≡◌, ◌≤◌, ◌+◌, ◌-◌, [], length, drop}
use Rattle.unique_id.specs.Reading.{unescaped}
use Rattle.unique_id.proofs.reading.unescaped.Given as goal

abbrev pub invariant-loop-index : goal.invariant-loop-index
invariant-loop-index l =
    (l.index ≤ length l.written) × (length l.bytes ≤ l.index) × (unescaped l.bytes (l.place + l.index) (drop l.index l.written) ≡ unescaped [] l.place l.written)

abbrev pub decreases-loop-index : goal.decreases-loop-index
decreases-loop-index l = length l.written - l.index
