-- What was read so far stands in the room, and no line feed in it.
use Rattle.std.proofs.Common.{◌≡◌, ◌-◌, ◌≤◌, false, length, take}
use Rattle.std.specs.Io.KnownBytes.{Consumes}
use Rattle.host_bodies.specs.Lines.{has_feed}
use Rattle.host_bodies.proofs.line.read_line.Given as goal

abbrev pub invariant-loop-at : goal.invariant-loop-at
invariant-loop-at g l = record {
  same : length l.room ≡ length l.initial.room;
  inside : l.at ≤ length l.room;
  flat : has_feed (take l.at l.room) ≡ false;
  read : Consumes (g.R.Read.remaining l.initial.reader) (g.R.Read.remaining l.reader) (take l.at l.room);
}

abbrev pub decreases-loop-at : goal.decreases-loop-at
decreases-loop-at g l = length l.initial.room - l.at
