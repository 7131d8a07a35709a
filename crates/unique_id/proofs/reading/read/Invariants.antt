-- Reading segments: what is left, behind those that are read, reads as the whole does, and the place is what was passed.
use Rattle.std.proofs.Common.{◌≡◌, ◌+◌, ◌*◌, ◌≤◌, [], List, length, Some, option_map}
use Rattle.unique_id.specs.declared.unique_id.Segment.{Segment}
use Rattle.unique_id.specs.Reading.{segments_at}
use Rattle.unique_id.specs.Reads.{IsReadOf, pieces_of, left_len}
use Rattle.unique_id.proofs.reading.read.Given as goal

abbrev pub invariant-loop-left : goal.invariant-loop-left
invariant-loop-left l =
    ((segments : List Segment) × IsReadOf l.read segments × (segments_at segments l.place (pieces_of (option_map (λ text. text.now) l.left)) ≡ segments_at [] 0 (pieces_of (Some l.text))))
    × (l.place + left_len (option_map (λ text. text.now) l.left) ≡ length l.text + 1)
    × (l.read.count ≤ l.place)
    × (l.read.spelled ≤ 6148 * l.read.count)

abbrev pub decreases-loop-left : goal.decreases-loop-left
decreases-loop-left l = left_len (option_map (λ text. text.now) l.left)
