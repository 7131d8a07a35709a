-- Counting what a part is written in: the loop has counted the bytes that it has passed.
use Rattle.std.proofs.Common.{◌≡◌, ◌*◌, ◌≤◌, length, take}
use Rattle.unique_id.specs.Spelling.{spelled_part}
use Rattle.unique_id.proofs.spelling.part_len.Given as goal

abbrev pub invariant-loop-byte : goal.invariant-loop-byte
invariant-loop-byte l =
    (l.written ≡ length (spelled_part (take l.byte-index l.part))) × (l.written ≤ 3 * l.byte-index)
