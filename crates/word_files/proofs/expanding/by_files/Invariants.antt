-- The arguments so far stand for those that were put behind each other.
use Rattle.std.proofs.Common.{◌≤◌, map, string_bytes, take}
use Rattle.word_files.specs.Expansions.{StandFor}
use Rattle.word_files.proofs.expanding.by_files.Given as goal

abbrev pub invariant-loop-word : goal.invariant-loop-word
invariant-loop-word g l = record {
  stand : StandFor (map string_bytes (take l.word-index l.words)) l.before (map string_bytes l.all.items) l.number;
  few : l.number ≤ l.word-index;
}
