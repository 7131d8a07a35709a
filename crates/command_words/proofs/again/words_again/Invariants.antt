-- The arguments so far stand for those that were put behind each other.
use Rattle.std.proofs.Common.{map, string_bytes, take}
use Rattle.command_words.specs.Expansions.{StandFor}
use Rattle.command_words.proofs.again.words_again.Given as goal

abbrev pub invariant-loop-word : goal.invariant-loop-word
invariant-loop-word g l = StandFor (map string_bytes (take l.word-index l.words)) l.before (map string_bytes l.all.items)
