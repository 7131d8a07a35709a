-- The arguments so far, and those that stand for the arguments that are left, stand for all.
use Rattle.std.proofs.Common.{◌≡◌, ◌++◌, drop, false, map, string_bytes}
use Rattle.word_files.specs.Told.{seeded_words}
use Rattle.word_files.proofs.facts.seeded_words.Given as goal

abbrev pub invariant-loop-word : goal.invariant-loop-word
invariant-loop-word l = map string_bytes l.all.items ++ seeded_words l.seed l.is_value (map string_bytes (drop l.word-index l.words)) ≡ seeded_words l.seed false (map string_bytes l.words)
