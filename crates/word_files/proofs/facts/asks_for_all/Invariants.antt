-- The arguments that are left ask for it if all do.
use Rattle.std.proofs.Common.{◌≡◌, drop, false, map, string_bytes}
use Rattle.word_files.specs.Told.{asks_for_all}
use Rattle.word_files.proofs.facts.asks_for_all.Given as goal

abbrev pub invariant-loop-word : goal.invariant-loop-word
invariant-loop-word l = asks_for_all l.is_value (map string_bytes (drop l.word-index l.words)) ≡ asks_for_all false (map string_bytes l.words)
