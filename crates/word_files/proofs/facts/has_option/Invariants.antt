-- The option is among the arguments that are left if it is among all.
use Rattle.std.proofs.Common.{◌≡◌, drop, map, string_bytes}
use Rattle.word_files.specs.Told.{has_option}
use Rattle.word_files.proofs.facts.has_option.Given as goal

abbrev pub invariant-loop-word : goal.invariant-loop-word
invariant-loop-word l = has_option l.name (map string_bytes (drop l.word-index l.words)) ≡ has_option l.name (map string_bytes l.words)
