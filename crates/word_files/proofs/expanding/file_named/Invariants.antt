-- No more files than arguments were counted.
use Rattle.std.proofs.Common.{◌≤◌}
use Rattle.word_files.proofs.expanding.file_named.Given as goal

abbrev pub invariant-loop-word : goal.invariant-loop-word
invariant-loop-word l = l.named ≤ l.word-index
