-- The arguments of the nodes so far.
use Rattle.std.proofs.Common.{◌≡◌, ◌++◌, take, string_bytes}
use Rattle.std.specs.List.{flat_map}
use Rattle.live.specs.FailedTexts.{failure_word}
use Rattle.live.proofs.failed_lines.push_words.Given as goal

abbrev pub invariant-loop-failure : goal.invariant-loop-failure
invariant-loop-failure l = string_bytes l.text ≡ string_bytes l.fn.text ++ flat_map (failure_word l.option) (take l.failure-index l.failures)
