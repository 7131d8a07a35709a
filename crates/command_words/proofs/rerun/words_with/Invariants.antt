-- The arguments of the ids so far.
use Rattle.std.proofs.Common.{◌≡◌, map, take, string_bytes}
use Rattle.command_words.specs.RerunWords.{words_with}
use Rattle.command_words.proofs.rerun.words_with.Given as goal

abbrev pub invariant-loop-id : goal.invariant-loop-id
invariant-loop-id l = map string_bytes l.words.items ≡ words_with l.name (take l.id-index l.ids)
