-- The values so far.
use Rattle.std.proofs.Common.{◌≡◌, ◌++◌, map, take}
use Rattle.launch_options.specs.Given.{behind, texts_of}
use Rattle.command_words.proofs.found.push_found.Given as goal

abbrev pub invariant-loop-value : goal.invariant-loop-value
invariant-loop-value l = texts_of l.texts.items ≡ texts_of l.initial.texts.items ++ map (λ text. (l.kind, text)) (behind (take l.value-index l.values))
