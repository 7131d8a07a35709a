-- The arguments so far have put their pairs in.
use Rattle.std.proofs.Common.{◌≡◌, take}
use Rattle.launch_options.specs.Given.{behind}
use Rattle.launch_options.specs.Parameters.{pairs_in}
use Rattle.launch_options.proofs.Pairing.{with_all}
use Rattle.launch_options.proofs.parameters.add_pairs.Given as goal

abbrev pub invariant-loop-word : goal.invariant-loop-word
invariant-loop-word l = l.params ≡ with_all l.initial.params l.source (pairs_in (behind (take l.word-index l.words)))
