-- The arguments that are left say one of the keys if all do.
use Rattle.std.proofs.Common.{◌≡◌, drop}
use Rattle.launch_options.specs.Given.{behind}
use Rattle.launch_options.specs.Workers.{says_long_key}
use Rattle.launch_options.proofs.workers.says_long_key.Given as goal

abbrev pub invariant-loop-word : goal.invariant-loop-word
invariant-loop-word l = says_long_key (behind (drop l.word-index l.words)) ≡ says_long_key (behind l.words)
