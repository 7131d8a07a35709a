-- The nearest of the known words so far.
use Rattle.std.proofs.Common.{take}
use Rattle.std.specs.Prelude.{option_map}
use Rattle.unique_id.specs.Answers.{texts}
use Rattle.suite_messages.proofs.Nearing.{Best}
use Rattle.suite_messages.proofs.nearest.nearest.Given as goal

abbrev pub invariant-loop-name : goal.invariant-loop-name
invariant-loop-name l = Best l.word (texts (take l.name-index l.known)) l.least (option_map (λ name. name.now) l.found)
