-- Each of them stands behind what was said before.
use Rattle.std.proofs.Common.{ℕ, List, Option, subst}
use Rattle.command_line.specs.Runs.{SaysText}
use Rattle.command_line.proofs.closing.say_of_run.Goals as goal

pub returns : goal.returns
returns g c = (
  c.say_failures.new.errors,
  c.say_said.new.errors,
  (c.say_seed.new.errors, c.say_hints.new.errors, c.say_seed.ensures, c.say_hints.ensures, c.say_failures.ensures),
  subst (λ (said : Option (List ℕ)). SaysText (g.E.Write.contents) said c.say_failures.new.errors c.say_said.new.errors) c.steps_said.ensures c.say_said.ensures,
  c.say.ensures,
)
