-- The search proves it. Written out, it spares a wrong body the printing of what is left to show.
use Rattle.std.proofs.Common.{rules, arith}
use Rattle.std.proofs.lemmas.Grind.{common_steps}
use Rattle.config_params.proofs.settings.Settings.read_over.Goals as goal

pub returns-then-not-is_enabled-clause-exact : goal.returns-then-not-is_enabled-clause-exact
returns-then-not-is_enabled-clause-exact c = search rules

pub returns-then-not-is_enabled-clause-off : goal.returns-then-not-is_enabled-clause-off
returns-then-not-is_enabled-clause-off c = search rules

pub returns-clause-exact : goal.returns-clause-exact
returns-clause-exact c = grind (arith, common_steps)
