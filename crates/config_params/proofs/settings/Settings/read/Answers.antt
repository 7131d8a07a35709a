-- Parameters that stand over themselves answer what they answer.
use Rattle.std.proofs.Common.{◌∙◌, ap}
use Rattle.config_params.specs.Settings.{settings_of}
use Rattle.config_params.proofs.Laws.{over_itself}
use Rattle.config_params.proofs.settings.Settings.read.Goals as goal

pub returns-clause-exact : goal.returns-clause-exact
returns-clause-exact c = c.read_over.ensures.exact ∙ ap (λ answers. settings_of answers c.args.processors) (λ i key. over_itself c.args.params.now key i)
