-- What is asked is what the options ask, whatever stands in its place over these properties.
use Rattle.std.proofs.Common.{ap, ◌∙◌}
use Rattle.config_params.specs.Settings.{settings_of}
use Rattle.ready_runs.proofs.settings.settings_read.Goals as goal

pub returns-clause-exact : goal.returns-clause-exact
returns-clause-exact c = c.read_over.ensures.exact ∙ ap (λ answers. settings_of answers c.args.options.now.processors) (λ i key. c.params_over-over.ensures key i)
