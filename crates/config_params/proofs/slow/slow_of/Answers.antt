-- What the key has for a value are no such milliseconds.
use Rattle.std.proofs.Common.{◌∙◌, ap}
use Rattle.config_params.specs.Settings.{limit_or_fault, slow_of}
use Rattle.config_params.proofs.slow.slow_of.Goals as goal

pub returns-in-None : goal.returns-in-None
returns-in-None c = ap limit_or_fault c.in-None.ensures ∙ ap slow_of c.in-Some.ensures
