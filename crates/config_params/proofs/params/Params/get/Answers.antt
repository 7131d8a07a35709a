-- The search proves it. Written out, it spares a wrong body the printing of what is left to show.
use Rattle.std.proofs.Common.{rules}
use Rattle.config_params.proofs.params.Params.get.Goals as goal

pub returns-in-Some-value_of : goal.returns-in-Some-value_of
returns-in-Some-value_of c = search rules
