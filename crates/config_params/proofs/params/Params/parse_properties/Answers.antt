use Rattle.std.proofs.Common.{◌∙◌, ap, sym, Some}
use Rattle.std.specs.Str.Lines.{lines}
use Rattle.config_params.specs.Properties.{pairs_of}
use Rattle.config_params.specs.Tables.{value_in}
use Rattle.config_params.proofs.Lines.{never}
use Rattle.config_params.proofs.Tables.{has_last}
use Rattle.config_params.proofs.params.Params.parse_properties.Goals as goal

pub returns-in-Some-clause-no_memory : goal.returns-in-Some-clause-no_memory
returns-in-Some-clause-no_memory c = λ e. absurd (never 1 (lines c.args.text.now) (ap Some (sym e) ∙ sym c.in-Some.is ∙ c.refusal_of.ensures))

pub returns-clause-last : goal.returns-clause-last
returns-clause-last c = λ key. ap (λ table. value_in table key) c.in_ok-self-inside.ensures ∙ has_last (pairs_of c.args.text.now) key
