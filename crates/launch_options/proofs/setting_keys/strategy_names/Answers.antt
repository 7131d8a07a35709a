-- A text names a strategy by one of the two names.
use Rattle.launch_options.proofs.Named.{one_of_two}
use Rattle.launch_options.proofs.setting_keys.strategy_names.Goals as goal

pub returns : goal.returns
returns c = λ text. one_of_two _ _ _ _ _
