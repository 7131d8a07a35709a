-- Without an equals sign none stands in the argument.
use Rattle.std.proofs.Common.{None, refl, lit<, arith}
use Rattle.std.proofs.lemmas.Grind.{common_steps}
use Rattle.std.proofs.lemmas.Str.Pattern.{split_once_first}
use Rattle.config_params.specs.Pairs.{is_equals_sign}
use Rattle.config_params.proofs.Cuts.{not_there}
use Rattle.config_params.proofs.pair.pair_of.Goals as goal

pub returns-in_default : goal.returns-in_default
returns-in_default c = rw (not_there is_equals_sign c.args.word.now (split_once_first 61 c.args.word.now None c.in_default.ensures.cases (lit< tt))) refl

pub returns : goal.returns
returns c = grind (arith, common_steps)
