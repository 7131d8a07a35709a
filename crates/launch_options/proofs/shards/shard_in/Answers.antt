-- Without a colon none stands in the text.
use Rattle.std.proofs.Common.{None, rules, lit<}
use Rattle.std.proofs.lemmas.Str.Pattern.{split_once_first}
use Rattle.config_params.proofs.Cuts.{not_there}
use Rattle.launch_options.specs.ShardTexts.{is_colon}
use Rattle.launch_options.proofs.shards.shard_in.Goals as goal

pub returns-in-None : goal.returns-in-None
returns-in-None c = rw (not_there is_colon c.args.text.now (split_once_first 58 c.args.text.now None c.in-None.ensures.cases (lit< tt))) (search rules)
