-- A text that no plus is stripped of has none in front.
use Rattle.std.proofs.Common.{None, lit<}
use Rattle.std.proofs.lemmas.Str.Pattern.{strip_prefix_char}
use Rattle.launch_options.proofs.Pairing.{no_plus}
use Rattle.launch_options.proofs.parameters.without_plus.Goals as goal

pub returns-in-None : goal.returns-in-None
returns-in-None c = no_plus c.args.text.now (strip_prefix_char 43 c.args.text.now None c.in-None.ensures.cases (lit< tt))
