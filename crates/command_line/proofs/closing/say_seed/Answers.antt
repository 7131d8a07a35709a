-- The line is the seed's.
use Rattle.std.proofs.Common.{string_bytes}
use Rattle.command_line.specs.Runs.{seed_line}
use Rattle.command_line.proofs.Ended.{says_some}
use Rattle.command_line.proofs.closing.say_seed.Goals as goal

pub returns-in-Some : goal.returns-in-Some
returns-in-Some g c = says_some (g.E.Write.contents) _ _ string_bytes seed_line c.in-Some.seed c.seed_text.result c.ok.result c.ok.ensures.value c.seed_text.ensures c.say.ensures
