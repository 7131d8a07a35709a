-- The search proves it. Written out, it spares a wrong body the printing of what is left to show.
use Rattle.std.proofs.Common.{rules}
use Rattle.run_results.proofs.feed.id_of.Goals as goal

pub returns : goal.returns
returns c = search rules
