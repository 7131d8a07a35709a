-- The search proves it. Written out, it spares a wrong body the printing of what is left to show.
use Rattle.std.proofs.Common.{rules}
use Rattle.listeners.proofs.audience.text_with.Goals as goal

pub returns-in-Started : goal.returns-in-Started
returns-in-Started c = search rules
