-- The line says how far the tests have come, after so many seconds.
use Rattle.live.proofs.Drawing.{some_if_ok}
use Rattle.live.proofs.progress.Progress.next_line.Goals as goal

pub returns-clause-line : goal.returns-clause-line
returns-clause-line g c = some_if_ok c.line.result c.ok.result c.ok.ensures.value (λ text is. (is.0, is.2)) c.line.ensures
