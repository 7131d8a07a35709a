-- What the lines so far tell.
use Rattle.std.proofs.Common.{◌≡◌, ◌+◌, take}
use Rattle.saved_runs.specs.Lines.{Tell}
use Rattle.unique_id.specs.Answers.{texts}
use Rattle.saved_runs.proofs.saved_run.all_told.Given as goal

abbrev pub invariant-loop-line : goal.invariant-loop-line
invariant-loop-line l = Tell (take l.line-index (texts l.lines)) l.told.items × (l.number ≡ l.line-index + 1)
