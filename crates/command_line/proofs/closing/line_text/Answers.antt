-- What was written is the line.
use Rattle.std.proofs.Common.{◌∙◌, ◌++◌, ℕ, List, ap}
use Rattle.command_line.specs.Runs.{refusal_line}
use Rattle.command_line.proofs.GoneOut.{written}
use Rattle.command_line.proofs.closing.line_text.Goals as goal

pub returns-in-Ok : goal.returns-in-Ok
returns-in-Ok c = written (λ s. s.bytes) c.new-line.result c.writeln.new.self (refusal_line c.args.fault) c.in-Ok.ensures.writes ∙ ap (λ (l : List ℕ). l ++ refusal_line c.args.fault) c.new-line.ensures
