-- Where the arguments are refused nothing is read and nothing is written; else what they ask for is run.
use Rattle.std.proofs.Common.{Ok, map, string_bytes}
use Rattle.command_line.proofs.Running.{words_refused}
use Rattle.command_line.proofs.console.run_console.Goals as goal

pub returns-in_err-options : goal.returns-in_err-options
returns-in_err-options g c =
    words_refused (g.R.Read.remaining) (g.W.Write.contents) (map string_bytes c.args.words.now) c.in_err-options.field-0.0 c.from_residual.result _ _ _ c.from_residual.ensures.1 c.in_err-options.ensures.read

pub returns : goal.returns
returns g c = record { options = Ok c.in_ok-options.options; reads = c.in_ok-options.ensures.read; runs = c.run_options-answer.ensures }
