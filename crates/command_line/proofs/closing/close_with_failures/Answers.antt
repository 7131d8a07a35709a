-- What is said of a run stands behind what is said of its answer.
use Rattle.std.proofs.Common.{string_bytes}
use Rattle.std.specs.Prelude.{option_map}
use Rattle.messages.specs.Sentences.{sentence_by}
use Rattle.command_line.proofs.Ended.{closes_run}
use Rattle.command_line.proofs.closing.close_with_failures.Goals as goal

pub returns : goal.returns
returns g c = closes_run (sentence_by c.args.subject) (g.W.Write.contents) (g.E.Write.contents) c.args.answer (option_map string_bytes c.args.slowest) _ _ _ _ _ c.close_run-ending.result c.close_run-ending.ensures.closed c.close_run-ending.ensures.silent c.say_if_run.ensures
