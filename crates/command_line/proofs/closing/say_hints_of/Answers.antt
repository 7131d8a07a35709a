-- The lines are those of the hints.
use Rattle.std.proofs.Common.{string_bytes}
use Rattle.messages.specs.Hints.{hints_text}
use Rattle.command_line.proofs.Ended.{says_some}
use Rattle.command_line.proofs.closing.say_hints_of.Goals as goal

pub returns-then-not-are_none : goal.returns-then-not-are_none
returns-then-not-are_none g c = says_some (g.E.Write.contents) _ _ string_bytes hints_text c.in-Ok-hints_of.hints c.hints_text.result c.ok.result c.ok.ensures.value c.hints_text.ensures c.say.ensures
