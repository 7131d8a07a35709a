-- The text is of what failed.
use Rattle.std.proofs.Common.{codes, string_bytes}
use Rattle.live.specs.FailedTexts.{failed_of}
use Rattle.command_line.proofs.Ended.{says_some}
use Rattle.command_line.proofs.closing.say_failures.Goals as goal

pub returns-then-not-are_none : goal.returns-then-not-are_none
returns-then-not-are_none g c = says_some (g.E.Write.contents) _ _ string_bytes (failed_of (codes "select-unique-id")) c.args.failures.now c.failed_text.result c.ok.result c.ok.ensures.value c.failed_text.ensures c.say.ensures
