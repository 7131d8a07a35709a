-- What is printed is the answer's.
use Rattle.messages.specs.Sentences.{sentence_by}
use Rattle.command_line.proofs.Ended.{says_nothing, says_why}
use Rattle.command_line.proofs.closing.close_run.Goals as goal

pub returns-clause-closed : goal.returns-clause-closed
returns-clause-closed g c = record {
  line = c.close.ensures.line;
  message = says_why (sentence_by c.args.subject) (g.E.Write.contents) _ _ c.close.result.is_told c.args.answer c.message_after-message.result c.message_after-message.ensures c.close.ensures.message;
  status = c.close.ensures.status;
}

pub returns-clause-silent : goal.returns-clause-silent
returns-clause-silent g c = says_nothing (sentence_by c.args.subject) (g.E.Write.contents) _ _ c.close.result.is_told c.args.answer c.message_after-message.result c.message_after-message.ensures c.close.ensures.message
