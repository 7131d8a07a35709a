-- What is printed is the refusal's.
use Rattle.std.proofs.Common.{Err, Some}
use Rattle.messages.specs.Sentences.{sentence_by}
use Rattle.command_line.proofs.Ended.{says_why}
use Rattle.command_line.proofs.closing.refuse.Goals as goal

pub returns : goal.returns
returns g c = record {
  line = c.close.ensures.line;
  message = says_why (sentence_by c.args.subject) (g.E.Write.contents) _ _ c.close.result.is_told (Err c.args.fault) (Some c.message_of-message.result) c.message_of-message.ensures c.close.ensures.message;
  status = c.close.ensures.status;
}
