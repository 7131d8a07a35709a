-- The details are behind the sentence and its end of a line.
use Rattle.std.proofs.Common.{◌++◌, codes, string_bytes, sym, subst}
use Rattle.command_line.proofs.GoneOut.{behind_all}
use Rattle.command_line.specs.Runs.{PrintsMessage, WentOut}
use Rattle.command_line.proofs.closing.print_message.Goals as goal

pub returns-then-both_go_out : goal.returns-then-both_go_out
returns-then-both_go_out g c =
    let contents = g.W.Write.contents in
    let said = c.in-Some.said in
    subst (λ m. PrintsMessage contents m c.args.writer.now c.goes_out.new.writer c.goes_out.result) (sym c.in-Some.is)
    (behind_all c.goes_out.result (contents c.args.writer.now) (contents c.both_go_out.new.writer) (contents c.goes_out.new.writer) (said.sentence.now ++ codes "\n") (string_bytes said.details) c.if-both_go_out.ensures
    (subst (WentOut c.goes_out.result (contents c.both_go_out.new.writer) (contents c.goes_out.new.writer)) c.as_str.ensures.value c.goes_out.ensures))
