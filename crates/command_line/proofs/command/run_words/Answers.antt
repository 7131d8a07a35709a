-- Where the arguments are refused nothing is read or run; else what they ask for is done.
use Rattle.std.proofs.Common.{map, string_bytes}
use Rattle.launch_options.specs.Given.{maybe_behind}
use Rattle.launch_options.specs.ReportTexts.{parts_of}
use Rattle.command_line.specs.Conducting.{Conducts, sentences_of}
use Rattle.messages.specs.Sentences.{sentence_by}
use Rattle.command_line.proofs.Commanded.{asked_for, unread_as, unread_words}
use Rattle.command_line.proofs.command.run_words.Goals as goal

pub returns-in-Ok : goal.returns-in-Ok
returns-in-Ok g c =
    let run = c.conduct in
    asked_for (sentences_of c.args.source) (g.W.Write.contents) (g.E.Write.contents) (Conducts g.B.Job.answers g.B.Job.gives g.B.Job.says (g.R.Read.remaining) (g.V.Observer.saw) (g.W.Write.contents) (g.E.Write.contents) (g.K.ReportFiles.deeds) c.args.is_terminal c.args.facts.now c.args.source) (map string_bytes c.args.words.now) c.in-Ok.launch.options (maybe_behind c.in-Ok.launch.suite) (map parts_of c.in-Ok.launch.reports.items)
    _ _ _ _ _ _ _ _ _ _ run.result c.in-Ok.ensures.read c.in-Ok.ensures.suite c.in-Ok.ensures.reports run.ensures

pub returns-in-Err : goal.returns-in-Err
returns-in-Err g c =
    unread_words (sentences_of c.args.source) (g.W.Write.contents) (g.E.Write.contents) (Conducts g.B.Job.answers g.B.Job.gives g.B.Job.says (g.R.Read.remaining) (g.V.Observer.saw) (g.W.Write.contents) (g.E.Write.contents) (g.K.ReportFiles.deeds) c.args.is_terminal c.args.facts.now c.args.source) (map string_bytes c.args.words.now) c.in-Err.fault
    _ _ _ _ _ _ _ c.close_unread.result c.in-Err.ensures.read
    (unread_as (g.W.Write.contents) (g.E.Write.contents) (sentence_by c.subject_of-subject.result) (sentences_of c.args.source) (map string_bytes c.args.words.now) c.in-Err.fault _ _ _ _ c.close_unread.result c.subject_of-subject.ensures c.close_unread.ensures)
