-- The arguments that were listed are those that were given.
use Rattle.std.proofs.Common.{refl, string_bytes}
use Rattle.std.specs.Vec.Iter.{into_iter_items}
use Rattle.command_line.specs.Conducting.{Conducts, sentences_of}
use Rattle.messages.specs.Sentences.{sentence_by}
use Rattle.command_line.proofs.Commanded.{closes_as, told_no_words, told_words}
use Rattle.command_line.proofs.Told.{if_err}
use Rattle.command_line.proofs.command.run_main.Goals as goal

pub returns-in-Ok-clause-run : goal.returns-in-Ok-clause-run
returns-in-Ok-clause-run g c =
    told_words (sentences_of c.args.source) (g.W.Write.contents) (g.E.Write.contents) (Conducts g.B.Job.answers g.B.Job.gives g.B.Job.says (g.R.Read.remaining) (g.V.Observer.saw) (g.W.Write.contents) (g.E.Write.contents) (g.K.ReportFiles.deeds) c.args.is_terminal c.args.facts.now c.args.source) c.args.facts.now into_iter_items string_bytes c.args.words c.in-Ok.words.items c.as_slice.result.now
    _ _ _ _ _ _ _ _ _ _ c.run_given.result c.in-Ok.ensures.all c.as_slice.ensures.value c.run_given.ensures

pub returns-in-Err-clause-run : goal.returns-in-Err-clause-run
returns-in-Err-clause-run g c =
    told_no_words (sentences_of c.args.source) (g.W.Write.contents) (g.E.Write.contents) (Conducts g.B.Job.answers g.B.Job.gives g.B.Job.says (g.R.Read.remaining) (g.V.Observer.saw) (g.W.Write.contents) (g.E.Write.contents) (g.K.ReportFiles.deeds) c.args.is_terminal c.args.facts.now c.args.source) c.args.facts.now into_iter_items string_bytes c.args.words c.in-Err.fault
    _ _ _ _ _ _ _ c.refuse.result c.in-Err.ensures.all
    (closes_as (g.W.Write.contents) (g.E.Write.contents) (sentence_by c.subject_of-subject.result) (sentences_of c.args.source) c.in-Err.fault _ _ _ _ c.refuse.result c.subject_of-subject.ensures c.refuse.ensures)

pub returns-in-Ok-clause-refused : goal.returns-in-Ok-clause-refused
returns-in-Ok-clause-refused g c = if_err c.args.words c.in-Ok.ensures.refused (λ error none. absurd none)

pub returns-in-Err-clause-refused : goal.returns-in-Err-clause-refused
returns-in-Err-clause-refused g c =
    if_err c.args.words c.in-Err.ensures.refused (λ error is. (
      c.in-Err.fault,
      is,
      record {
        unread = refl;
        unseen = refl;
        untouched = refl;
        closes = closes_as (g.W.Write.contents) (g.E.Write.contents) (sentence_by c.subject_of-subject.result) (sentences_of c.args.source) c.in-Err.fault _ _ _ _ c.refuse.result c.subject_of-subject.ensures c.refuse.ensures;
      },
    ))
