-- What the arguments stand for is done; where a file of arguments is refused nothing else is touched.
use Rattle.std.proofs.Common.{Ok, Err, map, refl, string_bytes}
use Rattle.command_line.specs.Conducting.{sentences_of}
use Rattle.messages.specs.Sentences.{sentence_by}
use Rattle.command_line.proofs.Commanded.{closes_as}
use Rattle.command_line.proofs.Told.{listed_expanded}
use Rattle.command_line.proofs.command.run_given.Goals as goal

pub returns-in-Ok : goal.returns-in-Ok
returns-in-Ok g c = record {
  expanded = Ok (map string_bytes c.as_slice.result.now);
  expands = listed_expanded string_bytes c.args.facts.now (map string_bytes c.args.words.now) c.in-Ok.expanded.items c.as_slice.result.now c.as_slice.ensures.value c.in-Ok.ensures;
  runs = c.run_words.ensures;
}

pub returns-in-Err : goal.returns-in-Err
returns-in-Err g c = record {
  expanded = Err c.in-Err.fault;
  expands = c.in-Err.ensures;
  runs = record {
    unread = refl;
    unseen = refl;
    untouched = refl;
    closes = closes_as (g.W.Write.contents) (g.E.Write.contents) (sentence_by c.subject_of-subject.result) (sentences_of c.args.source) c.in-Err.fault _ _ _ _ c.close_run.result c.subject_of-subject.ensures c.close_run.ensures.closed;
  };
}
