-- What a text more asks for comes last.
use Rattle.command_words.proofs.Wanting.{wanted_next}
use Rattle.command_words.proofs.words.reports_in.Goals as goal

pub loop-index-preserved : goal.loop-index-preserved
loop-index-preserved c = wanted_next c.args.texts.now c.loop-index.index _ c.loop-index-test.true c.loop-index.reports.items _ c.loop-index.invariant c.in_ok-add_report.ensures
