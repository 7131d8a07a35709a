-- One line more.
use Rattle.std.proofs.Common.{string_bytes, arith, ◌<◌}
use Rattle.std.proofs.lemmas.Grind.{common_steps}
use Rattle.run_results.specs.SummaryTexts.{phrases}
use Rattle.run_results.proofs.Printing.{line_more}
use Rattle.run_results.proofs.summary_lines.push_counts.Goals as goal

pub loop-place-preserved : goal.loop-place-preserved
loop-place-preserved c =
    let inside : c.loop-place.place < 12 = grind (arith, common_steps) in
    line_more c.args.counts phrases c.loop-place.place (string_bytes c.args.text.now) (string_bytes c.loop-place.text) (string_bytes c.push_line.new.text) c.phrase.result.now
    (grind (arith, common_steps)) inside c.phrase.ensures c.loop-place.invariant c.in_ok-push_line.ensures
