-- One line more.
use Rattle.std.proofs.Common.{◌++◌, codes, arith}
use Rattle.std.proofs.lemmas.Grind.{common_steps}
use Rattle.reports.specs.Json.{timed_event_object}
use Rattle.reports.proofs.Growing.{list_more}
use Rattle.reports.proofs.JsonEvents.{AreSmall, first_more, text_reads}
use Rattle.reports.proofs.json_lines.timed_json_text.Goals as goal

pub loop-event-preserved : goal.loop-event-preserved
loop-event-preserved c =
    let took = c.args.timings.now.took.items in (
      list_more (λ e. timed_event_object c.args.plan.now c.args.texts.now took e ++ codes "\n") c.args.events.now c.loop-event.event-index c.event-item.result
          (omega arith) c.loop-event.invariant.0 (grind (arith, common_steps)),
      first_more (AreSmall took) c.args.events.now c.loop-event.event-index c.event-item.result (omega arith) c.loop-event.invariant.1 (grind (arith, common_steps)),
    )

pub returns-clause-reads_back : goal.returns-clause-reads_back
returns-clause-reads_back c =
    text_reads c.args.plan.now c.args.texts.now c.args.timings.now.took.items c.args.events.now c.loop-event.event-index c.loop-event-test.false c.loop-event.invariant.0 c.loop-event.invariant.1
