-- The lines of the events so far, each of whose workers is a byte, and whose times are numbers of 64 bits.
use Rattle.std.proofs.Common.{◌≡◌, take, string_bytes}
use Rattle.std.specs.List.{AllByRecursion}
use Rattle.reports.specs.Json.{timed_json_of}
use Rattle.reports.proofs.JsonEvents.{AreSmall}
use Rattle.reports.proofs.json_lines.timed_json_text.Given as goal

abbrev pub invariant-loop-event : goal.invariant-loop-event
invariant-loop-event l =
    let took = l.timings.took.items in
    (string_bytes l.json ≡ timed_json_of l.plan l.texts took (take l.event-index l.events)) × AllByRecursion (AreSmall took) (take l.event-index l.events)
