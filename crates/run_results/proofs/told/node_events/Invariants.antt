-- What the events so far tell.
use Rattle.std.proofs.Common.{◌≡◌, length, take}
use Rattle.run_results.specs.Told.{all_told}
use Rattle.run_results.proofs.told.node_events.Given as goal

abbrev pub invariant-loop-event : goal.invariant-loop-event
invariant-loop-event l = (length l.told.items ≡ l.nodes) × (l.told.items ≡ all_told l.nodes (take l.event-index l.events))
