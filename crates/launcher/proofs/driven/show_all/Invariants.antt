-- The events so far were seen.
use Rattle.std.proofs.Common.{take}
use Rattle.listeners.specs.Listeners.{tellings_of}
use Rattle.listeners.specs.Observing.{HasSeenMore}
use Rattle.launcher.proofs.driven.show_all.Given as goal

abbrev pub invariant-loop-event : goal.invariant-loop-event
invariant-loop-event g l = HasSeenMore g.V.Observer.saw l.plan (tellings_of l.texts (take l.event-index l.events)) l.initial.observer l.observer
