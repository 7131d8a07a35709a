-- The notes are those of the events gone through.
use Rattle.std.proofs.Common.{take}
use Rattle.sched_core.specs.Texts.{AreTexts}
use Rattle.sched_core.proofs.text.texts_of.Given as goal

abbrev pub invariant-loop-event : goal.invariant-loop-event
invariant-loop-event l = AreTexts l.plan l.answers (take l.event-index l.events) l.texts
