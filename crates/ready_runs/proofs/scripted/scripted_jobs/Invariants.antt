-- The slots so far have their jobs.
use Rattle.ready_runs.specs.Scripted.{AreScripted}
use Rattle.ready_runs.proofs.scripted.scripted_jobs.Given as goal

abbrev pub invariant-loop-slot : goal.invariant-loop-slot
invariant-loop-slot l = AreScripted l.plan l.answers l.slot l.jobs.items
