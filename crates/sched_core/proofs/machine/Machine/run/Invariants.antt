-- The steps left lead from here to where all steps lead from the start, and pass over what is not counted yet.
use Rattle.std.proofs.Common.{◌≡◌, ◌+◌, ◌≤◌, drop}
use Rattle.sched_core.specs.Inside.Fields.{state_of, IsSound}
use Rattle.sched_core.specs.Runs.{run, passed_over}
use Rattle.sched_core.proofs.machine.Machine.run.Given as goal

abbrev pub invariant-loop-step : goal.invariant-loop-step
invariant-loop-step l =
    (l.missed ≤ l.step-index) × IsSound l.plan l.answers l.self × (l.self.workers ≡ l.initial.self.workers)
    × (run l.plan l.answers (state_of l.self) (drop l.step-index l.steps) ≡ run l.plan l.answers (state_of l.initial.self) l.steps)
    × (l.missed + passed_over l.plan l.answers (state_of l.self) (drop l.step-index l.steps) ≡ passed_over l.plan l.answers (state_of l.initial.self) l.steps)
