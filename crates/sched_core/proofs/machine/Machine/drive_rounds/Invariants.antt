-- What each round leaves, and less is left to do after it.
use Rattle.std.proofs.Common.{◌≡◌}
use Rattle.scheduling.specs.State.{State}
use Rattle.termination.specs.Inside.Accounts.{steps_left}
use Rattle.termination.specs.Inside.Turns.{IsBetweenTurns}
use Rattle.sched_core.specs.Inside.Fields.{state_of, IsSound}
use Rattle.sched_core.specs.Inside.Rounds.{Leads}
use Rattle.sched_core.specs.InTurns.{Rounds}
use Rattle.sched_core.proofs.machine.Machine.drive_rounds.Given as goal

abbrev pub invariant-rounds : goal.invariant-rounds
invariant-rounds l = IsSound l.plan l.answers l.self × (l.self.workers ≡ l.initial.self.workers) × IsBetweenTurns (state_of l.self) × Leads l.plan l.answers (state_of l.initial.self) (state_of l.self)
    × ((t : State) → Rounds l.plan l.answers l.initial.self.workers (state_of l.self) t → Rounds l.plan l.answers l.initial.self.workers (state_of l.initial.self) t)

abbrev pub decreases-rounds : goal.decreases-rounds
decreases-rounds l = steps_left l.plan (state_of l.self)
