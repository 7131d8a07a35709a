-- It is still the worker's turn, and less is left to do than at first.
use Rattle.std.proofs.Common.{◌≡◌, ◌<◌, length}
use Rattle.scheduling.specs.State.{State}
use Rattle.termination.specs.Inside.Accounts.{steps_left}
use Rattle.termination.specs.Inside.Turns.{IsTurnOf}
use Rattle.sched_core.specs.Inside.Fields.{state_of, IsSound}
use Rattle.sched_core.specs.InTurns.{TakesKeys}
use Rattle.sched_core.specs.Inside.Rounds.{Leads}
use Rattle.sched_core.proofs.machine.Machine.turn.Given as goal

abbrev pub invariant-keys : goal.invariant-keys
invariant-keys l = IsSound l.plan l.answers l.self × (l.self.workers ≡ l.initial.self.workers) × IsTurnOf l.plan (state_of l.self) l.fn.place × Leads l.plan l.answers (state_of l.initial.self) (state_of l.self) × (l.fn.place < length l.self.seats.items)
    × ((t : State) → TakesKeys l.plan l.answers l.fn.place (state_of l.self) t → TakesKeys l.plan l.answers l.fn.place (state_of l.initial.self) t)

abbrev pub decreases-keys : goal.decreases-keys
decreases-keys l = steps_left l.plan (state_of l.self)
