-- Less is left to do, or nothing has changed and the workers so far had nothing to do.
use Rattle.std.proofs.Common.{◌≡◌, ◌<◌, ℕ, true, false}
use Rattle.termination.specs.Inside.Accounts.{steps_left}
use Rattle.termination.specs.Inside.Turns.{IsBetweenTurns}
use Rattle.sched_core.specs.Inside.Fields.{state_of, IsSound}
use Rattle.sched_core.specs.Inside.Rounds.{IsQuiet, Leads}
use Rattle.sched_core.specs.InTurns.{IsRound}
use Rattle.sched_core.proofs.machine.Machine.round.Given as goal

abbrev pub invariant-loop-place : goal.invariant-loop-place
invariant-loop-place l =
    IsSound l.plan l.answers l.self × (l.self.workers ≡ l.initial.self.workers) × IsBetweenTurns (state_of l.self) × Leads l.plan l.answers (state_of l.initial.self) (state_of l.self)
    × (l.went_on ≡ true → steps_left l.plan (state_of l.self) < steps_left l.plan (state_of l.initial.self))
    × (l.went_on ≡ false → (v : ℕ) → v < l.place → IsQuiet l.plan l.answers (state_of l.self) v)
    × IsRound l.plan l.answers l.place (state_of l.initial.self) (state_of l.self)
    × (l.went_on ≡ false → l.self ≡ l.initial.self)
