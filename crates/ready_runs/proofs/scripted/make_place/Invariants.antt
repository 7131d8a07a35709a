-- A new place says of no body more than was said.
use Rattle.std.proofs.Common.{◌≡◌, ◌-◌, ◌+◌, ℕ, length, get_or}
use Rattle.ready_runs.proofs.scripted.make_place.Given as goal

abbrev pub invariant-loop-spins : goal.invariant-loop-spins
invariant-loop-spins l = (body : ℕ) → get_or l.spins.items body 0 ≡ get_or l.initial.spins.items body 0

abbrev pub decreases-loop-spins : goal.decreases-loop-spins
decreases-loop-spins l = l.place + 1 - length l.spins.items
