-- What the scripts behind these change of what is kept so far is what all say.
use Rattle.std.proofs.Common.{◌≡◌, ℕ, drop, get_or}
use Rattle.ready_runs.specs.Scripted.{spin_behind, spin_of}
use Rattle.ready_runs.proofs.scripted.spins_of.Given as goal

abbrev pub invariant-loop-script : goal.invariant-loop-script
invariant-loop-script l = (body : ℕ) → spin_behind (get_or l.spins.items body 0) (drop l.script-index l.scripts) body ≡ spin_of l.scripts body
