-- The numbers of the slots so far have their places.
use Rattle.std.proofs.Common.{◌≡◌, ℕ, ◌<◌, Some}
use Rattle.table_rule.specs.Slots.{job_at}
use Rattle.table_contents.proofs.jobs.places_for.Given as goal

abbrev pub invariant-loop-slot : goal.invariant-loop-slot
invariant-loop-slot l = (k number : ℕ) → k < l.slot → job_at l.plan k ≡ Some number → number < l.places
