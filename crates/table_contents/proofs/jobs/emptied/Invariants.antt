-- The jobs of the slots so far stand behind the others, and there is room for the rest.
use Rattle.std.proofs.Common.{◌≡◌, ◌+◌, ◌≤◌, ◌++◌, length, vec_len}
use Rattle.std.specs.Prelude.{vec_capacity}
use Rattle.table_contents.specs.Prepared.{jobs_from}
use Rattle.table_contents.proofs.jobs.emptied.Given as goal

abbrev pub invariant-loop-slot : goal.invariant-loop-slot
invariant-loop-slot g l = (l.jobs.items ≡ l.initial.jobs.items ++ jobs_from l.plan 0 l.yielded) × (l.number ≡ length l.yielded) × (vec_len l.jobs ≤ vec_len l.initial.jobs + length l.yielded) × (vec_capacity l.jobs ≡ vec_capacity l.initial.jobs)
