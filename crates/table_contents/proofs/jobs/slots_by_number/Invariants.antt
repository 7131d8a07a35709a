-- The slots so far are those of the numbers that their jobs have.
use Rattle.std.proofs.Common.{◌≡◌, ℕ, None, get_or, length}
use Rattle.table_contents.specs.Prepared.{slot_below}
use Rattle.table_contents.proofs.jobs.slots_by_number.Given as goal

abbrev pub invariant-loop-slot : goal.invariant-loop-slot
invariant-loop-slot l = (length l.index.items ≡ l.many) × ((number : ℕ) → get_or l.index.items number None ≡ slot_below l.plan number l.slot)
