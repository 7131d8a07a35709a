-- The slots so far are taken, and their jobs stand behind the others, and those that have answered, and their notes.
use Rattle.std.proofs.Common.{◌≡◌, ℕ, ◌+◌, ◌<◌, ◌≤◌, ◌++◌, false, get_or, take, vec_len}
use Rattle.std.specs.Prelude.{vec_capacity}
use Rattle.std.specs.Mem.Slots.{slots_items, slots_filled, slots_len}
use Rattle.std.specs.Mem.Slots.Ownership.{Filled}
use Rattle.table_contents.specs.Remains.{notes_from}
use Rattle.table_contents.specs.Prepared.{jobs_from}
use Rattle.table_contents.specs.Remains.{used_from}
use Rattle.table_contents.proofs.remains.taken_out.Given as goal

abbrev pub invariant-loop-slot : goal.invariant-loop-slot
invariant-loop-slot g l =
    Filled (slots_filled l.closed.slots) l.slot (slots_len l.closed.slots)
    × ((k : ℕ) → k < l.slot → get_or (slots_filled l.closed.slots) k false ≡ false)
    × (slots_items l.closed.slots ≡ slots_items l.initial.closed.slots)
    × (slots_len l.closed.slots ≡ slots_len l.initial.closed.slots)
    × (l.jobs.items ≡ l.initial.jobs.items ++ jobs_from l.plan 0 (take l.slot (slots_items l.initial.closed.slots)))
    × (vec_len l.jobs ≤ vec_len l.initial.jobs + l.slot)
    × (vec_capacity l.jobs ≡ vec_capacity l.initial.jobs)
    × (l.used.items ≡ used_from l.plan 0 (take l.slot (slots_items l.initial.closed.slots)))
    × (vec_len l.used ≤ l.slot)
    × (vec_capacity l.used ≡ vec_capacity l.initial.used)
    × (l.notes.items ≡ notes_from 0 (take l.slot (slots_items l.initial.closed.slots)))
    × (vec_len l.notes ≤ l.slot)
    × (vec_capacity l.notes ≡ vec_capacity l.initial.notes)
