-- So many slots are there, with nothing in them, and there is room for the rest.
use Rattle.std.proofs.Common.{◌≡◌, ◌≤◌, replicate}
use Rattle.std.specs.Prelude.{vec_capacity}
use Rattle.table_rule.specs.declared.view.Slot.TheVariants.{Empty}
use Rattle.table_contents.proofs.jobs.empty_slots.Given as goal

abbrev pub invariant-loop-slot : goal.invariant-loop-slot
invariant-loop-slot g l = (l.slots.items ≡ replicate l._slot Empty) × (l.count ≤ vec_capacity l.slots)
