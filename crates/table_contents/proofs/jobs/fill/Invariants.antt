-- The jobs so far are in their slots, or among the unused, for which there is room.
use Rattle.std.proofs.Common.{◌≡◌, ◌+◌, ◌≤◌, [], length, vec_len}
use Rattle.std.specs.Prelude.{vec_capacity}
use Rattle.descriptor.specs.Nodes.{IsTree}
use Rattle.resource_locks.specs.Plans.{PlanParts}
use Rattle.table_contents.specs.Filling.{IsIndex, IsFilled}
use Rattle.table_contents.proofs.jobs.fill.Given as goal

abbrev pub invariant-loop-number : goal.invariant-loop-number
invariant-loop-number g l =
    ((p : PlanParts) → IsTree p.tree → IsIndex p l.index → IsFilled p [] l.initial.slots l.initial.unused.items → IsFilled p l.yielded l.slots l.unused.items)
    × (length l.slots ≡ length l.initial.slots)
    × (vec_len l.unused ≤ vec_len l.initial.unused + length l.yielded)
    × (vec_capacity l.unused ≡ vec_capacity l.initial.unused)
