-- The words of a run at its start, as the code makes them. Only private functions and proofs need this file.
use Rattle.std.specs.Prelude.{ℕ, ◌+◌, cond, length, None}
use Rattle.descriptor.specs.Nodes.{Nodes, children_of, is_factory_at}
use Rattle.scheduling.specs.declared.seat.Seat.{Seat}
use Rattle.scheduling.specs.declared.task.Task.TheVariants.{Free}

-- one for a node's own guard, and one for each of its children; a factory's are not counted yet
abbrev pub guard_and_children : Nodes → ℕ → ℕ
guard_and_children t n = cond (is_factory_at t n) 1 (length (children_of t n) + 1)

abbrev pub free_seat : Seat
free_seat = record { task = Free; hand = None }
