-- The core's fields as a snapshot, and what they keep. Only the core's model and proofs need this file.
use Rattle.sched_core.specs.Snapshot.{Snapshot}
use Rattle.scheduling.specs.LinkLists.{AreTurns}
use Rattle.sched_core.specs.Inside.Fields.{state_of, IsSound}
use Rattle.sched_core.specs.declared.core_steps.Core.TheInside.{Inside}

-- what contracts see of the fields
abbrev pub snapshot_of : Inside → Snapshot
snapshot_of c = record { plan = c.plan; answers = c.answers; state = state_of c.machine }

-- the machine is sound for the plan and the answers, and the turns are the plan's
abbrev pub IsSoundInside : Inside → Type 0
IsSoundInside c = IsSound c.plan c.answers c.machine × AreTurns c.plan c.turns
