-- No node below the number is open; wherever the schedule ends from here, it ends from the start; and what is left to do falls.
use Rattle.std.proofs.Common.{◌≡◌}
use Rattle.scheduling.specs.Inside.Lowest.{NoneOpenBelow}
use Rattle.scheduling.specs.Inside.Work.{work_left}
use Rattle.sched_core.specs.Drives.{LeadsTo, IsOnSchedule}
use Rattle.sched_core.specs.Inside.Fields.{state_of, IsSound}
use Rattle.sched_core.proofs.machine.Machine.drive.Given as goal

abbrev pub invariant-schedule : goal.invariant-schedule
invariant-schedule l = IsSound l.plan l.answers l.self × (l.self.workers ≡ l.initial.self.workers) × IsOnSchedule l.plan l.answers (state_of l.self) × NoneOpenBelow (state_of l.self) l.lowest × LeadsTo l.plan l.answers (state_of l.initial.self) (state_of l.self)

abbrev pub decreases-schedule : goal.decreases-schedule
decreases-schedule l = work_left l.plan (state_of l.self)
