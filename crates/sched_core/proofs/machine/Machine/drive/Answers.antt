-- Where nothing goes on, the schedule has ended.
use Rattle.std.proofs.Common.{refl}
use Rattle.scheduling.proofs.Scheduled.{leads_end}
use Rattle.sched_core.specs.Drives.{reply_given}
use Rattle.sched_core.specs.Inside.Fields.{state_of}
use Rattle.sched_core.proofs.machine.Machine.drive.Goals as goal

pub returns-clause-drives : goal.returns-clause-drives
returns-clause-drives c =
    leads_end c.args.plan.now (reply_given c.args.plan.now c.args.answers.now) (state_of c.args.self.now) (state_of c.goes_on.new.self)
    (c.in_default.ensures.leads (state_of c.args.self.now) c.schedule.invariant.4) (c.in_default.ensures.unread refl) (c.in_default.ensures.settled refl)
