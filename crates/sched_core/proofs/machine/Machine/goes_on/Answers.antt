-- A read that was possible is a step of the schedule, and so is the worker's step where none was.
use Rattle.std.proofs.Common.{sym, subst}
use Rattle.scheduling.proofs.LessWorkSteps.{read_lessens}
use Rattle.scheduling.proofs.Scheduled.{leads_read}
use Rattle.sched_core.specs.declared.machine.Machine.{Machine}
use Rattle.sched_core.specs.Drives.{reply_given, LeadsTo}
use Rattle.sched_core.specs.Inside.Fields.{state_of}
use Rattle.sched_core.proofs.machine.Machine.goes_on.Goals as goal

pub returns-then-reads-clause-leads : goal.returns-then-reads-clause-leads
returns-then-reads-clause-leads c first leads = leads_read c.args.plan.now (reply_given c.args.plan.now c.args.answers.now) first (state_of c.args.self.now) (state_of c.reads.new.self) leads (c.reads.ensures.read c.if-reads.true)

pub returns-then-reads-clause-less : goal.returns-then-reads-clause-less
returns-then-reads-clause-less c = read_lessens c.args.plan.now (state_of c.args.self.now) (state_of c.reads.new.self) (c.reads.ensures.read c.if-reads.true)

pub returns-clause-leads : goal.returns-clause-leads
returns-clause-leads c first leads =
    let idle = c.reads.ensures.idle c.if-reads.false in
    c.advance.ensures.leads first (subst (λ (m : Machine). LeadsTo c.args.plan.now c.args.answers.now first (state_of m)) (sym idle.1) leads)
