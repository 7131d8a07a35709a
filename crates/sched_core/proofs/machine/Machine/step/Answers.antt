-- A step leaves the machine sound, with the same workers.
use Rattle.scheduling.specs.declared.step.Step.TheVariants.{Worker, Read}
use Rattle.sched_core.specs.Steps.{after_step}
use Rattle.sched_core.specs.Inside.Fields.{state_of}
use Rattle.sched_core.proofs.Sound.{sound_answered, same_workers}
use Rattle.sched_core.proofs.machine.Machine.step.Goals as goal

pub returns-in-Worker-clause-sound : goal.returns-in-Worker-clause-sound
returns-in-Worker-clause-sound c =
    sound_answered c.args.plan.now c.args.answers.now c.args.self.now c.work.new.self (Worker c.in-Worker.worker c.in-Worker.action) c.work.result c.requires.sound c.work.ensures

pub returns-in-Worker-clause-workers : goal.returns-in-Worker-clause-workers
returns-in-Worker-clause-workers c =
    same_workers c.args.self.now c.work.new.self (after_step c.args.plan.now c.args.answers.now (state_of c.args.self.now) (Worker c.in-Worker.worker c.in-Worker.action)) c.work.result c.work.ensures

pub returns-in-Read-clause-sound : goal.returns-in-Read-clause-sound
returns-in-Read-clause-sound c =
    sound_answered c.args.plan.now c.args.answers.now c.args.self.now c.read.new.self Read c.read.result c.requires.sound c.read.ensures.answered

pub returns-in-Read-clause-workers : goal.returns-in-Read-clause-workers
returns-in-Read-clause-workers c =
    same_workers c.args.self.now c.read.new.self (after_step c.args.plan.now c.args.answers.now (state_of c.args.self.now) Read) c.read.result c.read.ensures.answered
