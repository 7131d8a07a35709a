-- The step in turn is possible, and leaves less to do.
use Rattle.std.proofs.Common.{◌∙◌, sym}
use Rattle.sched_core.proofs.Serving.{works_so, works_ok}
use Rattle.sched_core.proofs.machine.Machine.works.Goals as goal

pub returns-clause-step : goal.returns-clause-step
returns-clause-step c q = (works_so c.args.plan.now c.args.answers.now c.args.self.now c.step.new.self c.requires.sound c.args.place c.requires.place c.requires.turn c.in-Some.action c.in-Some.ensures c.step.result c.step.ensures.answered).step

pub returns-clause-turn : goal.returns-clause-turn
returns-clause-turn c = (works_so c.args.plan.now c.args.answers.now c.args.self.now c.step.new.self c.requires.sound c.args.place c.requires.place c.requires.turn c.in-Some.action c.in-Some.ensures c.step.result c.step.ensures.answered).turn

pub returns-clause-leads : goal.returns-clause-leads
returns-clause-leads c = (works_so c.args.plan.now c.args.answers.now c.args.self.now c.step.new.self c.requires.sound c.args.place c.requires.place c.requires.turn c.in-Some.action c.in-Some.ensures c.step.result c.step.ensures.answered).leads

pub returns-clause-less : goal.returns-clause-less
returns-clause-less c q = (works_so c.args.plan.now c.args.answers.now c.args.self.now c.step.new.self c.requires.sound c.args.place c.requires.place c.requires.turn c.in-Some.action c.in-Some.ensures c.step.result c.step.ensures.answered).less

pub returns-clause-idle : goal.returns-clause-idle
returns-clause-idle c q = absurd (works_ok c.args.plan.now c.args.answers.now c.args.self.now c.step.new.self c.requires.sound c.args.place c.requires.place c.requires.turn c.in-Some.action c.in-Some.ensures c.step.result c.step.ensures.answered (sym c.is_ok.ensures.value ∙ q))
