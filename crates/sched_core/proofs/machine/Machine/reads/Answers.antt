-- What a read leaves, and what it leaves where nothing is to be read.
use Rattle.std.proofs.Common.{◌∙◌, sym}
use Rattle.sched_core.proofs.OneWorker.{was_read, not_read, not_ok}
use Rattle.sched_core.proofs.machine.Machine.reads.Goals as goal

pub returns-clause-read : goal.returns-clause-read
returns-clause-read c q = was_read c.args.self.now c.step.new.self c.step.result c.step.ensures.answered (sym c.is_ok.ensures.value ∙ q)

pub returns-clause-idle : goal.returns-clause-idle
returns-clause-idle c q = not_read c.args.self.now c.step.new.self c.step.result c.step.ensures.answered (not_ok c.step.result (sym c.is_ok.ensures.value ∙ q))
