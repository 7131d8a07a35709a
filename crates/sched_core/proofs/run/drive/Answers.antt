-- What the trace of one worker tells is what that of so many workers does.
use Rattle.std.proofs.Common.{refl}
use Rattle.sched_core.proofs.run.drive.Goals as goal

pub returns-in-Ok-clause-driven : goal.returns-in-Ok-clause-driven
returns-in-Ok-clause-driven c = (c.in-Ok.ensures.one refl).driven

pub returns-in-Ok-clause-only : goal.returns-in-Ok-clause-only
returns-in-Ok-clause-only c = (c.in-Ok.ensures.one refl).only

pub returns-in-Ok-clause-shown : goal.returns-in-Ok-clause-shown
returns-in-Ok-clause-shown c = (c.in-Ok.ensures.one refl).shown

pub returns-in-Ok-clause-whole : goal.returns-in-Ok-clause-whole
returns-in-Ok-clause-whole c = (c.in-Ok.ensures.one refl).whole

pub returns-in-Ok-clause-only_history : goal.returns-in-Ok-clause-only_history
returns-in-Ok-clause-only_history c = (c.in-Ok.ensures.one refl).only_history
