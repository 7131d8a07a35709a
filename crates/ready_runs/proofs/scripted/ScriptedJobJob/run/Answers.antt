-- The reply is given, and none is left.
use Rattle.std.proofs.Common.{sym, ◌∙◌}
use Rattle.ready_runs.proofs.Scripting.{ran_out}
use Rattle.ready_runs.proofs.scripted.ScriptedJobJob.run.Goals as goal

pub returns-in-Some-clause-outcome : goal.returns-in-Some-clause-outcome
returns-in-Some-clause-outcome c = ran_out c.args.self.now.reply c.in-Some.reply (sym c.take.ensures.value ∙ c.in-Some.is)
