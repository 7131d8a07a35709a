-- What is told is what its body answered, which it has kept.
use Rattle.harness.proofs.job.TestJobJob.run.Goals as goal

pub returns-clause-given : goal.returns-clause-given
returns-clause-given g c = (let said = c.finish.ensures.said in (said.0, said.1, said.2))

pub returns-clause-said : goal.returns-clause-said
returns-clause-said g c = (let said = c.finish.ensures.said in (said.0, said.3, said.2))
