-- What is told of an answer does not depend on how many dynamic tests were asked for.
use Rattle.std.specs.Prelude.{Result}
use Rattle.plan_events.specs.declared.job.Pull.{Pull}
use Rattle.plan_events.specs.declared.job.Pull.TheVariants.{More, End}
use Rattle.plan_events.specs.declared.outcome.Outcome.{Outcome}
use Rattle.plan_events.specs.declared.outcome.Reply.{Reply}
use Rattle.plan_events.specs.Jobs.{before_pull}
use Rattle.test_bodies.specs.Stops.{IsTold}
use Rattle.harness.proofs.job.TestJobJob.next.Goals as goal

told_before : (pull : Pull) (reply : Reply) (answer : Result (Unit {0}) Outcome) → IsTold answer reply.outcome → IsTold answer (before_pull pull reply).outcome
told_before More reply answer is = is
told_before End reply answer is = is

pub returns-clause-given : goal.returns-clause-given
returns-clause-given g c reply x = (x.0, c.next_test.ensures.same x.0 x.1, told_before c.next_test.result reply x.0 x.2)
