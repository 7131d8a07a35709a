-- What holds of the bodies holds of their jobs.
use Rattle.std.proofs.Common.{refl}
use Rattle.test_bodies.specs.Bodies.{is_spent, tests_left}
use Rattle.test_bodies.specs.Replies.{replies_by}
use Rattle.harness.specs.Jobs.{replies_left}
use Rattle.harness.proofs.Answering.{has_made, if_ok, may_made}
use Rattle.harness.proofs.job.jobs_of.Goals as goal

pub returns-clause-has : goal.returns-clause-has
returns-clause-has g c = if_ok c.collected.result c.collected.ensures (λ jobs is. has_made (λ b. record { body = b }) c.args.bodies.items jobs.items is)

pub returns-clause-may_answer : goal.returns-clause-may_answer
returns-clause-may_answer g c = if_ok c.collected.result c.collected.ensures (λ jobs is. may_made (λ b. record { body = b }) (λ b. replies_by (is_spent b) (tests_left b)) replies_left (λ b. refl) c.args.bodies.items jobs.items is)
