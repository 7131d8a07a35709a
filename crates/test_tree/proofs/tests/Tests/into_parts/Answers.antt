-- The tree's bodies have jobs, and these were not run.
use Rattle.std.proofs.Common.{sym}
use Rattle.test_bodies.specs.Bodies.{is_spent, tests_left}
use Rattle.test_tree.specs.Building.{held}
use Rattle.test_tree.specs.Growing.{IsPending}
use Rattle.test_tree.specs.Jobs.{HasJobs}
use Rattle.test_tree.proofs.Answering.{may_answer}
use Rattle.test_tree.proofs.Grown.{carried}
use Rattle.test_tree.proofs.tests.Tests.into_parts.Goals as goal

pub returns-in-None-clause-has : goal.returns-in-None-clause-has
returns-in-None-clause-has g c = carried (sym c.finish.ensures.same) (λ t. HasJobs t c.args.self.jobs.items) c.args.self.has

pub returns-in-None-clause-may_answer : goal.returns-in-None-clause-may_answer
returns-in-None-clause-may_answer g c = λ plan workers ring. may_answer is_spent tests_left plan workers ring c.args.self.jobs.items c.args.self.fresh

pub returns-in-Some-clause-refused : goal.returns-in-Some-clause-refused
returns-in-Some-clause-refused g c = carried (sym c.at.ensures) (λ cause. IsPending (held c.args.self) cause) (c.pending-pending.ensures.some _ c.in-Some.is)
