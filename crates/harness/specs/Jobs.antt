-- The jobs of a program's own tests.
use Rattle.std.specs.Prelude.{ℕ, List, Result, map}
use Rattle.plan_events.specs.declared.outcome.Outcome.{Outcome}
use Rattle.plan_events.specs.declared.outcome.Reply.{Reply}
use Rattle.test_bodies.specs.Bodies.{HasKept, is_spent, may_answer, tests_left}
use Rattle.test_bodies.specs.Replies.{replies_by}
use Rattle.test_bodies.specs.Stops.{IsTold}
use Rattle.test_bodies.specs.declared.body.Body.{Body}
use Rattle.harness.specs.declared.job.TestJob.{TestJob}

module _ {X Y : Type 0} {Z : Y → Type 0} {f : _} {g : _} where
  -- the replies that a job may still give: those of its body
  abbrev pub replies_left : TestJob X Y Z f g → List Reply
  replies_left job = replies_by (is_spent job.body) (tests_left job.body)

  -- what it gives is what is told of an answer of its body's own code
  abbrev pub gives_left : TestJob X Y Z f g → Reply → Type 0
  gives_left job reply = (answer : Result (Unit {0}) Outcome) × may_answer job.body answer × IsTold answer reply.outcome

  -- once it was run its body has kept what its code answered, of which this is told
  abbrev pub says_kept : TestJob X Y Z f g → Outcome → Type 0
  says_kept job outcome = (answer : Result (Unit {0}) Outcome) × HasKept job.body answer × IsTold answer outcome

  abbrev pub job_by : ℕ × Body X Y Z f g → ℕ × TestJob X Y Z f g
  job_by x = (x.0, record { body = x.1 })

  -- the jobs of these bodies, with the same numbers
  abbrev pub jobs_by : List (ℕ × Body X Y Z f g) → List (ℕ × TestJob X Y Z f g)
  jobs_by bodies = map job_by bodies
