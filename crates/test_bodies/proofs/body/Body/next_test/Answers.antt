-- It asks for one dynamic test more as long as some are left to it, and leaves its code alone.
use Rattle.std.proofs.Common.{arith}
use Rattle.test_bodies.specs.Bodies.{is_spent, tests_left}
use Rattle.test_bodies.proofs.Replying.{pulls_end, pulls_more}
use Rattle.test_bodies.proofs.body.Body.next_test.Goals as goal

pub returns-then-self-eq0 : goal.returns-then-self-eq0
returns-then-self-eq0 g c = record { pull = pulls_end 512 (is_spent c.args.self.now) (tests_left c.args.self.now) c.if-self-eq0.true; same = λ answer may. may }

pub returns : goal.returns
returns g c = record { pull = pulls_more 512 (is_spent c.args.self.now) (tests_left c.args.self.now) (omega (arith, c.if-self-eq0.false)); same = λ answer may. may }
