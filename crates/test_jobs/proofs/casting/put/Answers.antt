-- The job goes behind the others.
use Rattle.std.proofs.Common.{sym, subst}
use Rattle.test_jobs.specs.Acting.{AreFresh, replies_left}
use Rattle.test_jobs.proofs.Replying.{fresh_push}
use Rattle.test_jobs.proofs.casting.put.Goals as goal

pub returns : goal.returns
returns c so_far = subst (AreFresh replies_left) (sym c.in_ok-push.ensures.items) (fresh_push c.args.jobs.now.items (c.in-Some.number, c.in_ok-job.job) so_far c.in_ok-job.ensures)
