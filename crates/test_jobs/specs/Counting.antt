-- The replies of a job that counts how often it is run: those of the one that it does as.
use Rattle.std.specs.Prelude.{List}
use Rattle.plan_events.specs.declared.outcome.Reply.{Reply}
use Rattle.test_jobs.specs.Acting.{replies_left}
use Rattle.test_jobs.specs.declared.counted.Counted.{Counted}

abbrev pub replies_counted : Counted → List Reply
replies_counted job = replies_left job.actor
