-- The places were asked for nothing yet.
use Rattle.std.proofs.Common.{rules}
use Rattle.workers.specs.Leading.{are_as_came}
use Rattle.uses.specs.Counting.{counts_on}
use Rattle.uses.proofs.placed_run.run_two_placed.Goals as goal

pub run_at-requires-clause-came : goal.run_at-requires-clause-came
run_at-requires-clause-came g c κs within = are_as_came counts_on (λ place. search rules) c.args.places.now
