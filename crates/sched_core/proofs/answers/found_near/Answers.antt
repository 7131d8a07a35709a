-- The reply at the place is the body's, if it stands with the body.
use Rattle.std.proofs.Common.{rules}
use Rattle.sched_core.proofs.Searches.{looked_up}
use Rattle.sched_core.proofs.answers.found_near.Goals as goal

pub returns-in-Some : goal.returns-in-Some
returns-in-Some c = looked_up c.args.replies.now c.requires c.args.body c.args.place c.in-Some.answer.now c.in-Some.ensures.lookup.0 c.in-Some.ensures.lookup.1 (search rules)
