-- The first reply of the whole list is the first of those not looked at yet.
use Rattle.std.proofs.Common.{◌≡◌, drop}
use Rattle.sched_core.specs.Replies.{reply_to}
use Rattle.sched_core.proofs.answers.found_in_a_row.Given as goal

abbrev pub invariant-loop-answer : goal.invariant-loop-answer
invariant-loop-answer l = reply_to l.replies l.body ≡ reply_to (drop l.answer-index l.replies) l.body
