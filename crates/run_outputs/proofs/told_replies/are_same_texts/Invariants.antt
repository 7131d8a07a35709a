-- The nodes so far have the same text in both.
use Rattle.std.proofs.Common.{◌≡◌, ◌<◌, ℕ}
use Rattle.plan_events.specs.Texts.{text_at}
use Rattle.run_outputs.proofs.told_replies.are_same_texts.Given as goal

abbrev pub invariant-loop-number : goal.invariant-loop-number
invariant-loop-number l = (n : ℕ) → n < l.number → text_at l.some n ≡ text_at l.others n
