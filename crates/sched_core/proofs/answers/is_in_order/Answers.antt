-- Each body is compared with the next.
use Rattle.std.proofs.Common.{ltb, rules}
use Rattle.std.proofs.lemmas.List.Sorted.{answers_always}
use Rattle.sched_core.proofs.Searches.{tested}
use Rattle.sched_core.proofs.answers.is_in_order.Goals as goal

pub returns : goal.returns
returns c = tested c.args.replies.now c.is_sorted_by.result (c.is_sorted_by.ensures.cases (λ x y. ltb x.0 y.0) (answers_always _ _ _ (λ f a r g called. search rules)))
