-- The search is by the numbers of the bodies.
use Rattle.std.proofs.Common.{ℕ, rules}
use Rattle.std.proofs.lemmas.List.Sorted.{answers_always}
use Rattle.plan_events.specs.declared.outcome.Reply.{Reply}
use Rattle.sched_core.proofs.Searches.{found, missed}
use Rattle.sched_core.proofs.answers.found_by_halving.Goals as goal

pub returns-in-Ok : goal.returns-in-Ok
returns-in-Ok c =
    let at = c.in-Ok.ensures.position (λ (x : ℕ × Reply). x.0) (answers_always _ _ _ (λ f a r g called. search rules)) in
    found c.args.replies.now c.requires c.args.body c.in-Ok.place c.index-replies-place.result c.in-Ok.ensures.bound (rw (← c.number.ensures) (at c.index-replies-place.result))

pub returns-in-Err : goal.returns-in-Err
returns-in-Err c =
    let parted = c.in-Err.ensures.position (λ (x : ℕ × Reply). x.0) (answers_always _ _ _ (λ f a r g called. search rules)) in
    missed c.args.replies.now c.requires c.args.body c.in-Err.field-0 c.in-Err.ensures.bound (rw (← c.number.ensures) parted)
