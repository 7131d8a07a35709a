-- What a boxed job may answer is what the job in the box may.
use Rattle.std.proofs.Common.{List, refl, ap, ◌∙◌}
use denote.Param.Object.{read_made}
use Rattle.plan_events.specs.declared.outcome.Reply.{Reply}
use Rattle.test_jobs.specs.Acting.{replies_left}
use Rattle.test_jobs.specs.Counting.{replies_counted}
use Rattle.test_jobs.proofs.Replying.{fresh_still, may_answer}
use Rattle.pool_tests.specs.contracts.boxed.two_boxed.{dyn-1-ghosts}
use Rattle.pool_tests.proofs.boxed.run_both.OwnLists.{own-1, lawful-own-1, at-1-1, at-1-2}
use Rattle.pool_tests.proofs.boxed.run_both.Hidden.{sends-own-1}
use Rattle.pool_tests.proofs.boxed.run_both.Goals as goal

pub two_boxed-requires-clause-one : goal.two_boxed-requires-clause-one
two_boxed-requires-clause-one g c =
    let kinds = (dyn-1-ghosts (own-1, lawful-own-1, sends-own-1)).0 in
    fresh_still _ (replies_left c.in-Ok.one.value) _
    (read_made kinds (kinds.entry at-1-1) at-1-1 refl (List Reply) (λ j x. j.1.answers x) c.into_dyn_box.result.vtable c.into_dyn_box.result.value c.in-Ok.one.value c.into_dyn_box.ensures.1)
    (ap replies_left c.in-Ok.ensures.ok) c.requires.one

pub two_boxed-requires-clause-other : goal.two_boxed-requires-clause-other
two_boxed-requires-clause-other g c =
    let kinds = (dyn-1-ghosts (own-1, lawful-own-1, sends-own-1)).0 in
    fresh_still _ (replies_counted c.in-Ok-new.other.value) _
    (read_made kinds (kinds.entry at-1-2) at-1-2 refl (List Reply) (λ j x. j.1.answers x) c.into_dyn_box-2.result.vtable c.into_dyn_box-2.result.value c.in-Ok-new.other.value c.into_dyn_box-2.ensures.1)
    (ap replies_counted c.in-Ok-new.ensures.ok ∙ c.new-2.ensures) c.requires.other

pub run_watched-requires-clause-jobs : goal.run_watched-requires-clause-jobs
run_watched-requires-clause-jobs g c κs within = may_answer _ c.args.plan 2 1 c.in-Ok-two_boxed.jobs.items c.in-Ok-two_boxed.ensures
