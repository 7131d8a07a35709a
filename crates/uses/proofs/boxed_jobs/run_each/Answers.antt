-- What a boxed job may answer is what the job in the box may.
use Rattle.std.proofs.Common.{List, refl, ap}
use denote.Param.Object.{read_made}
use Rattle.plan_events.specs.declared.outcome.Reply.{Reply}
use Rattle.uses.specs.contracts.boxed_jobs.two_boxed.{dyn-1-ghosts}
use Rattle.uses.specs.Ending.{fails}
use Rattle.uses.specs.Passing.{passes}
use Rattle.uses.proofs.Ending.{all_may_answer, by_way}
use Rattle.uses.proofs.boxed_jobs.run_each.OwnLists.{own-1, lawful-own-1, at-1-1, at-1-2}
use Rattle.uses.proofs.boxed_jobs.run_each.Hidden.{sends-own-1}
use Rattle.uses.proofs.boxed_jobs.run_each.Goals as goal

pub two_boxed-requires-clause-good : goal.two_boxed-requires-clause-good
two_boxed-requires-clause-good g c =
    let kinds = (dyn-1-ghosts (own-1, lawful-own-1, sends-own-1)).0 in
    by_way _ (passes c.in-Ok.passes.value) _
    (read_made kinds (kinds.entry at-1-1) at-1-1 refl (List Reply) (λ j x. j.1.answers x) c.into_dyn_box.result.vtable c.into_dyn_box.result.value c.in-Ok.passes.value c.into_dyn_box.ensures.1)
    (ap passes c.in-Ok.ensures.ok)

pub two_boxed-requires-clause-bad : goal.two_boxed-requires-clause-bad
two_boxed-requires-clause-bad g c =
    let kinds = (dyn-1-ghosts (own-1, lawful-own-1, sends-own-1)).0 in
    by_way _ (fails c.in-Ok-new.fails.value) _
    (read_made kinds (kinds.entry at-1-2) at-1-2 refl (List Reply) (λ j x. j.1.answers x) c.into_dyn_box-2.result.vtable c.into_dyn_box-2.result.value c.in-Ok-new.fails.value c.into_dyn_box-2.ensures.1)
    (ap fails c.in-Ok-new.ensures.ok)

pub run_watched-requires-clause-jobs : goal.run_watched-requires-clause-jobs
run_watched-requires-clause-jobs g c κs within = all_may_answer _ c.args.plan 4 1024 c.in-Ok-two_boxed.jobs.items c.in-Ok-two_boxed.ensures
