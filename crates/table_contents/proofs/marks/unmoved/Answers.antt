-- One more has them in each turn.
use Rattle.std.proofs.Common.{◌∷◌, ◌++◌, [], false, replicate, ap, ◌∙◌}
use Rattle.std.proofs.lemmas.List.{replicate-append-replicate}
use Rattle.table_contents.proofs.marks.unmoved.Goals as goal

pub loop-worker-preserved : goal.loop-worker-preserved
loop-worker-preserved c =
    let none = replicate c.args.slots false in
    c.in_ok-push.ensures.items
    ∙ ap (λ marks. c.loop-worker.all.items ++ marks ∷ []) c.in_ok-none.ensures
    ∙ ap (λ l. l ++ none ∷ []) c.loop-worker.invariant
    ∙ replicate-append-replicate c.loop-worker._worker 1 none
