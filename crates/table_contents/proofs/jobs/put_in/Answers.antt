-- The job is in its slot, or unused.
use Rattle.std.proofs.Common.{◌∷◌, ◌++◌, [], sym, subst, ◌∙◌}
use Rattle.table_contents.specs.Filling.{IsFilled}
use Rattle.table_contents.proofs.Filled.{put_goes, put_stays}
use Rattle.table_contents.proofs.jobs.put_in.Goals as goal

pub returns-in-Some-clause-put : goal.returns-in-Some-clause-put
returns-in-Some-clause-put g c p tree index before filled =
    let found = c.in-Some.ensures.some in
    put_goes p tree c.args.number c.in-Some.slot c.args.job (sym (index c.args.number) ∙ found.0) before _ _ found.2 filled

pub returns-in-None-clause-put : goal.returns-in-None-clause-put
returns-in-None-clause-put g c p tree index before filled =
    subst (IsFilled p (before ++ (c.args.number, c.args.job) ∷ []) c.args.slots.now) (sym c.push_reserved.ensures.items)
    (put_stays p tree c.args.number c.args.job before _ _ (λ k is. c.in-None.ensures.none k (index c.args.number ∙ is)) filled)
