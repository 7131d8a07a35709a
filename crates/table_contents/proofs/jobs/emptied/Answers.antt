-- One more slot's job stands behind the others.
use Rattle.std.proofs.Common.{◌++◌, length, ap, sym, ◌∙◌, append_assoc, arith}
use Rattle.std.proofs.lemmas.List.{length_push}
use Rattle.table_rule.specs.Slots.{job_at}
use Rattle.table_contents.specs.Prepared.{job_in, jobs_from}
use Rattle.table_contents.proofs.Filled.{jobs_first}
use Rattle.table_contents.proofs.jobs.emptied.Goals as goal

pub loop-slot-preserved : goal.loop-slot-preserved
loop-slot-preserved g c =
    let inv = c.loop-slot.invariant in
    let p = c.args.plan.now in
    let slot = c.in-Some.slot in
    let more = jobs_first p in
    let long = length_push c.loop-slot.yielded slot in (
      c.keep.ensures.items ∙ ((λ i. inv.0 i ++ job_in ((c.job_number.ensures ∙ ap (job_at p) inv.1) i) slot) ∙ (append_assoc c.args.jobs.items (jobs_from p 0 c.loop-slot.yielded) (job_in (job_at p (length c.loop-slot.yielded)) slot) ∙ ap (λ l. c.args.jobs.items ++ l) (sym (more c.loop-slot.yielded slot)))),
      omega (arith, inv.1, long),
      omega (arith, inv.2, long, c.keep.ensures.room),
      c.keep.ensures.capacity ∙ inv.3,
    )
