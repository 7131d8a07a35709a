-- The trace has what was published, its beginning that was given, and each worker's part.
use Rattle.std.proofs.Common.{ℕ, ◌≡◌, ◌∙◌, refl, ap, arith}
use Rattle.std.proofs.lemmas.Grind.{common_steps}
use Rattle.sched_core.specs.Inside.Fields.{parts_upto}
use Rattle.sched_core.specs.Traces.{lists_of}
use Rattle.sched_core.proofs.Tracing.{as_many, each_part}
use Rattle.sched_core.proofs.machine.Machine.trace.Goals as goal

pub returns : goal.returns
returns c =
    let same : c.as_slice-2.result.now ≡ c.args.self.now.published.items = grind (arith, common_steps) in
    let are = c.in_ok-parts.ensures ∙ ap (parts_upto c.args.self.now.workers) same in
    record {
      published = grind (arith, common_steps);
      given = grind (arith, common_steps);
      lists = as_many (lists_of c.in_ok-parts.field-0) c.args.self.now.workers _ c.args.self.now.published.items are c.requires.workers;
      mine = each_part (lists_of c.in_ok-parts.field-0) c.args.self.now.workers _ c.args.self.now.published.items are c.requires.workers;
      passed_over_is = refl {A = ℕ};
    }
