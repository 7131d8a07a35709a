-- With one node more the first are one more.
use Rattle.std.proofs.Common.{arith, ℕ, subst}
use Rattle.job_times.specs.Timings.{IsNotedWith}
use Rattle.descriptor.specs.Nodes.{size}
use Rattle.uses.proofs.Noting.{noted_next}
use Rattle.uses.proofs.timed_run.noted.Goals as goal

pub loop-number-preserved : goal.loop-number-preserved
loop-number-preserved g c = noted_next c.loop-number.times.timings.took.items c.note.new.self.took.items (size c.args.tree.now) c.loop-number.number (omega (arith, c.loop-number-test.true, c.len-number-end.ensures)) (subst (λ (k : ℕ). IsNotedWith k c.loop-number.times.timings.took.items c.note.new.self.took.items) c.new.ensures c.note.ensures.noted) c.loop-number.invariant
