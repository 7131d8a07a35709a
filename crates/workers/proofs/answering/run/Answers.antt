use Rattle.plan_events.specs.declared.note.Note.TheVariants.{Own}
use Rattle.std.proofs.Common.{inl}
use Rattle.table_rule.specs.Picture.{gives_in, given_by}
use Rattle.workers.proofs.Outgoing.{run_says, run_tells}
use Rattle.workers.proofs.answering.run.Goals as goal

pub text_in-requires-clause-answer : goal.text_in-requires-clause-answer
text_in-requires-clause-answer g c = λ k at. let out = c.requires.out in run_tells _ _ (given_by g.B.Job.gives c.args.seat.now.seat.me.0.about) _ _ _ _ out.0 out.1 _ out.2 c.requires.some c.run-status.result c.run-status.ensures.outcome (gives_in g.B.Job.gives c.args.seat.now.seat.me.0.about.jobs out.1) (g.B.Job.gives c.args.job) out.3 (λ r x. inl x) c.run-status.ensures.given k at

pub text_in-requires-clause-said : goal.text_in-requires-clause-said
text_in-requires-clause-said g c = run_says g.B.Job.says c.run-status.result c.run-status.new.job c.run-status.ensures.said _

pub returns-clause-told : goal.returns-clause-told
returns-clause-told g c =
    let d = c.in-Ok.ensures.told in
    record { slot = d.0; reply = d.1; status = c.run-status.result.status; note = Own c.run-status.result.text; at = d.2; told_as = d.3; now = d.4 }
