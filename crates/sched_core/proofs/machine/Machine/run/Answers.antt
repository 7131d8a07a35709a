-- One more step, taken or passed over.
use Rattle.std.proofs.Common.{◌≡◌, ◌∙◌, ◌<◌, ◌+◌, List, ◌∷◌, arith, sym, ap, length, drop}
use Rattle.std.proofs.lemmas.List.{drop_more}
use Rattle.scheduling.specs.declared.step.Step.{Step}
use Rattle.sched_core.specs.Inside.Fields.{state_of}
use Rattle.sched_core.specs.Runs.{run, passed_over}
use Rattle.sched_core.proofs.Running.{run_step, passed_ok, passed_err}
use Rattle.sched_core.proofs.machine.Machine.run.Goals as goal
use Rattle.sched_core.proofs.machine.Machine.run.Goals.{then-is_err, else-is_err}

pub loop-step-preserved : goal.loop-step-preserved
loop-step-preserved c =
    let i = c.loop-step.step-index in
    let inside : i < length c.args.steps.now = grind arith in
    let rest : List Step = drop (i + 1) c.args.steps.now in
    let split : drop i c.args.steps.now ≡ c.step-item.result ∷ rest = drop_more c.args.steps.now i c.step-item.result inside ∙ ap (λ (x : Step). x ∷ rest) (sym c.step-item.is) in
    let old = c.loop-step.self in
    let new = c.step.new.self in
    let here = ap (run c.args.plan.now c.args.answers.now (state_of old)) split ∙ run_step c.args.plan.now c.args.answers.now old new c.step-item.result rest c.step.result c.step.ensures.answered in
    let count = ap (passed_over c.args.plan.now c.args.answers.now (state_of old)) split in (
      elim c.if-is_err.branch [ then-is_err w ↦ omega (arith, c.loop-step.invariant.0, w.missed-is) | else-is_err w ↦ omega (arith, c.loop-step.invariant.0, w.missed-is) ],
      c.step.ensures.sound,
      c.step.ensures.workers ∙ c.loop-step.invariant.2,
      sym here ∙ c.loop-step.invariant.3,
      elim c.if-is_err.branch [
        | then-is_err w ↦ (let more = passed_err c.args.plan.now c.args.answers.now old new c.step-item.result rest c.step.result c.step.ensures.answered (sym w.if-is_err.ensures.value) in omega (arith, more, count, c.loop-step.invariant.4, w.missed-is))
        | else-is_err w ↦ (let more = passed_ok c.args.plan.now c.args.answers.now old new c.step-item.result rest c.step.result c.step.ensures.answered w.if-is_err.ensures.negation in omega (arith, more, count, c.loop-step.invariant.4, w.missed-is))
      ],
    )
