-- Slot by slot each job is the plan's, and answers what the suite says.
use Rattle.std.proofs.Common.{◌≡◌, ℕ, ◌+◌, List, Option, Some, None, refl, sym, ap, ◌∙◌, subst, arith, length}
use Rattle.ready_runs.specs.Scripted.{AreScripted}
use Rattle.ready_runs.specs.declared.scripted.ScriptedJob.{ScriptedJob}
use Rattle.ready_runs.proofs.Scripting.{slot_with_job, slot_without}
use Rattle.ready_runs.proofs.scripted.scripted_jobs.Goals.{in-Some+in_ok-job_for+in_ok-push, in_default}
use Rattle.ready_runs.proofs.scripted.scripted_jobs.Goals as goal

no_number : (o : Option ℕ) → ((x : ℕ) → o ≡ Some x → ⊥) → o ≡ None
no_number None no_job = refl
no_number (Some x) no_job = absurd (no_job x refl)

pub loop-slot-preserved : goal.loop-slot-preserved
loop-slot-preserved c =
    let p = c.args.plan.now in
    let answers = c.args.answers.now in
    let i = c.loop-slot.slot in
    elim c.match-job_number.branch [
      | in-Some+in_ok-job_for+in_ok-push w ↦ subst (λ (jobs : List (ℕ × ScriptedJob)). AreScripted p answers (i + 1) jobs) (sym (ap (λ v. v.items) w.jobs-is ∙ w.in_ok-push.ensures.items))
          (slot_with_job p answers i w.in-Some.number w.in_ok-job_for.field-0 c.loop-slot.jobs.items c.loop-slot.invariant (omega (arith, c.loop-slot-test.true, c.loop-slot.auto.slot-end, c.len-slot-end.ensures.len, ap (λ t. length t.parents) c.tree-2.ensures.same)) (sym c.job_number.ensures ∙ w.in-Some.is) w.in_ok-job_for.ensures.reply)
      | in_default w ↦ subst (λ (jobs : List (ℕ × ScriptedJob)). AreScripted p answers (i + 1) jobs) (sym (ap (λ v. v.items) w.jobs-is))
          (slot_without p answers i c.loop-slot.jobs.items c.loop-slot.invariant (no_number _ (λ x is. w.in_default.not-Some x (c.job_number.ensures ∙ is))))
    ]
