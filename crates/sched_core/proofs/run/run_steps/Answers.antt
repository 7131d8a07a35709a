-- What the trace of a list of steps tells.
use Rattle.std.proofs.Common.{◌∙◌, ◌≤◌, sym, ap, subst, arith}
use Rattle.scheduling.specs.Shown.{IsShown}
use Rattle.scheduling.specs.State.{State}
use Rattle.sched_core.specs.Runs.{run, passed_over}
use Rattle.sched_core.specs.Endings.{IsNotStuck}
use Rattle.sched_core.specs.Taken.{IsBounded, IsShort}
use Rattle.sched_core.specs.Inside.Fields.{state_of}
use Rattle.sched_core.proofs.Endings.{not_stuck}
use Rattle.sched_core.proofs.Taken.{bounded_run, short_run}
use Rattle.sched_core.proofs.Tracing.{right_trace, shown_trace, right_apart, right_expected}
use Rattle.sched_core.proofs.run.run_steps.Goals as goal

pub run-missed-requires-clause-sound : goal.run-missed-requires-clause-sound
run-missed-requires-clause-sound c = c.in_ok-turns.ensures.sound c.args.answers.now

pub returns-clause-right : goal.returns-clause-right
returns-clause-right c =
    let count = c.run-missed.ensures.workers ∙ c.in_ok-turns.ensures.workers in
    right_trace c.args.plan.now c.args.answers.now c.run-missed.new.self c.run-missed.ensures.sound c.args.workers c.run-missed.result count c.in_ok-trace.field-0 c.in_ok-trace.ensures

pub returns-clause-shown : goal.returns-clause-shown
returns-clause-shown c =
    let count = c.run-missed.ensures.workers ∙ c.in_ok-turns.ensures.workers in
    let from = c.in_ok-turns.ensures.opening in
    let ends = c.run-missed.ensures.state ∙ ap (λ (s : State). run c.args.plan.now c.args.answers.now s c.args.steps.now) from in
    subst (λ (s : State). IsShown s c.in_ok-trace.field-0.given.items) ends
    (shown_trace c.args.plan.now c.args.answers.now c.run-missed.new.self c.run-missed.ensures.sound c.args.workers c.run-missed.result count c.in_ok-trace.field-0 c.in_ok-trace.ensures)

pub returns-clause-apart : goal.returns-clause-apart
returns-clause-apart c = right_apart c.args.plan.now c.args.answers.now c.run-missed.ensures.sound.plan.tree c.args.workers c.in_ok-trace.field-0 (returns-clause-right c)

pub returns-clause-expected : goal.returns-clause-expected
returns-clause-expected c = right_expected c.args.plan.now c.args.answers.now c.run-missed.ensures.sound.plan.tree c.args.workers c.in_ok-trace.field-0 (returns-clause-right c)

pub returns-clause-never_stuck : goal.returns-clause-never_stuck
returns-clause-never_stuck c =
    let sound = c.run-missed.ensures.sound in
    let from = c.in_ok-turns.ensures.opening in
    let ends = c.run-missed.ensures.state ∙ ap (λ (s : State). run c.args.plan.now c.args.answers.now s c.args.steps.now) from in
    subst (IsNotStuck c.args.plan.now c.args.answers.now) ends (not_stuck c.args.plan.now sound.plan c.args.answers.now (state_of c.run-missed.new.self) sound.live)

pub returns-clause-bounded : goal.returns-clause-bounded
returns-clause-bounded c =
    let sound = c.run-missed.ensures.sound in
    let from = c.in_ok-turns.ensures.opening in
    let count = c.run-missed.ensures.workers ∙ c.in_ok-turns.ensures.workers in
    let seats = sound.workers in
    let most = sound.live.kept.1.workers_few in
    let few : c.args.workers ≤ 64 = omega (arith, most, seats, count) in
    let counts = c.in_ok-trace.ensures.passed_over_is ∙ c.run-missed.ensures.passed_over ∙ ap (λ (s : State). passed_over c.args.plan.now c.args.answers.now s c.args.steps.now) from in
    subst (IsBounded c.args.plan.now c.args.answers.now c.args.workers c.args.steps.now) (sym counts) (bounded_run c.args.plan.now sound.plan c.args.answers.now c.args.workers few c.args.steps.now)

pub returns-clause-short : goal.returns-clause-short
returns-clause-short c =
    let sound = c.run-missed.ensures.sound in
    let from = c.in_ok-turns.ensures.opening in
    let count = c.run-missed.ensures.workers ∙ c.in_ok-turns.ensures.workers in
    let seats = sound.workers in
    let most = sound.live.kept.1.workers_few in
    let few : c.args.workers ≤ 64 = omega (arith, most, seats, count) in
    let counts = c.in_ok-trace.ensures.passed_over_is ∙ c.run-missed.ensures.passed_over ∙ ap (λ (s : State). passed_over c.args.plan.now c.args.answers.now s c.args.steps.now) from in
    subst (IsShort c.args.plan.now c.args.answers.now c.args.workers c.args.steps.now) (sym counts) (short_run c.args.plan.now sound.plan c.args.answers.now c.args.workers few c.args.steps.now)
