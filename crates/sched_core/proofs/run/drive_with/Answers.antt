-- What the trace of the fixed schedule tells.
use Rattle.std.proofs.Common.{◌∙◌, sym, ap, subst, arith}
use Rattle.scheduling.specs.Runs.{opening}
use Rattle.scheduling.specs.State.{State}
use Rattle.sched_core.specs.Drives.{Drives}
use Rattle.sched_core.specs.Inside.Fields.{state_of}
use Rattle.sched_core.specs.Inside.Rounds.{Leads}
use Rattle.sched_core.proofs.Endings.{run_not_stuck}
use Rattle.sched_core.proofs.InTurns.{schedules_from, only_scheduled}
use Rattle.sched_core.proofs.Serving.{taken_whole}
use Rattle.sched_core.proofs.Tracing.{right_trace, right_apart, right_expected, whole_trace, of_one_worker}
use Rattle.sched_core.proofs.run.drive_with.Goals as goal

pub run_to_end-requires-clause-sound : goal.run_to_end-requires-clause-sound
run_to_end-requires-clause-sound c = c.in_ok-turns.ensures.sound c.args.answers.now

pub run_to_end-requires-clause-opening : goal.run_to_end-requires-clause-opening
run_to_end-requires-clause-opening c = c.in_ok-turns.ensures.opening ∙ ap (opening c.args.plan.now) (sym c.in_ok-turns.ensures.workers)

pub returns-clause-taken : goal.returns-clause-taken
returns-clause-taken c =
    let count = c.run_to_end.ensures.workers ∙ c.in_ok-turns.ensures.workers in
    let leads = subst (λ (s : State). Leads c.args.plan.now c.args.answers.now s (state_of c.run_to_end.new.self)) c.in_ok-turns.ensures.opening c.run_to_end.ensures.leads in
    taken_whole c.args.plan.now c.args.answers.now c.run_to_end.new.self c.run_to_end.ensures.sound c.args.workers c.in_ok-trace.field-0 count leads c.in_ok-trace.ensures

pub returns-clause-right : goal.returns-clause-right
returns-clause-right c =
    let count = c.run_to_end.ensures.workers ∙ c.in_ok-turns.ensures.workers in
    right_trace c.args.plan.now c.args.answers.now c.run_to_end.new.self c.run_to_end.ensures.sound c.args.workers 0 count c.in_ok-trace.field-0 c.in_ok-trace.ensures

pub returns-clause-whole : goal.returns-clause-whole
returns-clause-whole c spares =
    let count = c.run_to_end.ensures.workers ∙ c.in_ok-turns.ensures.workers in
    whole_trace c.args.plan.now c.args.answers.now c.run_to_end.new.self c.run_to_end.ensures.sound c.args.workers 0 count c.in_ok-trace.field-0 c.in_ok-trace.ensures (c.run_to_end.ensures.over spares)

pub returns-clause-apart : goal.returns-clause-apart
returns-clause-apart c = right_apart c.args.plan.now c.args.answers.now c.run_to_end.ensures.sound.plan.tree c.args.workers c.in_ok-trace.field-0 (returns-clause-right c)

pub returns-clause-expected : goal.returns-clause-expected
returns-clause-expected c = right_expected c.args.plan.now c.args.answers.now c.run_to_end.ensures.sound.plan.tree c.args.workers c.in_ok-trace.field-0 (returns-clause-right c)

pub returns-clause-scheduled : goal.returns-clause-scheduled
returns-clause-scheduled c = record {
  final = state_of c.run_to_end.new.self;
  schedules = schedules_from c.args.plan.now c.args.answers.now _ c.args.workers c.in_ok-turns.ensures.workers _ _ c.in_ok-turns.ensures.opening c.run_to_end.ensures.schedules;
  trace = c.in_ok-trace.ensures;
}

pub returns-clause-only : goal.returns-clause-only
returns-clause-only c = only_scheduled c.args.plan.now c.args.answers.now c.args.workers c.in_ok-trace.field-0 (returns-clause-scheduled c)

pub returns-clause-one : goal.returns-clause-one
returns-clause-one c one =
    let started = c.in_ok-turns.ensures.workers ∙ one in
    let from = c.in_ok-turns.ensures.opening ∙ ap (opening c.args.plan.now) one in
    let drives = subst (λ (s : State). Drives c.args.plan.now c.args.answers.now s (state_of c.run_to_end.new.self)) from (c.run_to_end.ensures.schedules.one started) in
    of_one_worker c.args.plan.now c.args.answers.now c.run_to_end.new.self c.run_to_end.ensures.sound (c.run_to_end.ensures.workers ∙ started) drives c.in_ok-trace.field-0 c.in_ok-trace.ensures

pub returns-clause-never_stuck : goal.returns-clause-never_stuck
returns-clause-never_stuck c steps =
    let sound = c.run_to_end.ensures.sound in
    let count = c.run_to_end.ensures.workers ∙ c.in_ok-turns.ensures.workers in
    let seats = sound.workers in
    let some = sound.live.some in
    let most = sound.live.kept.1.workers_few in
    run_not_stuck c.args.plan.now sound.plan c.args.answers.now c.args.workers (omega (arith, some, seats, count)) (omega (arith, most, seats, count)) steps
