-- The only worker's schedule, or round after round, comes to the run's end.
use Rattle.std.proofs.Common.{◌≡◌, ◌∙◌, ℕ, List, sym, ap, subst, arith}
use Rattle.plan_events.specs.declared.outcome.Reply.{Reply}
use Rattle.resource_locks.specs.Plans.{PlanParts, IsPlan}
use Rattle.scheduling.proofs.Going.{going_opening}
use Rattle.scheduling.proofs.Headline.{core_plan}
use Rattle.scheduling.proofs.Scheduled.{drives_end}
use Rattle.scheduling.specs.Runs.{opening}
use Rattle.scheduling.specs.State.{State}
use Rattle.termination.specs.Inside.Turns.{IsBetweenTurns}
use Rattle.sched_core.specs.Drives.{reply_given, IsOnSchedule}
use Rattle.sched_core.specs.Inside.Fields.{state_of}
use Rattle.sched_core.specs.Replies.{replies_of}
use Rattle.sched_core.proofs.Driven.{driven_leads}
use Rattle.sched_core.proofs.Serving.{opening_between, over_turns}
use Rattle.sched_core.proofs.machine.Machine.run_to_end.Goals as goal

-- the schedule of one worker begins at the opening
begins : (p : PlanParts) → IsPlan p → (answers : List (ℕ × Reply)) (s : State) (workers : ℕ) → s ≡ opening p workers → workers ≡ 1 → IsOnSchedule p answers s
begins p plan answers s workers is one = subst (IsOnSchedule p answers) (sym (is ∙ ap (opening p) one)) (going_opening p (core_plan p plan.tree) (replies_of answers))

pub drive-requires-clause-going : goal.drive-requires-clause-going
drive-requires-clause-going c = begins c.args.plan.now c.requires.sound.plan c.args.answers.now (state_of c.args.self.now) c.args.self.now.workers c.requires.opening c.if-self-eq1.true

pub drive_rounds-requires-clause-between : goal.drive_rounds-requires-clause-between
drive_rounds-requires-clause-between c = subst IsBetweenTurns (sym c.requires.opening) (opening_between c.args.plan.now c.args.answers.now c.args.self.now.workers)

pub returns-then-self-eq1-clause-leads : goal.returns-then-self-eq1-clause-leads
returns-then-self-eq1-clause-leads c =
    let going = begins c.args.plan.now c.requires.sound.plan c.args.answers.now (state_of c.args.self.now) c.args.self.now.workers c.requires.opening c.if-self-eq1.true in
    driven_leads c.args.plan.now c.requires.sound.plan c.args.answers.now (state_of c.args.self.now) (state_of c.drive.new.self) going c.drive.ensures.drives

pub returns-then-self-eq1-clause-over : goal.returns-then-self-eq1-clause-over
returns-then-self-eq1-clause-over c free = drives_end c.args.plan.now (reply_given c.args.plan.now c.args.answers.now) (state_of c.args.self.now) (state_of c.drive.new.self) c.drive.ensures.drives

pub returns-else-self-eq1-clause-over : goal.returns-else-self-eq1-clause-over
returns-else-self-eq1-clause-over c free =
    let same = c.drive_rounds.ensures.workers in
    over_turns c.args.plan.now c.args.answers.now c.drive_rounds.new.self c.drive_rounds.ensures.sound free (λ v lt. c.drive_rounds.ensures.quiet v (omega (arith, lt, same)))

pub returns-then-self-eq1-clause-schedules : goal.returns-then-self-eq1-clause-schedules
returns-then-self-eq1-clause-schedules c = record { one = λ _. c.drive.ensures.drives; several = λ other. absurd (other c.if-self-eq1.true) }

pub returns-else-self-eq1-clause-schedules : goal.returns-else-self-eq1-clause-schedules
returns-else-self-eq1-clause-schedules c = record { one = λ one. absurd (c.if-self-eq1.false one); several = λ _. c.drive_rounds.ensures.rounds }
