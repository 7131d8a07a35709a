-- The machine's steps as steps of the fixed schedule: each is possible, leads on, and leaves less to do.
use Rattle.std.proofs.Common.{◌≡◌, ◌≢◌, ◌∙◌, ◌<◌, ℕ, false, List, length, Option, Some, None, Result, Ok, Err, IsOk, IsErr, slice_get, get_or, refl, sym, ap, subst, arith}
use Rattle.std.specs.Result.{is_ok}
use Rattle.std.proofs.lemmas.Bool.{false≢true}
use Rattle.std.proofs.lemmas.Option.{slice_get-get_or}
use Rattle.plan_events.specs.declared.outcome.Reply.{Reply}
use Rattle.resource_locks.specs.Plans.{PlanParts}
use Rattle.scheduling.specs.declared.answer.Answer.{Answer}
use Rattle.scheduling.specs.declared.status.NodeStatus.{NodeStatus}
use Rattle.scheduling.specs.declared.status.NodeStatus.TheVariants.{Settled}
use Rattle.scheduling.specs.declared.step.Action.{Action}
use Rattle.scheduling.specs.declared.step.Step.TheVariants.{Worker}
use Rattle.scheduling.specs.declared.task.Task.{Task}
use Rattle.scheduling.specs.declared.seat.Seat.{Seat}
use Rattle.scheduling.specs.Answers.{answer_of, reply_by}
use Rattle.scheduling.specs.Choices.{awaited, decided}
use Rattle.scheduling.specs.Inside.Work.{work_left}
use Rattle.scheduling.specs.Rows.{row, read_row, decided_seat}
use Rattle.scheduling.specs.Schedule.{IsNextBy, IsNext}
use Rattle.scheduling.specs.State.{State, status_at}
use Rattle.scheduling.proofs.DecidedInPlace.{after_direct}
use Rattle.scheduling.proofs.Scheduled.{leads_work}
use Rattle.sched_core.proofs.Progress.{goes_on}
use Rattle.sched_core.specs.declared.machine.Machine.{Machine}
use Rattle.sched_core.specs.Drives.{reply_given, LeadsTo, IsOnSchedule}
use Rattle.sched_core.specs.Inside.Fields.{state_of, seated, IsSound, IsAnswered}
use Rattle.sched_core.specs.Replies.{reply_of, replies_of}
use Rattle.sched_core.specs.Steps.{reply_awaited, reply_for, after_step}
use Rattle.sched_core.proofs.Knowing.{told_answer, told_task, told_row}
use Rattle.sched_core.proofs.Sound.{work_is, sound_answered, same_workers}

-- what is no success is a failure
pub not_ok : {T E : Type 0} (r : Result T E) → is_ok r ≡ false → IsErr r
not_ok (Ok x) q = absurd (false≢true (sym q))
not_ok (Err x) q = refl

-- a read that was possible
module _ {T E : Type 0} (old new : Machine) (result : Result T E) (is : IsAnswered old (read_row (state_of old)) result new) where
  apart : (r : Result T E) → IsOk r → IsErr r → ⊥
  apart (Ok x) o e = cc
  apart (Err x) o e = cc

  pub was_read : IsOk result → read_row (state_of old) ≡ Some (state_of new)
  was_read ok = go (read_row (state_of old)) is
    where
      go : (next : Option State) → IsAnswered old next result new → next ≡ Some (state_of new)
      go None r = absurd (apart result ok r.0)
      go (Some t) r = ap Some (sym r.1)

  -- and one that was not
  pub not_read : IsErr result → (read_row (state_of old) ≡ None) × (new ≡ old)
  not_read err = go (read_row (state_of old)) is
    where
      go : (next : Option State) → IsAnswered old next result new → (next ≡ None) × (new ≡ old)
      go None r = (refl, r.1)
      go (Some t) r = absurd (apart result r.0 err)

-- the seat of the only worker
pub only_seat : (p : PlanParts) (answers : List (ℕ × Reply)) (m : Machine) → IsOnSchedule p answers (state_of m) → (seat : Seat) → seat ≡ get_or m.seats.items 0 seat → slice_get m.seats.items 0 ≡ Some seat
only_seat p answers m going seat read = (let one : length m.seats.items ≡ 1 = ap length going.1.one in slice_get-get_or m.seats.items 0 seat (omega (arith, one)) ∙ ap Some (sym read))

-- What the schedule's step of the worker leaves, as the code takes it: by the answer that it was told.
pub record IsActed (p : PlanParts) (answers : List (ℕ × Reply)) (old new : Machine) (seat : Seat) (task : Task) (a : Action) : Type 0 where
  pub sound : IsSound p answers new
  pub workers : new.workers ≡ old.workers
  pub going : IsOnSchedule p answers (state_of new)
  pub leads : (first : State) → read_row (state_of old) ≡ None → status_at (state_of old) 0 ≢ Settled → LeadsTo p answers first (state_of old) → LeadsTo p answers first (state_of new)
  pub less : work_left p (state_of new) < work_left p (state_of old)
  pub row_is : row p (state_of old) 0 (seated task seat.hand) (reply_for p answers seat) a ≡ Some (state_of new)

module _ {T E : Type 0} (p : PlanParts) (answers : List (ℕ × Reply)) (old new : Machine) (sound : IsSound p answers old) (going : IsOnSchedule p answers (state_of old)) (seat : Seat) (at : slice_get old.seats.items 0 ≡ Some seat)
    (task : Task) (a : Action) (same : task ≡ decided p (reply_for p answers seat) seat.task) (result : Result T E) where
  abbrev its_row : Option State
  its_row = row p (state_of old) 0 (decided_seat p (reply_for p answers seat) seat) (reply_for p answers seat) a

  is_step : after_step p answers (state_of old) (Worker 1 a) ≡ its_row
  is_step = work_is p answers (state_of old) 1 a seat (λ q. omega (arith, q)) at ∙ after_direct p (state_of old) 0 a (reply_for p answers seat) seat at

  took : IsNext p (state_of old) (decided_seat p (reply_for p answers seat) seat) (reply_for p answers seat) a → IsAnswered old its_row result new → IsActed p answers old new seat task a
  took next is =
      let on = goes_on p sound.plan (reply_of answers) (replies_of answers) (λ job. refl) (state_of old) going seat at (reply_for p answers seat) (λ job e. ap (reply_awaited answers) e) a next in
      let got : IsAnswered old (Some on.to) result new = subst (λ (o : Option State). IsAnswered old o result new) on.leads is in
      let to = sym got.1 in
      record {
        sound = sound_answered p answers old new (Worker 1 a) result sound (subst (λ (o : Option State). IsAnswered old o result new) (sym is_step) is);
        workers = same_workers old new its_row result is;
        going = subst (IsOnSchedule p answers) to on.going;
        leads = λ first none running leads. subst (LeadsTo p answers first) to (leads_work p (reply_given p answers) first (state_of old) on.to seat a leads none running at next on.leads);
        less = subst (λ (s : State). work_left p s < work_left p (state_of old)) to on.less;
        row_is = ap (λ (t : Task). row p (state_of old) 0 (seated t seat.hand) (reply_for p answers seat) a) same ∙ on.leads ∙ ap Some to;
      }

pub acted : {T E : Type 0} (p : PlanParts) (answers : List (ℕ × Reply)) (old new : Machine) → IsSound p answers old → IsOnSchedule p answers (state_of old) → (seat : Seat) → seat ≡ get_or old.seats.items 0 seat → (job : Option ℕ) (answer : Answer) (task : Task) (a : Action) (words : List NodeStatus) → words ≡ old.statuses.items
    → job ≡ awaited p seat seat.task → answer ≡ answer_of (reply_awaited answers job) → task ≡ decided p (reply_by answer) seat.task → ((s : State) (r : Reply) → s.statuses ≡ words → answer_of r ≡ answer → IsNextBy p s r seat.hand task a)
    → (result : Result T E) → IsAnswered old (row p (state_of old) 0 (seated task seat.hand) (reply_by answer) a) result new → IsActed p answers old new seat task a
acted p answers old new sound going seat read job answer task a words lent awaits said decides next result is =
    let r = reply_for p answers seat in
    let told = told_answer p answers seat job answer awaits said in
    let same = told_task p r seat answer task told decides in
    took p answers old new sound going seat (only_seat p answers old going seat read) task a same result (subst (λ (t : Task). IsNextBy p (state_of old) r seat.hand t a) same (next (state_of old) r (sym lent) (sym told)))
    (subst (λ (o : Option State). IsAnswered old o result new) (told_row p (state_of old) 0 r seat answer task a told same) is)
