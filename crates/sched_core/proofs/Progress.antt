-- The schedule's step of the only worker is possible, keeps what the schedule keeps, and leaves less to do.
use Rattle.std.proofs.Common.{◌≡◌, ◌≢◌, ◌∙◌, ◌<◌, ◌≤◌, ℕ, List, Option, Some, None, slice_get, inl, inr, sym, ap, subst, refl, arith}
use Rattle.std.specs.Prelude.{option_and_then}
use Rattle.std.proofs.lemmas.Option.{same_Some}
use Rattle.plan_events.specs.declared.outcome.Reply.{Reply}
use Rattle.resource_locks.specs.Plans.{PlanParts, IsPlan}
use Rattle.event_history.specs.Expected.{HasOneReply}
use Rattle.scheduling.specs.declared.status.NodeStatus.TheVariants.{Settled}
use Rattle.scheduling.specs.declared.step.Action.{Action}
use Rattle.scheduling.specs.declared.step.Action.TheVariants.{Look}
use Rattle.scheduling.specs.declared.task.Opening.TheVariants.{Locking, Weighed, Backing}
use Rattle.scheduling.specs.declared.task.Task.{Task}
use Rattle.scheduling.specs.declared.task.Task.TheVariants.{Free, Opens, Closes}
use Rattle.scheduling.specs.declared.seat.Hand.{Hand}
use Rattle.scheduling.specs.declared.seat.Seat.{Seat}
use Rattle.scheduling.specs.Choices.{awaited, decided}
use Rattle.scheduling.specs.Inside.Invariant.{IsCorePlan}
use Rattle.scheduling.specs.Inside.Work.{work_left, IsClear}
use Rattle.scheduling.specs.Rows.{Works, look_row, row, goes_to, decided_seat, after_seat}
use Rattle.scheduling.specs.Runs.{IsReplied}
use Rattle.scheduling.specs.Schedule.{IsNextBy, IsNext}
use Rattle.scheduling.specs.State.{State, status_at}
use Rattle.scheduling.proofs.Basics.{get_set_same}
use Rattle.scheduling.proofs.DecidedInPlace.{after_direct}
use Rattle.scheduling.proofs.Going.{going_open, going_locking, going_weighed, going_backing, going_next}
use Rattle.scheduling.proofs.Headline.{core_plan}
use Rattle.scheduling.proofs.RowsBelow.{decide_keeps}
use Rattle.scheduling.proofs.Scheduled.{next_lessens}
use Rattle.scheduling.proofs.Steps.{decided_free}
use Rattle.never_stuck.proofs.Able.{clear_calm}
use Rattle.termination.specs.Inside.Accounts.{steps_left}
use Rattle.termination.proofs.Acting.{free_same}
use Rattle.termination.proofs.Bounded.{decided_left}
use Rattle.termination.proofs.Paying.{row_pays}
use Rattle.termination.proofs.StepKinds.{decided_or}
use Rattle.sched_core.specs.Going.{IsOnSchedule}
use Rattle.sched_core.specs.Statuses.{IsSomeOpen}

-- the next step does not look at the seats
next_on : (p : PlanParts) (s : State) (seats : List Seat) (seat : Seat) (r : Reply) (a : Action) → IsNext p s seat r a → IsNext p (record s { seats = seats }) seat r a
next_on p s seats seat r a next = go seat.task seat.hand next
  where
    go : (t : Task) (hand : Option Hand) → IsNextBy p s r hand t a → IsNextBy p (record s { seats = seats }) r hand t a
    go Free None n = (n.0, record { open_here = n.1.open_here; first = n.1.first }, n.2)
    go Free (Some hand) n = n
    go (Opens x d) hand n = n
    go (Closes x d) hand n = n

-- nor does it matter to the way of a task
clear_on : (p : PlanParts) (s : State) (seats : List Seat) (t : Task) → IsClear p s t → IsClear p (record s { seats = seats }) t
clear_on p s seats (Opens n (Locking k)) clear = clear
clear_on p s seats (Opens n (Weighed k word)) clear = clear
clear_on p s seats (Opens n (Backing k)) clear = clear
clear_on p s seats _ clear = tt

-- where a step of the schedule leads
pub record GoesOn (p : PlanParts) (replies : ℕ → List Reply) (s : State) (seat : Seat) (r : Reply) (a : Action) : Type 0 where
  pub to : State
  pub leads : row p s 0 (decided_seat p r seat) r a ≡ Some to
  pub going : IsOnSchedule p replies to
  pub less : work_left p to < work_left p s
  pub fewer : steps_left p to < steps_left p s

module _ (p : PlanParts) (plan : IsPlan p) (reply : ℕ → Reply) (replies : ℕ → List Reply) (one : HasOneReply reply replies) (s : State) (going : IsOnSchedule p replies s) (seat : Seat) (at : slice_get s.seats 0 ≡ Some seat) where
  core : IsCorePlan p
  core = core_plan p plan.tree

  -- the clear way of the only worker
  clear : (t : Task) → seat.task ≡ t → IsClear p s t
  clear (Opens n (Locking k)) e = going_locking p core replies s going.0 going.1 plan seat at n k e
  clear (Opens n (Weighed k word)) e = going_weighed p core replies s going.0 going.1 plan seat at n k word e
  clear (Opens n (Backing k)) e = going_backing p core replies s going.0 going.1 seat at n k e
  clear _ e = tt

  -- where it is free with nothing in hand, a node is open
  pub finds_open : (r : Reply) → decided p r seat.task ≡ Free → seat.hand ≡ None → status_at s 0 ≢ Settled → IsSomeOpen s.statuses
  finds_open r free empty running =
      let found = going_open p core replies s going.0 going.1 seat at (decided_free p r seat.task free) empty running in
      (found.0, (let lt = found.1 in let len = going.1.holds.statuses_len in omega (arith, lt, len)), found.2)

  module _ (r : Reply) (given : (job : ℕ) → awaited p seat seat.task ≡ Some job → r ≡ reply job) (a : Action) (next : IsNext p s (decided_seat p r seat) r a) where
    replied : IsReplied p replies s (Works 0 a r)
    replied other here job awaits =
        let same : other ≡ seat = same_Some other seat (sym here ∙ at) in
        let asked : awaited p seat seat.task ≡ Some job = ap (λ (x : Seat). awaited p x x.task) (sym same) ∙ awaits in
        (0, ap (λ (l : List Reply). slice_get l 0) (one job) ∙ ap Some (sym (given job asked)))

    abbrev D : Seat
    D = decided_seat p r seat

    abbrev U : State
    U = record s { seats = goes_to s 0 D }

    way : IsClear p U D.task
    way = elim (decided_or p r seat.task) [
      | inl calm ↦ clear_calm p U D.task calm
      | inr same ↦ subst (IsClear p U) (sym same) (clear_on p s (goes_to s 0 D) seat.task (clear seat.task refl))
    ]

    -- what makes another state is no free worker's look, and pays
    pays : (t : State) → row p U 0 D r a ≡ Some t → t ≢ s → steps_left p t < steps_left p s
    pays t q other =
        let k = decide_keeps p core replies s going.0 going.1.holds 0 seat at r (replied seat at) in
        let falls = row_pays p core replies U k.0 k.1 0 D (get_set_same s.seats 0 D seat at) r a no_look way t q in
        let decides = decided_left p s 0 r seat at in
        plain _ _ _ falls decides
      where
        no_look : a ≡ Look → D.task ≡ Free → ⊥
        no_look look free = other (same_Some t U (sym q ∙ ap (row p U 0 D r) look ∙ ap (look_row p U 0 D) free) ∙ free_same p s 0 r seat at free)

        plain : (x y z : ℕ) → x < y → y ≤ z → x < z
        plain x y z less most = omega (arith, less, most)

    pub goes_on : GoesOn p replies s seat r a
    goes_on =
        let n = going_next p core replies plan reply one s going.0 going.1 seat at r a given (next_on p s (goes_to s 0 (decided_seat p r seat)) (decided_seat p r seat) r a next) in
        let less = next_lessens p core replies s n.0 seat a r (going.0, going.1.holds) replied at (clear seat.task refl) next n.1.0 in
        record {
          to = n.0;
          leads = sym (after_direct p s 0 a r seat at) ∙ n.1.0;
          going = n.1.1;
          less = less;
          fewer = pays n.0 (sym (ap (option_and_then (after_seat p s 0 a r)) at) ∙ n.1.0) (λ same. (let none = ap (work_left p) same in omega (arith, less, none)));
        }
