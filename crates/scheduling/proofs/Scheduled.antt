-- The fixed schedule of one worker: where it ends, and that it ends in one state only.
use Rattle.std.proofs.Common.{◌≡◌, ◌≢◌, ℕ, ◌<◌, List, Option, Some, None, slice_get, inl, inr, refl, sym, ap, ◌∙◌, subst, arith}
use Rattle.std.proofs.lemmas.Option.{none-some, same_Some}
use Rattle.std.proofs.lemmas.Bool.{both_ways, cases_lt}
use Rattle.plan_events.specs.declared.outcome.Reply.{Reply}
use Rattle.resource_locks.specs.Plans.{PlanParts}
use Rattle.scheduling.specs.declared.status.NodeStatus.TheVariants.{Settled}
use Rattle.scheduling.specs.declared.task.Task.{Task}
use Rattle.scheduling.specs.declared.task.Task.TheVariants.{Free, Opens, Closes}
use Rattle.scheduling.specs.declared.seat.Hand.{Hand}
use Rattle.scheduling.specs.declared.seat.Seat.{Seat}
use Rattle.scheduling.specs.State.{State, status_at}
use Rattle.scheduling.specs.declared.step.Action.{Action}
use Rattle.scheduling.specs.Rows.{row, read_row, decided_seat, after, Works}
use Rattle.scheduling.specs.Runs.{IsReplied}
use Rattle.scheduling.specs.Inside.Invariant.{IsCorePlan, IsKept}
use Rattle.scheduling.specs.Schedule.{is_open, IsFirstOpen, taking, IsNextBy, IsNext, Drives, finished, reads, works, LeadsTo}
use Rattle.scheduling.specs.Inside.Work.{work_left, IsClear}
use Rattle.scheduling.proofs.DecidedInPlace.{after_direct}
use Rattle.scheduling.proofs.LessWorkSteps.{step_lessens}

-- The schedule's step of the worker lowers what is left to do.
pub next_lessens : (p : PlanParts) → IsCorePlan p → (replies : ℕ → List Reply) (s t : State) (seat : Seat) (a : Action) (reply : Reply) → IsKept p replies s → IsReplied p replies s (Works 0 a reply) → slice_get s.seats 0 ≡ Some seat → IsClear p s seat.task
    → IsNext p s (decided_seat p reply seat) reply a → after p s (Works 0 a reply) ≡ Some t → work_left p t < work_left p s
next_lessens p core replies s t seat a reply kept replied is clear next r = step_lessens p core replies s t seat a reply kept replied is clear next (sym (after_direct p s 0 a reply seat is) ∙ r)

module _ (p : PlanParts) (answered : State → Seat → Reply) where
  pub leads_read : (first s t : State) → LeadsTo p answered first s → read_row s ≡ Some t → LeadsTo p answered first t
  leads_read first s t so_far r u more = so_far u (reads r more)

  pub leads_work : (first s t : State) (seat : Seat) (a : Action) → LeadsTo p answered first s → read_row s ≡ None → status_at s 0 ≢ Settled → slice_get s.seats 0 ≡ Some seat
      → IsNext p s (decided_seat p (answered s seat) seat) (answered s seat) a → row p s 0 (decided_seat p (answered s seat) seat) (answered s seat) a ≡ Some t → LeadsTo p answered first t
  leads_work first s t seat a so_far none running is next r u more = so_far u (works seat a none running is next (after_direct p s 0 a (answered s seat) seat is ∙ r) more)

  pub leads_end : (first s : State) → LeadsTo p answered first s → read_row s ≡ None → status_at s 0 ≡ Settled → Drives p answered first s
  leads_end first s so_far none end = so_far s (finished none end)

  -- where the schedule ends nothing is left to read, and node 0 is settled
  pub drives_end : (s u : State) → Drives p answered s u → (read_row u ≡ None) × (status_at u 0 ≡ Settled)
  drives_end s u (finished none end) = (none, end)
  drives_end s u (reads r more) = drives_end _ u more
  drives_end s u (works seat a none running is next r more) = drives_end _ u more

-- it names one next step only
pub first_open_one : (s : State) (n m : ℕ) → IsFirstOpen s n → IsFirstOpen s m → n ≡ m
first_open_one s n m a b =
    elim (cases_lt n m) [
      | inl lt ↦ absurd (both_ways (is_open (status_at s n)) (b.first n lt) a.open_here)
      | inr ge ↦ elim (cases_lt m n) [
        | inl lt ↦ absurd (both_ways (is_open (status_at s m)) (a.first m lt) b.open_here)
        | inr le ↦ omega (arith, ge, le)
      ]
    ]

next_by_one : (p : PlanParts) (s : State) (reply : Reply) (hand : Option Hand) (t : Task) (a b : Action) → IsNextBy p s reply hand t a → IsNextBy p s reply hand t b → a ≡ b
next_by_one p s reply None Free a b q r = q.2 ∙ ap (λ (n : ℕ). taking (status_at s n) n) (first_open_one s q.0 r.0 q.1 r.1) ∙ sym r.2
next_by_one p s reply (Some hand) Free a b q r = q ∙ sym r
next_by_one p s reply hand (Opens n d) a b q r = q ∙ sym r
next_by_one p s reply hand (Closes n d) a b q r = q ∙ sym r

pub next_one : (p : PlanParts) (s : State) (seat : Seat) (reply : Reply) (a b : Action) → IsNext p s seat reply a → IsNext p s seat reply b → a ≡ b
next_one p s seat reply a b q r = next_by_one p s reply seat.hand seat.task a b q r

-- A schedule ends in one state only.
pub drives_only : (p : PlanParts) (answered : State → Seat → Reply) (s t u : State) → Drives p answered s t → Drives p answered s u → t ≡ u
drives_only p answered s t u (finished none end) (finished none' end') = refl
drives_only p answered s t u (finished none end) (reads {t = x} r more) = absurd (none-some x (sym none ∙ r))
drives_only p answered s t u (finished none end) (works seat a none' running is next r more) = absurd (running end)
drives_only p answered s t u (reads {t = x} r more) (finished none end) = absurd (none-some x (sym none ∙ r))
drives_only p answered s t u (reads {t = x} r more) (reads {t = y} r' more') = drives_only p answered x t u more (subst (λ (z : State). Drives p answered z u) (same_Some y x (sym r' ∙ r)) more')
drives_only p answered s t u (reads {t = x} r more) (works seat a none running is next r' more') = absurd (none-some x (sym none ∙ r))
drives_only p answered s t u (works seat a none running is next r more) (finished none' end) = absurd (running end)
drives_only p answered s t u (works seat a none running is next r more) (reads {t = y} r' more') = absurd (none-some y (sym none ∙ r'))
drives_only p answered s t u (works {t = x} seat a none running is next r more) (works {t = y} seat' a' none' running' is' next' r' more') =
    let same_seat : seat' ≡ seat = same_Some seat' seat (sym is' ∙ is) in
    let next_here = subst (λ (o : Seat). IsNext p s (decided_seat p (answered s o) o) (answered s o) a') same_seat next' in
    let same : a' ≡ a = next_one p s (decided_seat p (answered s seat) seat) (answered s seat) a' a next_here next in
    let leads = ap (λ (o : Seat). after p s (Works 0 a' (answered s o))) (sym same_seat) ∙ r' in
    let state : y ≡ x = same_Some y x (sym leads ∙ ap (λ (b : Action). after p s (Works 0 b (answered s seat))) same ∙ r) in
    drives_only p answered x t u more (subst (λ (z : State). Drives p answered z u) state more')
