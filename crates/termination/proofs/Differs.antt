-- A possible step makes another state, or it is a free worker's look.
use Rattle.std.proofs.Common.{◌≡◌, ◌≢◌, ℕ, zero, ◌<◌, true, false, List, set, Some, slice_get, ◌⊎◌, inl, inr, refl, sym, ap, ◌∙◌, arith}
use Rattle.std.proofs.lemmas.Option.{same_Some}
use Rattle.std.proofs.lemmas.Bool.{false≢true, both_ways}
use Rattle.plan_events.specs.declared.outcome.Reply.{Reply}
use Rattle.resource_locks.specs.Plans.{PlanParts}
use Rattle.scheduling.specs.declared.lock_word.LockWord.{LockWord}
use Rattle.scheduling.specs.declared.task.Opening.TheVariants.{Locking, Weighed, Backing}
use Rattle.scheduling.specs.declared.task.Task.{Task}
use Rattle.scheduling.specs.declared.task.Task.TheVariants.{Free, Opens}
use Rattle.scheduling.specs.declared.seat.Seat.{Seat}
use Rattle.scheduling.specs.declared.step.Action.{Action}
use Rattle.scheduling.specs.declared.step.Action.TheVariants.{Look}
use Rattle.scheduling.specs.State.{State, lock_at}
use Rattle.scheduling.specs.Choices.{key_at, mode_at, admits_at, decided}
use Rattle.scheduling.specs.Rows.{with_task, weighed, decided_seat, Step, Works, Dispatches, after}
use Rattle.scheduling.specs.Runs.{IsReplied}
use Rattle.scheduling.specs.Inside.Invariant.{IsCorePlan, IsKept}
use Rattle.scheduling.proofs.Basics.{get_set_same}
use Rattle.scheduling.proofs.RowsOne.{by_cond}
use Rattle.scheduling.proofs.Steps.{decided_free}
use Rattle.termination.specs.Inside.Accounts.{task_steps, steps_left}
use Rattle.termination.proofs.Bounded.{decided_left}
use Rattle.termination.proofs.Payments.{read_pays}
use Rattle.termination.proofs.Paying.{row_pays}
use Rattle.termination.proofs.StepKinds.{is_midway, Kind, AsFree, AsPlain, AsWeigh, AsMiss, AsBack, AsGivenUp}
use Rattle.termination.proofs.Acting.{decides, Acts, acts_so, free_same, no_look}

weighed_midway : (p : PlanParts) (n i : ℕ) (word : LockWord) → is_midway (Opens n (weighed p n i word)) ≡ true
weighed_midway p n i word = by_cond (λ d. is_midway (Opens n d) ≡ true) (admits_at p n i word) (Weighed i word) (Backing i) (λ _. refl) (λ _. refl)

midway_stays : (p : PlanParts) (reply : Reply) (t : Task) → is_midway t ≡ true → decided p reply t ≡ t
midway_stays p reply (Opens n (Weighed i word)) q = refl
midway_stays p reply (Opens n (Backing i)) q = refl
midway_stays p reply _ q = absurd (false≢true q)

-- a free worker looks for work
pub record LooksFree (s : State) (w : ℕ) (a : Action) (t : State) : Type 0 where
  pub seat : Seat
  pub is : slice_get s.seats w ≡ Some seat
  pub look : a ≡ Look
  pub free : seat.task ≡ Free
  pub same : t ≡ s

less_other : (p : PlanParts) (s t : State) → steps_left p t < steps_left p s → t ≢ s
less_other p s t less e = (let same = ap (steps_left p) e in omega (arith, less, same))

module _ (p : PlanParts) (core : IsCorePlan p) (replies : ℕ → List Reply) (s t : State) (w : ℕ) (a : Action) (reply : Reply) (x : Acts p replies s w a reply t) where
  -- in the same state the worker has the same task
  same_task : (new : Seat) → t.seats ≡ set (decides p s w reply x.seat).seats w new → t ≡ s → x.seat.task ≡ new.task
  same_task new seats e =
      let now : slice_get t.seats w ≡ Some new = ap (λ (l : List Seat). slice_get l w) seats ∙ get_set_same (decides p s w reply x.seat).seats w new (decided_seat p reply x.seat) x.here in
      let was : slice_get t.seats w ≡ Some x.seat = ap (λ (u : State). slice_get u.seats w) e ∙ x.is in
      ap (λ (o : Seat). o.task) (same_Some x.seat new (sym was ∙ now))

  -- its task was one, and is none, between a look and what comes of it
  not_midway : (old new : Task) → decided p reply x.seat.task ≡ old → is_midway old ≡ true → x.seat.task ≡ new → is_midway new ≡ false → decided p reply new ≡ new → ⊥
  not_midway old new was yes' is no' stays = both_ways (is_midway old) (ap is_midway (sym was ∙ ap (decided p reply) is ∙ stays) ∙ no') yes'

  kind_differs : Kind p (decides p s w reply x.seat) w (decided_seat p reply x.seat) (decided_seat p reply x.seat).task a t → LooksFree s w a t ⊎ (t ≢ s)
  kind_differs (AsFree look free same) = inl (record { seat = x.seat; is = x.is; look = look; free = decided_free p reply x.seat.task free; same = same ∙ free_same p s w reply x.seat x.is free })
  kind_differs (AsPlain k) =
      let falls = row_pays p core replies (decides p s w reply x.seat) x.kept.0 x.kept.1 w (decided_seat p reply x.seat) x.here reply a (no_look p (decides p s w reply x.seat) w (decided_seat p reply x.seat).task a t k) k.clear t x.makes in
      let no_higher = decided_left p s w reply x.seat x.is in
      inr (less_other p s t (omega (arith, falls, no_higher)))
  kind_differs (AsWeigh k) = inr (λ e.
      let word : LockWord = lock_at s (key_at p k.node k.place) in
      let is = same_task (with_task (decided_seat p reply x.seat) (Opens k.node (weighed p k.node k.place word))) (ap (λ (u : State). u.seats) k.is) e in
      let midway : is_midway x.seat.task ≡ true = ap is_midway is ∙ weighed_midway p k.node k.place word in
      false≢true (sym (ap is_midway k.task) ∙ ap is_midway (midway_stays p reply x.seat.task midway) ∙ midway))
  kind_differs (AsMiss k) = inr (λ e. not_midway (Opens k.node (Weighed k.place k.seen)) (Opens k.node (Locking k.place)) k.task refl (same_task (with_task (decided_seat p reply x.seat) (Opens k.node (Locking k.place))) (ap (λ (u : State). u.seats) k.is) e) refl refl)
  kind_differs (AsBack k) = inr (λ e.
      let is = same_task (with_task (decided_seat p reply x.seat) (Opens k.node (Backing k.place))) (ap (λ (u : State). u.seats) k.is) e in
      let steps = ap (task_steps p) (sym k.task ∙ ap (decided p reply) is) in
      omega (arith, steps))
  kind_differs (AsGivenUp k) = inr (λ e. not_midway (Opens k.node (Backing zero)) Free k.task refl (same_task (with_task (decided_seat p reply x.seat) Free) (ap (λ (u : State). u.seats) k.is) e) refl refl)

-- A possible step of a worker makes another state, or it is a free worker's look.
pub work_differs : (p : PlanParts) → IsCorePlan p → (replies : ℕ → List Reply) (s t : State) (w : ℕ) (a : Action) (reply : Reply) → IsKept p replies s → IsReplied p replies s (Works w a reply) → after p s (Works w a reply) ≡ Some t → LooksFree s w a t ⊎ (t ≢ s)
work_differs p core replies s t w a reply kept replied q = (let x = acts_so p core replies s t w a reply kept replied q in kind_differs p core replies s t w a reply x x.kind)

-- and one of the dispatcher does
pub read_differs : (p : PlanParts) (s t : State) → after p s Dispatches ≡ Some t → t ≢ s
read_differs p s t q = less_other p s t (read_pays p s t q)

pub step_differs : (p : PlanParts) → IsCorePlan p → (replies : ℕ → List Reply) (s t : State) (a : Step) → IsKept p replies s → IsReplied p replies s a → after p s a ≡ Some t → (t ≡ s) ⊎ (t ≢ s)
step_differs p core replies s t Dispatches kept replied q = inr (read_differs p s t q)
step_differs p core replies s t (Works w a reply) kept replied q = elim (work_differs p core replies s t w a reply kept replied q) [
  | inl looks ↦ inl looks.same
  | inr other ↦ inr other
]
