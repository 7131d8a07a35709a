-- A worker that is not free has one step at most: that which its task allows.
use Rattle.std.specs.Prelude.{cond}
use Rattle.std.proofs.Common.{◌≡◌, ℕ, zero, suc, Bool, true, false, ◌&&◌, Some, None, refl, subst}
use Rattle.std.proofs.lemmas.Option.{none-some}
use Rattle.plan_events.specs.declared.outcome.Reply.{Reply}
use Rattle.resource_locks.specs.Plans.{PlanParts}
use Rattle.scheduling.specs.declared.task.Opening.{Opening}
use Rattle.scheduling.specs.declared.task.Opening.TheVariants.{Registering, RegisteredAt, Offering, Noticing, Locking, Weighed, Backing, Beginning, StartedAt, Admitting, Guarding}
use Rattle.scheduling.specs.declared.task.Closing.{Closing}
use Rattle.scheduling.specs.declared.task.Closing.TheVariants.{Ending, FinishedAt, SkippedAt, Raising, Giving, Settling, Looking, Passing, CountingOff}
use Rattle.scheduling.specs.declared.task.Task.{Task}
use Rattle.scheduling.specs.declared.task.Task.TheVariants.{Free, Opens, Closes}
use Rattle.scheduling.specs.declared.seat.Seat.{Seat}
use Rattle.scheduling.specs.declared.step.Action.{Action}
use Rattle.scheduling.specs.declared.step.Action.TheVariants.{Claim, Own, Notice, Weigh, Take, Give, GiveUp, Draw, Show, Admit, AddChild, Done, Settle, Look, Raise}
use Rattle.scheduling.specs.Rows.{is_free, is_empty, is_of_hand, is_ready_for, notice_row, weigh_row, take_row, give_row, give_up_row, draw_row, show_row, admit_row, add_child_row, done_row, settle_row, look_row, raise_row, row}
use Rattle.scheduling.specs.Schedule.{opening_action, closing_action}
use Rattle.scheduling.specs.State.{State, status_at}

-- the step that the task allows; nothing is said of who is free
abbrev IsOfTask : Task → Action → Type 0
IsOfTask Free a = Unit {0}
IsOfTask (Opens n d) a = a ≡ opening_action d
IsOfTask (Closes n d) a = a ≡ closing_action d

module _ (p : PlanParts) (s : State) (w : ℕ) (seat : Seat) (r : Reply) (u : State) where
  takes_task : (t : Task) (a : Action) (b : Bool) (x : State) → cond (is_free t && b) (Some x) None ≡ Some u → IsOfTask t a
  takes_task Free a b x q = tt
  takes_task (Opens n d) a b x q = absurd (none-some u q)
  takes_task (Closes n d) a b x q = absurd (none-some u q)

  notice_task : (t : Task) → notice_row p s w seat t ≡ Some u → IsOfTask t Notice
  notice_task (Opens n Noticing) q = refl
  notice_task _ q = absurd (none-some u q)

  weigh_task : (t : Task) → weigh_row p s w seat t ≡ Some u → IsOfTask t Weigh
  weigh_task (Opens n (Locking i)) q = refl
  weigh_task _ q = absurd (none-some u q)

  take_task : (t : Task) → take_row p s w seat t ≡ Some u → IsOfTask t Take
  take_task (Opens n (Weighed i word)) q = refl
  take_task _ q = absurd (none-some u q)

  give_task : (t : Task) → give_row p s w seat t ≡ Some u → IsOfTask t Give
  give_task (Opens n (Backing (suc i))) q = refl
  give_task (Closes n (Giving (suc i))) q = refl
  give_task _ q = absurd (none-some u q)

  give_up_task : (t : Task) → give_up_row p s w seat t ≡ Some u → IsOfTask t GiveUp
  give_up_task (Opens n (Backing zero)) q = refl
  give_up_task _ q = absurd (none-some u q)

  draw_task : (t : Task) → draw_row s w seat t ≡ Some u → IsOfTask t Draw
  draw_task (Opens n Registering) q = refl
  draw_task (Opens n (Beginning true)) q = refl
  draw_task (Opens n (Beginning false)) q = refl
  draw_task (Closes n (Ending status)) q = refl
  draw_task _ q = absurd (none-some u q)

  show_task : (t : Task) → show_row p s w seat t ≡ Some u → IsOfTask t Show
  show_task (Opens n (RegisteredAt i)) q = refl
  show_task (Opens n (StartedAt i)) q = refl
  show_task (Closes n (SkippedAt i)) q = refl
  show_task (Closes n (FinishedAt i status)) q = refl
  show_task _ q = absurd (none-some u q)

  admit_task : (t : Task) → admit_row p s w seat t ≡ Some u → IsOfTask t Admit
  admit_task (Opens n (Admitting c)) q = refl
  admit_task (Opens n Offering) q = refl
  admit_task (Closes n (Passing m o)) q = refl
  admit_task _ q = absurd (none-some u q)

  add_task : (t : Task) → add_child_row p s w seat r t ≡ Some u → IsOfTask t AddChild
  add_task Free q = tt
  add_task _ q = absurd (none-some u q)

  done_task : (t : Task) → done_row p s w seat r t ≡ Some u → IsOfTask t Done
  done_task Free q = tt
  done_task (Opens n Guarding) q = refl
  done_task (Closes n CountingOff) q = refl
  done_task _ q = absurd (none-some u q)

  settle_task : (t : Task) → settle_row p s w seat t ≡ Some u → IsOfTask t Settle
  settle_task (Closes n Settling) q = refl
  settle_task _ q = absurd (none-some u q)

  look_task : (t : Task) → look_row p s w seat t ≡ Some u → IsOfTask t Look
  look_task Free q = tt
  look_task (Closes n (Looking m)) q = refl
  look_task _ q = absurd (none-some u q)

  raise_task : (t : Task) → raise_row p s w seat t ≡ Some u → IsOfTask t Raise
  raise_task (Closes n Raising) q = refl
  raise_task _ q = absurd (none-some u q)

  of_task : (a : Action) → row p s w seat r a ≡ Some u → IsOfTask seat.task a
  of_task (Claim n) q = takes_task seat.task (Claim n) (is_empty seat.hand && is_ready_for None (status_at s n)) _ q
  of_task (Own n) q = takes_task seat.task (Own n) (is_of_hand p seat.hand n && is_ready_for (Some w) (status_at s n)) _ q
  of_task Notice q = notice_task seat.task q
  of_task Weigh q = weigh_task seat.task q
  of_task Take q = take_task seat.task q
  of_task Give q = give_task seat.task q
  of_task GiveUp q = give_up_task seat.task q
  of_task Draw q = draw_task seat.task q
  of_task Show q = show_task seat.task q
  of_task Admit q = admit_task seat.task q
  of_task AddChild q = add_task seat.task q
  of_task Done q = done_task seat.task q
  of_task Settle q = settle_task seat.task q
  of_task Look q = look_task seat.task q
  of_task Raise q = raise_task seat.task q

  pub opens_so : (a : Action) → row p s w seat r a ≡ Some u → (n : ℕ) (d : Opening) → seat.task ≡ Opens n d → a ≡ opening_action d
  opens_so a q n d e = subst (λ (t : Task). IsOfTask t a) e (of_task a q)

  pub closes_so : (a : Action) → row p s w seat r a ≡ Some u → (n : ℕ) (d : Closing) → seat.task ≡ Closes n d → a ≡ closing_action d
  closes_so a q n d e = subst (λ (t : Task). IsOfTask t a) e (of_task a q)
