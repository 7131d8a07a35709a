-- A possible step of a worker: what it is in the state in which the reply has decided the worker's task.
use Rattle.std.specs.Prelude.{option_and_then}
use Rattle.std.proofs.Common.{◌≡◌, ℕ, Bool, true, false, ◌&&◌, List, length, set, Option, Some, None, slice_get, slice_index_or, refl, sym, ap, ◌∙◌, subst}
use Rattle.std.proofs.lemmas.Option.{none-some, same_Some}
use Rattle.std.proofs.lemmas.Bool.{both_ways}
use Rattle.plan_events.specs.declared.event.Event.{Event}
use Rattle.plan_events.specs.declared.outcome.Reply.{Reply}
use Rattle.resource_locks.specs.Plans.{PlanParts}
use Rattle.scheduling.specs.declared.step.Action.{Action}
use Rattle.scheduling.specs.declared.step.Action.TheVariants.{Look}
use Rattle.scheduling.specs.declared.task.Task.{Task}
use Rattle.scheduling.specs.declared.task.Task.TheVariants.{Free}
use Rattle.scheduling.specs.declared.seat.Seat.{Seat}
use Rattle.scheduling.specs.State.{State}
use Rattle.scheduling.specs.Choices.{decided}
use Rattle.scheduling.specs.Rows.{is_free, with_task, goes_to, row, read_event, read_row, decided_seat, after_seat, after, Works}
use Rattle.scheduling.specs.Runs.{IsReplied}
use Rattle.scheduling.specs.Inside.Invariant.{IsCorePlan, IsKept}
use Rattle.scheduling.proofs.Basics.{get_set_same, set_get}
use Rattle.scheduling.proofs.RowsBelow.{decide_keeps}
use Rattle.scheduling.proofs.Steps.{decided_free}
use Rattle.termination.proofs.StepKinds.{is_look, Plain, Kind, KindOf, row_kind}

-- the state in which the worker's task is decided
abbrev pub decides : PlanParts → State → ℕ → Reply → Seat → State
decides p s w reply seat = record s { seats = goes_to s w (decided_seat p reply seat) }

pub record Acts (p : PlanParts) (replies : ℕ → List Reply) (s : State) (w : ℕ) (a : Action) (reply : Reply) (t : State) : Type 0 where
  pub seat : Seat
  pub is : slice_get s.seats w ≡ Some seat
  pub kept : IsKept p replies (decides p s w reply seat)
  pub here : slice_get (decides p s w reply seat).seats w ≡ Some (decided_seat p reply seat)
  pub makes : row p (decides p s w reply seat) w (decided_seat p reply seat) reply a ≡ Some t
  pub kind : Kind p (decides p s w reply seat) w (decided_seat p reply seat) (decided_seat p reply seat).task a t

pub acts_so : (p : PlanParts) → IsCorePlan p → (replies : ℕ → List Reply) (s t : State) (w : ℕ) (a : Action) (reply : Reply) → IsKept p replies s → IsReplied p replies s (Works w a reply) → after p s (Works w a reply) ≡ Some t → Acts p replies s w a reply t
acts_so p core replies s t w a reply kept replied q = go (slice_get s.seats w) refl q
  where
    go : (found : Option Seat) → slice_get s.seats w ≡ found → option_and_then (after_seat p s w a reply) found ≡ Some t → Acts p replies s w a reply t
    go None f r = absurd (none-some t r)
    go (Some seat) f r = record {
      seat = seat;
      is = f;
      kept = decide_keeps p core replies s kept.0 kept.1 w seat f reply (replied seat f);
      here = get_set_same s.seats w (decided_seat p reply seat) seat f;
      makes = r;
      kind = subst (KindOf p (decides p s w reply seat) w (decided_seat p reply seat) (decided_seat p reply seat).task a) r (row_kind p (decides p s w reply seat) w (decided_seat p reply seat) reply a);
    }

-- a free worker's look makes the same state
pub free_same : (p : PlanParts) (s : State) (w : ℕ) (reply : Reply) (seat : Seat) → slice_get s.seats w ≡ Some seat → decided p reply seat.task ≡ Free → decides p s w reply seat ≡ s
free_same p s w reply seat is e =
    let free = decided_free p reply seat.task e in
    let stays : decided p reply seat.task ≡ seat.task = e ∙ sym free in
    ap (λ (t : Task). record s { seats = set s.seats w (with_task seat t) }) stays ∙ ap (λ (l : List Seat). record s { seats = l }) (set_get s.seats w seat is)

-- no free worker's look
pub no_look : (p : PlanParts) (s : State) (w : ℕ) (old : Task) (a : Action) (t : State) → Plain p s w old a t → a ≡ Look → old ≡ Free → ⊥
no_look p s w old a t plain look free =
    both_ways (is_look a && is_free old) plain.acts (ap (λ (x : Action). is_look x && is_free old) look ∙ ap is_free free)

-- the dispatcher leaves the seats and the keys as they are
pub read_same : (s t : State) → read_row s ≡ Some t → (t.seats ≡ s.seats) × (t.locks ≡ s.locks)
read_same s t q = go (slice_index_or s.shown (length s.given) false) (slice_get s.published (length s.given)) q
  where
    go : (shown : Bool) (found : Option Event) → read_event s shown found ≡ Some t → (t.seats ≡ s.seats) × (t.locks ≡ s.locks)
    go false found r = absurd (none-some t r)
    go true None r = absurd (none-some t r)
    go true (Some e) r = (ap (λ (x : State). x.seats) (sym (same_Some _ t r)), ap (λ (x : State). x.locks) (sym (same_Some _ t r)))
