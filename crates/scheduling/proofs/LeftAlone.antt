-- What a worker's step leaves alone: the seats of the others, and what they have drawn.
use Rattle.std.proofs.Common.{◌≡◌, ◌≢◌, ℕ, ◌+◌, Bool, true, false, ◌==◌, List, [], ◌∷◌, ◌++◌, length, Some, slice_get, ap, ◌∙◌, subst, arith, length-set, eq-eqb, ne_eqb}
use Rattle.std.specs.List.{filter}
use Rattle.std.proofs.lemmas.Grind.{common_steps}
use Rattle.std.proofs.lemmas.List.{append-nil}
use Rattle.std.proofs.lemmas.List.Elements.{filter-append}
use Rattle.plan_events.specs.declared.event.Event.{Event}
use Rattle.plan_events.specs.declared.outcome.Reply.{Reply}
use Rattle.resource_locks.specs.Plans.{PlanParts}
use Rattle.event_history.specs.Parts.{part_of}
use Rattle.scheduling.specs.declared.seat.Seat.{Seat}
use Rattle.scheduling.specs.declared.step.Action.{Action}
use Rattle.scheduling.specs.State.{State}
use Rattle.scheduling.specs.Rows.{row}
use Rattle.scheduling.specs.Shown.{IsPlaced}
use Rattle.scheduling.proofs.Basics.{get_set_other}
use Rattle.scheduling.proofs.Shown.{Effect, Quiet, Draws, Shows, Does, Changes, changes_keep, named_worker}
use Rattle.scheduling.proofs.Placing.{Moves, row_moves}

-- the part of a worker after one more event
pub part_mine : (k : ℕ) (h : List Event) (e : Event) → e.worker ≡ k → part_of k (h ++ e ∷ []) ≡ part_of k h ++ e ∷ []
part_mine k h e is =
    let here : (e.worker == k) ≡ true = eq-eqb e.worker k is in
    filter-append (λ (x : Event). x.worker == k) h (e ∷ []) ∙ ap (λ (l : List Event). part_of k h ++ l) (one (λ (x : Event). x.worker == k) e here)
  where
    one : (q : Event → Bool) (e : Event) → q e ≡ true → filter q (e ∷ []) ≡ e ∷ []
    one q e here = grind (arith, common_steps, here)

pub part_other : (k : ℕ) (h : List Event) (e : Event) → e.worker ≢ k → part_of k (h ++ e ∷ []) ≡ part_of k h
part_other k h e not =
    let here : (e.worker == k) ≡ false = ne_eqb e.worker k not in
    filter-append (λ (x : Event). x.worker == k) h (e ∷ []) ∙ ap (λ (l : List Event). part_of k h ++ l) (none (λ (x : Event). x.worker == k) e here) ∙ append-nil (part_of k h)
  where
    none : (q : Event → Bool) (e : Event) → q e ≡ false → filter q (e ∷ []) ≡ []
    none q e here = grind (arith, common_steps, here)

-- between a state and the next one, which worker w made
pub record IsFrame (s t : State) (w : ℕ) : Type 0 where
  pub count : length t.seats ≡ length s.seats
  pub others : (v : ℕ) → v ≢ w → slice_get t.seats v ≡ slice_get s.seats v
  pub parts : (v : ℕ) → v ≢ w → part_of (v + 1) t.published ≡ part_of (v + 1) s.published
  pub placed : IsPlaced t

changes_frame : (s t : State) (w : ℕ) (seat : Seat) → IsPlaced s → slice_get s.seats w ≡ Some seat → Changes s w seat.task t → IsFrame s t w
changes_frame s t w seat placed is c = record {
  count = ap length c.seats ∙ length-set s.seats w c.new;
  others = λ v ne. ap (λ (l : List Seat). slice_get l v) c.seats ∙ get_set_other s.seats w c.new v ne;
  parts = λ v ne. part v ne c.effect c.does;
  placed = changes_keep s t w seat placed is c;
}
  where
    part : (v : ℕ) → v ≢ w → (effect : Effect) → Does s t w seat.task c.new.task effect → part_of (v + 1) t.published ≡ part_of (v + 1) s.published
    part v ne Quiet d = ap (part_of (v + 1)) d.0
    part v ne (Shows i e) d = ap (part_of (v + 1)) d.0
    part v ne (Draws e) d =
        let hers : e.worker ≡ w + 1 = named_worker w c.new.task (length s.published) e d.3 in
        ap (part_of (v + 1)) d.0 ∙ part_other (v + 1) s.published e (λ q. ne (omega (arith, hers, q)))

-- A row changes the worker's own seat, and its own part.
pub row_frame : (p : PlanParts) (s : State) (w : ℕ) (seat : Seat) → IsPlaced s → slice_get s.seats w ≡ Some seat → (reply : Reply) (a : Action) (t : State) → row p s w seat reply a ≡ Some t → IsFrame s t w
row_frame p s w seat placed is reply a t q = changes_frame s t w seat placed is (subst (Moves s w seat.task) q (row_moves p s w seat is reply a))
