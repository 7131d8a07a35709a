-- A look for room in the ring: the seat still names what it drew, and knows of the room that was found.
use Rattle.std.proofs.Common.{◌≡◌, ℕ, ◌||◌, eq-eqb, nat_lt, Bool, true, false, cond, Option, Some, sym, refl, ap, ◌∙◌}
use Rattle.std.proofs.lemmas.Option.{same_Some}
use Rattle.atomic_table.specs.declared.shared.Seat.{Seat as TableSeat}
use Rattle.plan_events.specs.declared.event.Event.{Event}
use Rattle.scheduling.specs.declared.seat.Hand.{Hand}
use Rattle.scheduling.specs.declared.task.Task.{Task}
use Rattle.scheduling.specs.Shown.{named}
use Rattle.table_rule.specs.declared.view.View.{View}
use Rattle.table_rule.specs.declared.view.Slot.{Slot}
use Rattle.table_rule.specs.Plays.{worker, has_room, finds_room}
use Rattle.run_table.specs.Seats.{seated}
use Rattle.workers.specs.Going.{HasRoom}

or_true : (b : Bool) → (b || true) ≡ true
or_true true = refl
or_true false = refl

module _ {B : Type 0} (old new : TableSeat (Slot B) (View B)) (i : ℕ) (found : Bool) (is : worker new.me.0 ≡ finds_room i found (worker old.me.0)) (number was : ℕ) (task before : Task) (hand held : Option Hand)
    (new_number : (worker new.me.0).number ≡ number) (old_number : (worker old.me.0).number ≡ was) (new_seat : (worker new.me.0).seat ≡ seated task hand) (old_seat : (worker old.me.0).seat ≡ seated before held) where
  pub still_named : named number task ≡ named was before
  still_named =
      let n : number ≡ was = sym new_number ∙ ap (λ w. w.number) is ∙ old_number in
      let t : task ≡ before = ap (λ s. s.task) (sym new_seat ∙ ap (λ w. w.seat) is ∙ old_seat) in
      λ k. named (n k) (t k)

  pub room_said : (e : Event) → named was before ≡ Some (i, e) → found ≡ true → HasRoom number task new
  room_said e names said j other q =
      let same : i ≡ j = ap (λ (y : ℕ × Event). y.0) (same_Some (i, e) (j, other) (sym names ∙ sym still_named ∙ q)) in
      let room : (worker new.me.0).room ≡ Some i = ap (λ w. w.room) is ∙ ap (λ b. cond b (Some i) (worker old.me.0).room) said in
      ap (λ r. has_room new.me.0.about.ring r j) room ∙ (ap (λ b. nat_lt j new.me.0.about.ring || b) (eq-eqb i j same) ∙ or_true (nat_lt j new.me.0.about.ring))
