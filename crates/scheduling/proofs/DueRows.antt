-- The rows of the core are what is due: a task for which nothing is due has no row, and another goes on as it says.
use Rattle.std.proofs.Common.{◌≡◌, nat_lt, ℕ, zero, suc, cond, Bool, true, false, Option, Some, None, slice_get, length, sym, refl, ap, ◌∙◌}
use Rattle.std.proofs.lemmas.Option.{none-some, same_Some}
use Rattle.descriptor.specs.Nodes.{parent_of}
use Rattle.plan_events.specs.declared.event.Event.{Event}
use Rattle.plan_events.specs.declared.outcome.Reply.{Reply}
use Rattle.plan_events.specs.declared.status.Status.TheVariants.{Successful}
use Rattle.resource_locks.specs.Plans.{PlanParts}
use Rattle.scheduling.specs.declared.lock_word.LockWord.{LockWord}
use Rattle.scheduling.specs.declared.task.Opening.TheVariants.{Registering, RegisteredAt, Offering, Noticing, Locking, Weighed, Backing, Beginning, StartedAt, Admitting, Guarding}
use Rattle.scheduling.specs.declared.task.Closing.TheVariants.{Ending, FinishedAt, SkippedAt, Raising, Giving, Settling, Looking, Passing, CountingOff}
use Rattle.scheduling.specs.declared.task.Task.{Task}
use Rattle.scheduling.specs.declared.task.Task.TheVariants.{Free, Opens, Closes}
use Rattle.scheduling.specs.declared.seat.Hand.{Hand}
use Rattle.scheduling.specs.declared.seat.Seat.{Seat}
use Rattle.scheduling.specs.State.{State}
use Rattle.scheduling.specs.Choices.{next_spare, key_at, mode_at, given_back, giving, is_pulled, pulled_result}
use Rattle.scheduling.specs.Shown.{named}
use Rattle.scheduling.specs.Rows.{notice_row, raise_row, weigh_row, take_row, puts_word, gives_key, give_row, give_up_row, drawn, draw_row, shows, show_row, offers, admit_row, guard_given, counted_off, done_by_hand, done_hand, done_row, settle_row, look_row, child_added, add_by_hand, add_child_hand, add_child_row}
use Rattle.scheduling.specs.Due.{IsChildDue, event_due, drawn_seat, shown_seat, Offer, offer_due, admitted_seat, Back, back_due, given_seat, Guard, pulled_guard, hand_guard, guard_due, unasked}

-- Draw.
pub draw_none : (c : State) (w : ℕ) (seat : Seat) (t : Task) → event_due w t ≡ None → draw_row c w seat t ≡ None
draw_none c w seat (Opens n Registering) q = absurd (none-some _ (sym q))
draw_none c w seat (Opens n (Beginning true)) q = absurd (none-some _ (sym q))
draw_none c w seat (Opens n (Beginning false)) q = absurd (none-some _ (sym q))
draw_none c w seat (Closes n (Ending status)) q = absurd (none-some _ (sym q))
draw_none c w seat _ q = refl

pub draw_is : (c : State) (w : ℕ) (seat : Seat) (e : Event) (t : Task) → event_due w t ≡ Some e → draw_row c w seat t ≡ Some (drawn c w e (drawn_seat (length c.published) seat t))
draw_is c w seat e (Opens n Registering) q = ap (λ (x : Event). Some (drawn c w x (drawn_seat (length c.published) seat (Opens n Registering)))) (same_Some _ _ q)
draw_is c w seat e (Opens n (Beginning true)) q = ap (λ (x : Event). Some (drawn c w x (drawn_seat (length c.published) seat (Opens n (Beginning true))))) (same_Some _ _ q)
draw_is c w seat e (Opens n (Beginning false)) q = ap (λ (x : Event). Some (drawn c w x (drawn_seat (length c.published) seat (Opens n (Beginning false))))) (same_Some _ _ q)
draw_is c w seat e (Closes n (Ending status)) q = ap (λ (x : Event). Some (drawn c w x (drawn_seat (length c.published) seat (Closes n (Ending status))))) (same_Some _ _ q)
draw_is c w seat e _ q = absurd (none-some e q)

-- Show.
pub show_none : (p : PlanParts) (c : State) (w : ℕ) (seat : Seat) (t : Task) → named w t ≡ None → show_row p c w seat t ≡ None
show_none p c w seat (Opens n (RegisteredAt i)) q = absurd (none-some _ (sym q))
show_none p c w seat (Opens n (StartedAt i)) q = absurd (none-some _ (sym q))
show_none p c w seat (Closes n (SkippedAt i)) q = absurd (none-some _ (sym q))
show_none p c w seat (Closes n (FinishedAt i status)) q = absurd (none-some _ (sym q))
show_none p c w seat _ q = refl

pub show_is : (p : PlanParts) (c : State) (w : ℕ) (seat : Seat) (i : ℕ) (e : Event) (t : Task) → named w t ≡ Some (i, e) → show_row p c w seat t ≡ Some (shows c w (shown_seat p seat t) i)
show_is p c w seat i e (Opens n (RegisteredAt j)) q = ap (λ (z : ℕ × Event). Some (shows c w (shown_seat p seat (Opens n (RegisteredAt j))) z.0)) (same_Some _ _ q)
show_is p c w seat i e (Opens n (StartedAt j)) q = ap (λ (z : ℕ × Event). Some (shows c w (shown_seat p seat (Opens n (StartedAt j))) z.0)) (same_Some _ _ q)
show_is p c w seat i e (Closes n (SkippedAt j)) q = ap (λ (z : ℕ × Event). Some (shows c w (shown_seat p seat (Closes n (SkippedAt j))) z.0)) (same_Some _ _ q)
show_is p c w seat i e (Closes n (FinishedAt j status)) q = ap (λ (z : ℕ × Event). Some (shows c w (shown_seat p seat (Closes n (FinishedAt j status))) z.0)) (same_Some _ _ q)
show_is p c w seat i e _ q = absurd (none-some (i, e) q)

-- Admit.
pub admit_none : (p : PlanParts) (c : State) (w : ℕ) (seat : Seat) (t : Task) → offer_due p w t ≡ None → admit_row p c w seat t ≡ None
admit_none p c w seat (Opens n (Admitting x)) q = absurd (none-some _ (sym q))
admit_none p c w seat (Opens n Offering) q = absurd (none-some _ (sym q))
admit_none p c w seat (Closes n (Passing m v)) q = absurd (none-some _ (sym q))
admit_none p c w seat _ q = refl

pub admit_is : (p : PlanParts) (c : State) (w : ℕ) (seat : Seat) (o : Offer) (t : Task) → offer_due p w t ≡ Some o → admit_row p c w seat t ≡ Some (offers c w (admitted_seat p seat t) o.node o.to)
admit_is p c w seat o (Opens n (Admitting x)) q = ap (λ (y : Offer). Some (offers c w (admitted_seat p seat (Opens n (Admitting x))) y.node y.to)) (same_Some _ _ q)
admit_is p c w seat o (Opens n Offering) q = ap (λ (y : Offer). Some (offers c w (admitted_seat p seat (Opens n Offering)) y.node y.to)) (same_Some _ _ q)
admit_is p c w seat o (Closes n (Passing m v)) q = ap (λ (y : Offer). Some (offers c w (admitted_seat p seat (Closes n (Passing m v))) y.node y.to)) (same_Some _ _ q)
admit_is p c w seat o _ q = absurd (none-some o q)

-- Give, by the word of the key that is given back.
pub give_none : (p : PlanParts) (c : State) (w : ℕ) (seat : Seat) (t : Task) → back_due t ≡ None → give_row p c w seat t ≡ None
give_none p c w seat (Opens n (Backing (suc i))) q = absurd (none-some _ (sym q))
give_none p c w seat (Closes n (Giving (suc i))) q = absurd (none-some _ (sym q))
give_none p c w seat _ q = refl

pub give_key : (p : PlanParts) (c : State) (w : ℕ) (seat : Seat) (back : Back) (t : Task) → back_due t ≡ Some back → give_row p c w seat t ≡ gives_key p c w seat (given_seat seat t).task back.node back.place (slice_get c.locks (key_at p back.node back.place))
give_key p c w seat back (Opens n (Backing (suc i))) q = ap (λ (b : Back). gives_key p c w seat (Opens n (Backing i)) b.node b.place (slice_get c.locks (key_at p b.node b.place))) (same_Some (record { node = n; place = i }) back q)
give_key p c w seat back (Closes n (Giving (suc i))) q = ap (λ (b : Back). gives_key p c w seat (Closes n (giving i)) b.node b.place (slice_get c.locks (key_at p b.node b.place))) (same_Some (record { node = n; place = i }) back q)
give_key p c w seat back _ q = absurd (none-some back q)

pub give_is : (p : PlanParts) (c : State) (w : ℕ) (seat : Seat) (back : Back) (word : LockWord) (t : Task) → back_due t ≡ Some back → slice_get c.locks (key_at p back.node back.place) ≡ Some word
    → give_row p c w seat t ≡ Some (puts_word c w seat (given_seat seat t).task (key_at p back.node back.place) (given_back (mode_at p back.node back.place) word))
give_is p c w seat back word t q found = give_key p c w seat back t q ∙ ap (gives_key p c w seat (given_seat seat t).task back.node back.place) found

-- Add a child: the next dynamic test of the factory in hand, if the reply has so many.
no_child : (b : Bool) (row : Option State) → row ≡ None → cond b row None ≡ None
no_child true row is = is
no_child false row is = refl

pub child_none : (p : PlanParts) (c : State) (w : ℕ) (seat : Seat) (reply : Reply) (t : Task) → ((h : Hand) (n : ℕ) → IsChildDue p t seat.hand h n → ⊥) → add_child_row p c w seat reply t ≡ None
child_none p c w seat reply (Opens n d) none = refl
child_none p c w seat reply (Closes n d) none = refl
child_none p c w seat reply Free none = by seat.hand refl
  where
    by : (hand : Option Hand) → seat.hand ≡ hand → add_child_hand p c w seat reply hand ≡ None
    by None held = refl
    by (Some h) held = waits h.waiting refl
      where
        waits : (o : Option ℕ) → h.waiting ≡ o → add_by_hand p c w seat reply h.factory h.registered o ≡ None
        waits (Some n) e = refl
        waits None e = next (next_spare p h.factory h.registered) refl
          where
            next : (o : Option ℕ) → next_spare p h.factory h.registered ≡ o → cond (nat_lt h.registered reply.pulls) (child_added c w seat h.factory o) None ≡ None
            next None q = no_child (nat_lt h.registered reply.pulls) None refl
            next (Some n) q = absurd (none h n (refl, held, e, q))

pub child_is : (p : PlanParts) (c : State) (w : ℕ) (seat : Seat) (reply : Reply) (h : Hand) (n : ℕ) (t : Task) → IsChildDue p t seat.hand h n → add_child_row p c w seat reply t ≡ cond (nat_lt h.registered reply.pulls) (child_added c w seat h.factory (Some n)) None
child_is p c w seat reply h n t due =
    ap (add_child_row p c w seat reply) due.0 ∙ ap (add_child_hand p c w seat reply) due.1 ∙ ap (add_by_hand p c w seat reply h.factory h.registered) due.2
    ∙ ap (λ (o : Option ℕ). cond (nat_lt h.registered reply.pulls) (child_added c w seat h.factory o) None) due.3

-- Done: a guard is given up, with the reply that is there; where none is asked for, with any.
abbrev pub reply_or : Option Reply → Reply
reply_or None = unasked
reply_or (Some reply) = reply

pulled_none : (p : PlanParts) (c : State) (w : ℕ) (reply : Reply) (f k : ℕ) (waiting : Option ℕ) → pulled_guard p f k waiting reply ≡ None → done_by_hand p c w reply f k waiting ≡ None
pulled_none p c w reply f k (Some n) q = refl
pulled_none p c w reply f k None q = both (is_pulled p f k reply) q
  where
    may : Bool → Option Guard
    may b = cond b (Some (record { node = f; result = pulled_result k reply; hand = None })) None

    row : Bool → Option State
    row b = cond b (Some (guard_given p c w None f (pulled_result k reply))) None

    both : (b : Bool) → may b ≡ None → row b ≡ None
    both true e = absurd (none-some _ (sym e))
    both false e = refl

hand_none : (p : PlanParts) (c : State) (w : ℕ) (reply : Reply) (hand : Option Hand) → hand_guard p hand (Some reply) ≡ None → done_hand p c w reply hand ≡ None
hand_none p c w reply None q = refl
hand_none p c w reply (Some hand) q = pulled_none p c w reply hand.factory hand.registered hand.waiting q

pub guard_none : (p : PlanParts) (c : State) (w : ℕ) (seat : Seat) (reply : Reply) (t : Task) → guard_due p (Some reply) seat t ≡ None → ((n : ℕ) → t ≡ Closes n CountingOff → ⊥) → done_row p c w seat reply t ≡ None
guard_none p c w seat reply (Opens n Guarding) q other = absurd (none-some _ (sym q))
guard_none p c w seat reply Free q other = hand_none p c w reply seat.hand q
guard_none p c w seat reply (Closes n CountingOff) q other = absurd (other n refl)
guard_none p c w seat reply _ q other = refl

pulled_is : (p : PlanParts) (c : State) (w : ℕ) (x : Guard) (reply : Reply) (f k : ℕ) (waiting : Option ℕ) → pulled_guard p f k waiting reply ≡ Some x → done_by_hand p c w reply f k waiting ≡ Some (guard_given p c w x.hand x.node x.result)
pulled_is p c w x reply f k (Some n) q = absurd (none-some x q)
pulled_is p c w x reply f k None q = both (is_pulled p f k reply) q
  where
    given : Guard
    given = record { node = f; result = pulled_result k reply; hand = None }

    both : (b : Bool) → cond b (Some given) None ≡ Some x → cond b (Some (guard_given p c w None f (pulled_result k reply))) None ≡ Some (guard_given p c w x.hand x.node x.result)
    both true e = ap (λ (y : Guard). Some (guard_given p c w y.hand y.node y.result)) (same_Some given x e)
    both false e = absurd (none-some x e)

hand_is : (p : PlanParts) (c : State) (w : ℕ) (x : Guard) (hand : Option Hand) (answer : Option Reply) → hand_guard p hand answer ≡ Some x → done_hand p c w (reply_or answer) hand ≡ Some (guard_given p c w x.hand x.node x.result)
hand_is p c w x None answer q = absurd (none-some x q)
hand_is p c w x (Some hand) None q = absurd (none-some x q)
hand_is p c w x (Some hand) (Some reply) q = pulled_is p c w x reply hand.factory hand.registered hand.waiting q

pub guard_is : (p : PlanParts) (c : State) (w : ℕ) (seat : Seat) (x : Guard) (answer : Option Reply) (t : Task) → guard_due p answer seat t ≡ Some x → done_row p c w seat (reply_or answer) t ≡ Some (guard_given p c w x.hand x.node x.result)
guard_is p c w seat x answer (Opens n Guarding) q = ap (λ (y : Guard). Some (guard_given p c w y.hand y.node y.result)) (same_Some (record { node = n; result = Successful; hand = seat.hand }) x q)
guard_is p c w seat x answer Free q = hand_is p c w x seat.hand answer q
guard_is p c w seat x answer _ q = absurd (none-some x q)

-- and a node is counted off at its parent
pub counted_is : (p : PlanParts) (c : State) (w : ℕ) (seat : Seat) (reply : Reply) (n : ℕ) (t : Task) → t ≡ Closes n CountingOff → done_row p c w seat reply t ≡ Some (counted_off p c w seat (parent_of p.tree n))
counted_is p c w seat reply n t q = ap (done_row p c w seat reply) q

-- The other steps, each by its own task.
pub notice_none : (p : PlanParts) (c : State) (w : ℕ) (seat : Seat) (t : Task) → ((n : ℕ) → t ≡ Opens n Noticing → ⊥) → notice_row p c w seat t ≡ None
notice_none p c w seat (Opens n Noticing) other = absurd (other n refl)
notice_none p c w seat _ other = refl

pub raise_none : (p : PlanParts) (c : State) (w : ℕ) (seat : Seat) (t : Task) → ((n : ℕ) → t ≡ Closes n Raising → ⊥) → raise_row p c w seat t ≡ None
raise_none p c w seat (Closes n Raising) other = absurd (other n refl)
raise_none p c w seat _ other = refl

pub weigh_none : (p : PlanParts) (c : State) (w : ℕ) (seat : Seat) (t : Task) → ((n i : ℕ) → t ≡ Opens n (Locking i) → ⊥) → weigh_row p c w seat t ≡ None
weigh_none p c w seat (Opens n (Locking i)) other = absurd (other n i refl)
weigh_none p c w seat _ other = refl

pub take_none : (p : PlanParts) (c : State) (w : ℕ) (seat : Seat) (t : Task) → ((n i : ℕ) (seen : LockWord) → t ≡ Opens n (Weighed i seen) → ⊥) → take_row p c w seat t ≡ None
take_none p c w seat (Opens n (Weighed i seen)) other = absurd (other n i seen refl)
take_none p c w seat _ other = refl

pub give_up_none : (p : PlanParts) (c : State) (w : ℕ) (seat : Seat) (t : Task) → ((n : ℕ) → t ≡ Opens n (Backing zero) → ⊥) → give_up_row p c w seat t ≡ None
give_up_none p c w seat (Opens n (Backing zero)) other = absurd (other n refl)
give_up_none p c w seat _ other = refl

pub settle_none : (p : PlanParts) (c : State) (w : ℕ) (seat : Seat) (t : Task) → ((n : ℕ) → t ≡ Closes n Settling → ⊥) → settle_row p c w seat t ≡ None
settle_none p c w seat (Closes n Settling) other = absurd (other n refl)
settle_none p c w seat _ other = refl

-- a free worker may look, and finds nothing
pub look_none : (p : PlanParts) (c : State) (w : ℕ) (seat : Seat) (t : Task) → (t ≡ Free → ⊥) → ((n m : ℕ) → t ≡ Closes n (Looking m) → ⊥) → look_row p c w seat t ≡ None
look_none p c w seat Free busy other = absurd (busy refl)
look_none p c w seat (Closes n (Looking m)) busy other = absurd (other n m refl)
look_none p c w seat _ busy other = refl
