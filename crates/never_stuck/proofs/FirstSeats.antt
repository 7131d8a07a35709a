-- A state and the same with the seats of its first workers alone: the steps of these workers and of the dispatcher do the same in both.
use Rattle.std.specs.Prelude.{option_and_then, take}
use Rattle.std.specs.Option.{option_map}
use Rattle.std.proofs.Common.{◌≡◌, ℕ, zero, suc, ◌<◌, ◌≤◌, Bool, true, false, cond, ◌&&◌, nat_lt, List, [], ◌∷◌, length, set, Option, Some, None, slice_get, slice_index_or, refl, sym, ap, ◌∙◌, arith}
use Rattle.descriptor.specs.Nodes.{parent_of}
use Rattle.plan_events.specs.declared.event.Event.{Event}
use Rattle.plan_events.specs.declared.outcome.Reply.{Reply}
use Rattle.resource_locks.specs.Plans.{PlanParts}
use Rattle.scheduling.specs.declared.status.NodeStatus.{NodeStatus}
use Rattle.scheduling.specs.declared.status.NodeStatus.TheVariants.{Hidden, Ready, Claimed, Settled}
use Rattle.scheduling.specs.declared.lock_word.LockWord.{LockWord}
use Rattle.scheduling.specs.declared.task.Opening.TheVariants.{Registering, RegisteredAt, Offering, Noticing, Locking, Weighed, Backing, Beginning, StartedAt, Admitting, Guarding}
use Rattle.scheduling.specs.declared.task.Closing.TheVariants.{Ending, FinishedAt, SkippedAt, Raising, Giving, Settling, Looking, Passing, CountingOff}
use Rattle.scheduling.specs.declared.task.Task.{Task}
use Rattle.scheduling.specs.declared.task.Task.TheVariants.{Free, Opens, Closes}
use Rattle.scheduling.specs.declared.seat.Hand.{Hand}
use Rattle.scheduling.specs.declared.seat.Seat.{Seat}
use Rattle.scheduling.specs.declared.step.Action.{Action}
use Rattle.scheduling.specs.declared.step.Action.TheVariants.{Claim, Own, Notice, Weigh, Take, Give, GiveUp, Draw, Show, Admit, AddChild, Done, Settle, Look, Raise}
use Rattle.scheduling.specs.State.{State, status_at}
use Rattle.scheduling.specs.Choices.{next_spare, is_pulled, same_word}
use Rattle.scheduling.specs.Rows.{goes_to, is_free, is_empty, is_of_hand, is_ready_for, claimed, notice_row, raise_row, weigh_row, take_found, take_row, gives_key, give_row, give_up_row, draw_row, show_row, admit_row, child_added, add_by_hand, add_child_hand, add_child_row, done_by_hand, done_hand, done_row, settle_row, look_found, look_row, row, read_event, Works, Dispatches, decided_seat, after_seat, after}
use Rattle.scheduling.specs.Runs.{or_stays, next}

-- the state with the seats of the first workers alone, so many
abbrev pub first_seats : ℕ → State → State
first_seats many s = record s { seats = take many s.seats }

-- seats
pub take_get : (many : ℕ) (q : List Seat) (w : ℕ) → w < many → slice_get (take many q) w ≡ slice_get q w
take_get zero q w low = absurd (omega (arith, low))
take_get (suc many) [] w low = refl
take_get (suc many) (o ∷ q) zero low = refl
take_get (suc many) (o ∷ q) (suc w) low = take_get many q w (omega (arith, low))

pub take_past : (many : ℕ) (q : List Seat) (w : ℕ) → many ≤ w → slice_get (take many q) w ≡ None
take_past zero q w far = refl
take_past (suc many) [] w far = refl
take_past (suc many) (o ∷ q) zero far = absurd (omega (arith, far))
take_past (suc many) (o ∷ q) (suc w) far = take_past many q w (omega (arith, far))

take_set : (many : ℕ) (q : List Seat) (w : ℕ) (o : Seat) → take many (set q w o) ≡ set (take many q) w o
take_set zero q w o = refl
take_set (suc many) [] w o = refl
take_set (suc many) (x ∷ q) zero o = refl
take_set (suc many) (x ∷ q) (suc w) o = ap (λ (l : List Seat). x ∷ l) (take_set many q w o)

module _ (many : ℕ) where
  -- the one is the other, with the first seats alone
  abbrev Same : Option State → Option State → Type 0
  Same found fewer = fewer ≡ option_map (first_seats many) found

  same_cond : (b : Bool) (x y x2 y2 : Option State) → Same x x2 → Same y y2 → Same (cond b x y) (cond b x2 y2)
  same_cond true x y x2 y2 a c = a
  same_cond false x y x2 y2 a c = c

  module _ (p : PlanParts) (s : State) (w : ℕ) (seat : Seat) (reply : Reply) where
    abbrev F : State
    F = first_seats many s

    -- a state that a row makes, with this seat
    made : (u : State) (o : Seat) → u.seats ≡ goes_to s w o → Same (Some u) (Some (record u { seats = goes_to F w o }))
    made u o is = ap (λ (l : List Seat). Some (record u { seats = l })) (sym (ap (take many) is ∙ take_set many s.seats w o))

    take_same : (n i : ℕ) (v : LockWord) (found : Option LockWord) → Same (take_found p s w seat n i v found) (take_found p F w seat n i v found)
    take_same n i v None = refl
    take_same n i v (Some word) = same_cond (same_word word v) _ _ _ _ (made _ _ refl) (made _ _ refl)

    give_same : (t : Task) (n i : ℕ) (found : Option LockWord) → Same (gives_key p s w seat t n i found) (gives_key p F w seat t n i found)
    give_same t n i None = refl
    give_same t n i (Some word) = made _ _ refl

    added_same : (f : ℕ) (found : Option ℕ) → Same (child_added s w seat f found) (child_added F w seat f found)
    added_same f None = refl
    added_same f (Some c) = made _ _ refl

    add_same : (f k : ℕ) (waiting : Option ℕ) → Same (add_by_hand p s w seat reply f k waiting) (add_by_hand p F w seat reply f k waiting)
    add_same f k None = same_cond (nat_lt k reply.pulls) _ _ _ _ (added_same f (next_spare p f k)) refl
    add_same f k (Some c) = refl

    hand_same : (hand : Option Hand) → Same (add_child_hand p s w seat reply hand) (add_child_hand p F w seat reply hand)
    hand_same None = refl
    hand_same (Some hand) = add_same hand.factory hand.registered hand.waiting

    done_by_same : (f k : ℕ) (waiting : Option ℕ) → Same (done_by_hand p s w reply f k waiting) (done_by_hand p F w reply f k waiting)
    done_by_same f k None = same_cond (is_pulled p f k reply) _ _ _ _ (made _ _ refl) refl
    done_by_same f k (Some c) = refl

    done_hand_same : (hand : Option Hand) → Same (done_hand p s w reply hand) (done_hand p F w reply hand)
    done_hand_same None = refl
    done_hand_same (Some hand) = done_by_same hand.factory hand.registered hand.waiting

    look_found_same : (n m : ℕ) (status : NodeStatus) → Same (look_found s w seat n m status) (look_found F w seat n m status)
    look_found_same n m (Claimed o) = made _ _ refl
    look_found_same n m Hidden = refl
    look_found_same n m (Ready o) = refl
    look_found_same n m Settled = refl

    notice_same : (t : Task) → Same (notice_row p s w seat t) (notice_row p F w seat t)
    notice_same (Opens n Noticing) = made _ _ refl
    notice_same _ = refl

    weigh_same : (t : Task) → Same (weigh_row p s w seat t) (weigh_row p F w seat t)
    weigh_same (Opens n (Locking i)) = made _ _ refl
    weigh_same _ = refl

    take_row_same : (t : Task) → Same (take_row p s w seat t) (take_row p F w seat t)
    take_row_same (Opens n (Weighed i v)) = take_same n i v _
    take_row_same _ = refl

    give_row_same : (t : Task) → Same (give_row p s w seat t) (give_row p F w seat t)
    give_row_same (Opens n (Backing (suc i))) = give_same _ n i _
    give_row_same (Closes n (Giving (suc i))) = give_same _ n i _
    give_row_same _ = refl

    give_up_same : (t : Task) → Same (give_up_row p s w seat t) (give_up_row p F w seat t)
    give_up_same (Opens n (Backing zero)) = made _ _ refl
    give_up_same _ = refl

    draw_same : (t : Task) → Same (draw_row s w seat t) (draw_row F w seat t)
    draw_same (Opens n Registering) = made _ _ refl
    draw_same (Opens n (Beginning true)) = made _ _ refl
    draw_same (Opens n (Beginning false)) = made _ _ refl
    draw_same (Closes n (Ending status)) = made _ _ refl
    draw_same _ = refl

    show_same : (t : Task) → Same (show_row p s w seat t) (show_row p F w seat t)
    show_same (Opens n (RegisteredAt i)) = made _ _ refl
    show_same (Opens n (StartedAt i)) = made _ _ refl
    show_same (Closes n (SkippedAt i)) = made _ _ refl
    show_same (Closes n (FinishedAt i status)) = made _ _ refl
    show_same _ = refl

    admit_same : (t : Task) → Same (admit_row p s w seat t) (admit_row p F w seat t)
    admit_same (Opens n (Admitting c)) = made _ _ refl
    admit_same (Opens c Offering) = made _ _ refl
    admit_same (Closes n (Passing m o)) = made _ _ refl
    admit_same _ = refl

    add_row_same : (t : Task) → Same (add_child_row p s w seat reply t) (add_child_row p F w seat reply t)
    add_row_same Free = hand_same seat.hand
    add_row_same _ = refl

    done_same : (t : Task) → Same (done_row p s w seat reply t) (done_row p F w seat reply t)
    done_same (Opens n Guarding) = made _ _ refl
    done_same (Closes c CountingOff) = made _ _ refl
    done_same Free = done_hand_same seat.hand
    done_same _ = refl

    settle_same : (t : Task) → Same (settle_row p s w seat t) (settle_row p F w seat t)
    settle_same (Closes n Settling) = made _ _ refl
    settle_same _ = refl

    look_same : (t : Task) → Same (look_row p s w seat t) (look_row p F w seat t)
    look_same (Closes n (Looking m)) = look_found_same n m (status_at s (parent_of p.tree n))
    look_same Free = refl
    look_same _ = refl

    raise_same : (t : Task) → Same (raise_row p s w seat t) (raise_row p F w seat t)
    raise_same (Closes n Raising) = made _ _ refl
    raise_same _ = refl

    claim_same : (b : Bool) (n : ℕ) → Same (cond b (Some (claimed p s w seat n)) None) (cond b (Some (claimed p F w seat n)) None)
    claim_same b n = same_cond b _ _ _ _ (made _ _ refl) refl

    row_same : (a : Action) → Same (row p s w seat reply a) (row p F w seat reply a)
    row_same (Claim n) = claim_same (is_free seat.task && (is_empty seat.hand && is_ready_for None (status_at s n))) n
    row_same (Own n) = claim_same (is_free seat.task && (is_of_hand p seat.hand n && is_ready_for (Some w) (status_at s n))) n
    row_same Notice = notice_same seat.task
    row_same Weigh = weigh_same seat.task
    row_same Take = take_row_same seat.task
    row_same Give = give_row_same seat.task
    row_same GiveUp = give_up_same seat.task
    row_same Draw = draw_same seat.task
    row_same Show = show_same seat.task
    row_same Admit = admit_same seat.task
    row_same AddChild = add_row_same seat.task
    row_same Done = done_same seat.task
    row_same Settle = settle_same seat.task
    row_same Look = look_same seat.task
    row_same Raise = raise_same seat.task

  -- a step of one of the first workers
  worker_same : (p : PlanParts) (s : State) (w : ℕ) (a : Action) (reply : Reply) → w < many → Same (after p s (Works w a reply)) (after p (first_seats many s) (Works w a reply))
  worker_same p s w a reply low = ap (option_and_then (after_seat p (first_seats many s) w a reply)) (take_get many s.seats w low) ∙ go (slice_get s.seats w)
    where
      go : (found : Option Seat) → Same (option_and_then (after_seat p s w a reply) found) (option_and_then (after_seat p (first_seats many s) w a reply) found)
      go None = refl
      go (Some seat) =
          let o : Seat = decided_seat p reply seat in
          ap (λ (l : List Seat). row p (record s { seats = l }) w o reply a) (sym (take_set many s.seats w o)) ∙ row_same p (record s { seats = goes_to s w o }) w o reply a

  read_same : (p : PlanParts) (s : State) → Same (after p s Dispatches) (after p (first_seats many s) Dispatches)
  read_same p s = go (slice_index_or s.shown (length s.given) false) (slice_get s.published (length s.given))
    where
      go : (shown : Bool) (found : Option Event) → Same (read_event s shown found) (read_event (first_seats many s) shown found)
      go true (Some e) = refl
      go true None = refl
      go false found = refl

  next_same : (s : State) (found fewer : Option State) → Same found fewer → or_stays (first_seats many s) fewer ≡ first_seats many (or_stays s found)
  next_same s None fewer same = ap (or_stays (first_seats many s)) same
  next_same s (Some t) fewer same = ap (or_stays (first_seats many s)) same

  -- The state after a step of one of the first workers, or of the dispatcher; and one of another worker changes nothing.
  pub works_same : (p : PlanParts) (s : State) (w : ℕ) (a : Action) (reply : Reply) → w < many → next p (first_seats many s) (Works w a reply) ≡ first_seats many (next p s (Works w a reply))
  works_same p s w a reply low = next_same s _ _ (worker_same p s w a reply low)

  pub reads_same : (p : PlanParts) (s : State) → next p (first_seats many s) Dispatches ≡ first_seats many (next p s Dispatches)
  reads_same p s = next_same s _ _ (read_same p s)

  pub others_rest : (p : PlanParts) (s : State) (w : ℕ) (a : Action) (reply : Reply) → many ≤ w → next p (first_seats many s) (Works w a reply) ≡ first_seats many s
  others_rest p s w a reply far = ap (λ (found : Option Seat). or_stays (first_seats many s) (option_and_then (after_seat p (first_seats many s) w a reply) found)) (take_past many s.seats w far)
