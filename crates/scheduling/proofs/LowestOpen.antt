-- The number below which no node is open, through the rows: a row opens no node but the one that its task offers.
use Rattle.std.proofs.Common.{◌≡◌, ℕ, zero, suc, ◌+◌, ◌<◌, ◌≤◌, min, Bool, true, false, ◌&&◌, nat_lt, cond, List, [], ◌∷◌, length, set, get_or, Option, Some, None, slice_get, slice_index_or, inl, inr, refl, sym, ap, ◌∙◌, subst, arith, get_or-set_other}
use Rattle.std.proofs.lemmas.Bool.{cases_eq}
use Rattle.descriptor.specs.Nodes.{parent_of}
use Rattle.plan_events.specs.declared.event.Event.{Event}
use Rattle.plan_events.specs.declared.outcome.Reply.{Reply}
use Rattle.resource_locks.specs.Plans.{PlanParts}
use Rattle.scheduling.specs.declared.status.NodeStatus.{NodeStatus}
use Rattle.scheduling.specs.declared.status.NodeStatus.TheVariants.{Hidden, Ready, Claimed, Settled}
use Rattle.scheduling.specs.declared.lock_word.LockWord.{LockWord}
use Rattle.scheduling.specs.declared.task.Opening.TheVariants.{Registering, RegisteredAt, Offering, Noticing, Locking, Weighed, Backing, Beginning, StartedAt, Admitting, Guarding}
use Rattle.scheduling.specs.declared.task.Closing.TheVariants.{Ending, FinishedAt, SkippedAt, Raising, Giving, Settling, Looking, Passing, CountingOff}
use Rattle.scheduling.specs.declared.task.Task.{Task}
use Rattle.scheduling.specs.declared.task.Task.TheVariants.{Free, Opens, Closes}
use Rattle.scheduling.specs.declared.seat.Hand.{Hand}
use Rattle.scheduling.specs.declared.seat.Seat.{Seat}
use Rattle.scheduling.specs.State.{State, status_at}
use Rattle.scheduling.specs.Choices.{next_spare, is_pulled, pulled_result, same_word, key_at, mode_at, taken, lock_from, decided}
use Rattle.scheduling.specs.declared.step.Action.{Action}
use Rattle.scheduling.specs.declared.step.Action.TheVariants.{Claim, Own, Notice, Weigh, Take, Give, GiveUp, Draw, Show, Admit, AddChild, Done, Settle, Look, Raise}
use Rattle.scheduling.specs.Rows.{goes, puts_word, claimed, guard_given, row, is_free, is_empty, is_of_hand, is_ready_for, notice_row, weigh_row, take_found, take_row, gives_key, give_row, give_up_row, draw_row, show_row, admit_row, child_added, add_by_hand, add_child_hand, add_child_row, done_by_hand, done_hand, done_row, settle_row, look_found, look_row, raise_row, read_event, read_row, decided_seat, after, Works}
use Rattle.scheduling.specs.Schedule.{is_open, IsFirstOpen, taking}
use Rattle.scheduling.proofs.DecidedInPlace.{after_direct}
use Rattle.scheduling.specs.Inside.Lowest.{NoneOpenBelow, lower, offered_by, lowest_after}

-- a status from the number on may change
set_above : (l : List NodeStatus) (i m : ℕ) (v : NodeStatus) → m < i → is_open (get_or l m Hidden) ≡ false → is_open (get_or (set l i v) m Hidden) ≡ false
set_above l i m v lt none = ap is_open (get_or-set_other l i m v Hidden (omega (arith, lt))) ∙ none

-- so may any status that does not become open
set_closed : (l : List NodeStatus) (i m : ℕ) (v : NodeStatus) → is_open v ≡ false → is_open (get_or l m Hidden) ≡ false → is_open (get_or (set l i v) m Hidden) ≡ false
set_closed [] i m v closed none = none
set_closed (x ∷ l) zero zero v closed none = closed
set_closed (x ∷ l) zero (suc m) v closed none = none
set_closed (x ∷ l) (suc i) zero v closed none = none
set_closed (x ∷ l) (suc i) (suc m) v closed none = set_closed l i m v closed none

-- and what becomes so is not open, wherever it stands
set_here : (l : List NodeStatus) (i : ℕ) (v : NodeStatus) → is_open v ≡ false → is_open (get_or (set l i v) i Hidden) ≡ false
set_here [] i v closed = refl
set_here (x ∷ l) zero v closed = closed
set_here (x ∷ l) (suc i) v closed = set_here l i v closed

lower_less : (o : Option ℕ) (lowest : ℕ) → lower o lowest ≤ lowest
lower_less None lowest = omega arith
lower_less (Some c) lowest = omega arith

pub below_less : (s : State) (k lowest : ℕ) → k ≤ lowest → NoneOpenBelow s lowest → NoneOpenBelow s k
below_less s k lowest le none m lt = none m (omega (arith, lt, le))

-- no node below the number is open in the state that is found
abbrev Found : ℕ → Option State → Type 0
Found k None = Unit {0}
Found k (Some t) = NoneOpenBelow t k

cond_found : (k : ℕ) (b : Bool) (x y : Option State) → Found k x → Found k y → Found k (cond b x y)
cond_found k true x y a b = a
cond_found k false x y a b = b

-- a row whose task offers nothing opens no node
module _ (p : PlanParts) (s : State) (w : ℕ) (seat : Seat) (reply : Reply) (k : ℕ) (none : NoneOpenBelow s k) where
  closes : (n : ℕ) (v : NodeStatus) → is_open v ≡ false → (m : ℕ) → m < k → is_open (get_or (set s.statuses n v) m Hidden) ≡ false
  closes n v closed m lt = set_closed s.statuses n m v closed (none m lt)

  take_found_n : (n i : ℕ) (v : LockWord) (found : Option LockWord) → Found k (take_found p s w seat n i v found)
  take_found_n n i v None = tt
  take_found_n n i v (Some word) = cond_found k (same_word word v) (Some (puts_word s w seat (Opens n (lock_from p n (suc i))) (key_at p n i) (taken (mode_at p n i) word))) (Some (goes s w seat (Opens n (Locking i)))) none none

  gives_n : (t : Task) (n i : ℕ) (found : Option LockWord) → Found k (gives_key p s w seat t n i found)
  gives_n t n i None = tt
  gives_n t n i (Some word) = none

  added_n : (f : ℕ) (found : Option ℕ) → Found k (child_added s w seat f found)
  added_n f None = tt
  added_n f (Some c) = none

  add_n : (f i : ℕ) (waiting : Option ℕ) → Found k (add_by_hand p s w seat reply f i waiting)
  add_n f i None = cond_found k (nat_lt i reply.pulls) (child_added s w seat f (next_spare p f i)) None (added_n f (next_spare p f i)) tt
  add_n f i (Some c) = tt

  add_hand_n : (hand : Option Hand) → Found k (add_child_hand p s w seat reply hand)
  add_hand_n None = tt
  add_hand_n (Some hand) = add_n hand.factory hand.registered hand.waiting

  done_n : (f i : ℕ) (waiting : Option ℕ) → Found k (done_by_hand p s w reply f i waiting)
  done_n f i None = cond_found k (is_pulled p f i reply) (Some (guard_given p s w None f (pulled_result i reply))) None none tt
  done_n f i (Some c) = tt

  done_hand_n : (hand : Option Hand) → Found k (done_hand p s w reply hand)
  done_hand_n None = tt
  done_hand_n (Some hand) = done_n hand.factory hand.registered hand.waiting

  look_found_n : (n m : ℕ) (status : NodeStatus) → Found k (look_found s w seat n m status)
  look_found_n n m (Claimed o) = none
  look_found_n n m Hidden = tt
  look_found_n n m (Ready o) = tt
  look_found_n n m Settled = tt

  notice_n : (t : Task) → Found k (notice_row p s w seat t)
  notice_n (Opens n Noticing) = none
  notice_n _ = tt

  weigh_n : (t : Task) → Found k (weigh_row p s w seat t)
  weigh_n (Opens n (Locking i)) = none
  weigh_n _ = tt

  take_n : (t : Task) → Found k (take_row p s w seat t)
  take_n (Opens n (Weighed i v)) = take_found_n n i v (slice_get s.locks (key_at p n i))
  take_n _ = tt

  give_n : (t : Task) → Found k (give_row p s w seat t)
  give_n (Opens n (Backing (suc i))) = gives_n _ n i (slice_get s.locks (key_at p n i))
  give_n (Closes n (Giving (suc i))) = gives_n _ n i (slice_get s.locks (key_at p n i))
  give_n _ = tt

  draw_n : (t : Task) → Found k (draw_row s w seat t)
  draw_n (Opens n Registering) = none
  draw_n (Opens n (Beginning true)) = none
  draw_n (Opens n (Beginning false)) = none
  draw_n (Closes n (Ending status)) = none
  draw_n _ = tt

  show_n : (t : Task) → Found k (show_row p s w seat t)
  show_n (Opens n (RegisteredAt i)) = none
  show_n (Opens n (StartedAt i)) = none
  show_n (Closes n (SkippedAt i)) = none
  show_n (Closes n (FinishedAt i status)) = none
  show_n _ = tt

  add_child_n : (t : Task) → Found k (add_child_row p s w seat reply t)
  add_child_n Free = add_hand_n seat.hand
  add_child_n _ = tt

  done_row_n : (t : Task) → Found k (done_row p s w seat reply t)
  done_row_n (Opens n Guarding) = none
  done_row_n (Closes c CountingOff) = none
  done_row_n Free = done_hand_n seat.hand
  done_row_n _ = tt

  settle_n : (t : Task) → Found k (settle_row p s w seat t)
  settle_n (Closes n Settling) = closes n Settled refl
  settle_n _ = tt

  look_n : (t : Task) → Found k (look_row p s w seat t)
  look_n (Closes n (Looking m)) = look_found_n n m (status_at s (parent_of p.tree n))
  look_n Free = none
  look_n _ = tt

  raise_n : (t : Task) → Found k (raise_row p s w seat t)
  raise_n (Closes n Raising) = none
  raise_n _ = tt

  claim_n : (b : Bool) (n : ℕ) → Found k (cond b (Some (claimed p s w seat n)) None)
  claim_n b n = cond_found k b (Some (claimed p s w seat n)) None (closes n (Claimed w) refl) tt

-- and one whose task offers a node none but that
module _ (p : PlanParts) (s : State) (w : ℕ) (seat : Seat) (lowest : ℕ) (none : NoneOpenBelow s lowest) where
  opens : (n : ℕ) (v : NodeStatus) (m : ℕ) → m < min lowest n → is_open (get_or (set s.statuses n v) m Hidden) ≡ false
  opens n v m lt = set_above s.statuses n m v (omega (arith, lt)) (none m (omega (arith, lt)))

  give_up_o : (t : Task) → Found (lowest_after t lowest) (give_up_row p s w seat t)
  give_up_o (Opens n (Backing zero)) = opens n _
  give_up_o _ = tt

  admit_o : (t : Task) → Found (lowest_after t lowest) (admit_row p s w seat t)
  admit_o (Opens n (Admitting c)) = opens c _
  admit_o (Opens c Offering) = opens c _
  admit_o (Closes n (Passing m o)) = opens m _
  admit_o _ = tt

module _ (p : PlanParts) (s : State) (w : ℕ) (seat : Seat) (reply : Reply) where
  row_found : (a : Action) (lowest : ℕ) → NoneOpenBelow s lowest → Found (lowest_after seat.task lowest) (row p s w seat reply a)
  row_found a lowest none = go a
    where
      k : ℕ
      k = lowest_after seat.task lowest

      less : NoneOpenBelow s (lowest_after seat.task lowest)
      less = below_less s (lowest_after seat.task lowest) lowest (lower_less (offered_by seat.task) lowest) none

      go : (a : Action) → Found (lowest_after seat.task lowest) (row p s w seat reply a)
      go (Claim n) = claim_n p s w seat reply k less (is_free seat.task && (is_empty seat.hand && is_ready_for None (status_at s n))) n
      go (Own n) = claim_n p s w seat reply k less (is_free seat.task && (is_of_hand p seat.hand n && is_ready_for (Some w) (status_at s n))) n
      go Notice = notice_n p s w seat reply k less seat.task
      go Weigh = weigh_n p s w seat reply k less seat.task
      go Take = take_n p s w seat reply k less seat.task
      go Give = give_n p s w seat reply k less seat.task
      go GiveUp = give_up_o p s w seat lowest none seat.task
      go Draw = draw_n p s w seat reply k less seat.task
      go Show = show_n p s w seat reply k less seat.task
      go Admit = admit_o p s w seat lowest none seat.task
      go AddChild = add_child_n p s w seat reply k less seat.task
      go Done = done_row_n p s w seat reply k less seat.task
      go Settle = settle_n p s w seat reply k less seat.task
      go Look = look_n p s w seat reply k less seat.task
      go Raise = raise_n p s w seat reply k less seat.task

pub row_none_below : (p : PlanParts) (s t : State) (w : ℕ) (seat : Seat) (reply : Reply) (a : Action) (lowest : ℕ) → row p s w seat reply a ≡ Some t → NoneOpenBelow s lowest → NoneOpenBelow t (lowest_after seat.task lowest)
row_none_below p s t w seat reply a lowest leads none = subst (Found (lowest_after seat.task lowest)) leads (row_found p s w seat reply a lowest none)

-- So it is with a step of a worker, whose task the reply decides first.
pub after_none_below : (p : PlanParts) (s t : State) (w : ℕ) (seat : Seat) (reply : Reply) (a : Action) (lowest : ℕ) → slice_get s.seats w ≡ Some seat → after p s (Works w a reply) ≡ Some t → NoneOpenBelow s lowest
    → NoneOpenBelow t (lowest_after (decided p reply seat.task) lowest)
after_none_below p s t w seat reply a lowest is leads = row_none_below p s t w (decided_seat p reply seat) reply a lowest (sym (after_direct p s w a reply seat is) ∙ leads)

-- The first open node is claimed, and then no node is open up to it.
module _ (p : PlanParts) (s t : State) (w : ℕ) (seat : Seat) (reply : Reply) (n : ℕ) (first : IsFirstOpen s n) where
  claimed_found : Found (n + 1) (Some (claimed p s w seat n))
  claimed_found m lt =
      elim (cases_eq m n) [
        | inl e ↦ subst (λ (x : ℕ). is_open (get_or (set s.statuses n (Claimed w)) x Hidden) ≡ false) (sym e) (set_here s.statuses n (Claimed w) refl)
        | inr ne ↦ set_closed s.statuses n m (Claimed w) refl (first.first m (omega (arith, lt, ne)))
      ]

  claim_found : (b : Bool) → Found (n + 1) (cond b (Some (claimed p s w seat n)) None)
  claim_found b = cond_found (n + 1) b (Some (claimed p s w seat n)) None claimed_found tt

  taking_found : (status : NodeStatus) → Found (n + 1) (row p s w seat reply (taking status n))
  taking_found (Ready (Some o)) = claim_found (is_free seat.task && (is_of_hand p seat.hand n && is_ready_for (Some w) (status_at s n)))
  taking_found _ = claim_found (is_free seat.task && (is_empty seat.hand && is_ready_for None (status_at s n)))

  pub claims_through : row p s w seat reply (taking (status_at s n) n) ≡ Some t → NoneOpenBelow t (n + 1)
  claims_through leads = subst (Found (n + 1)) leads (taking_found (status_at s n))

  pub claims_first : row p s w seat reply (taking (status_at s n) n) ≡ Some t → NoneOpenBelow t n
  claims_first leads = below_less t n (n + 1) (omega arith) (claims_through leads)

-- The dispatcher opens no node.
pub read_none_below : (s t : State) (lowest : ℕ) → read_row s ≡ Some t → NoneOpenBelow s lowest → NoneOpenBelow t lowest
read_none_below s t lowest leads none = subst (Found lowest) leads (go (slice_index_or s.shown (length s.given) false) (slice_get s.published (length s.given)))
  where
    go : (b : Bool) (e : Option Event) → Found lowest (read_event s b e)
    go true (Some e) = none
    go true None = tt
    go false e = tt
