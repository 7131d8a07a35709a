-- What kinds of steps there are: those by which nobody is in the way; a weigh; a missed take; and the steps back after a busy weigh.
use Rattle.std.proofs.Common.{◌≡◌, ℕ, zero, suc, ◌≤◌, Bool, true, false, cond, ◌&&◌, ◌==◌, nat_lt, length, set, Option, Some, None, slice_get, inl, inr, ◌⊎◌, refl, ap, ◌∙◌, arith}
use Rattle.std.proofs.lemmas.Bool.{and_parts, false≢true, eqb-true}
use Rattle.descriptor.specs.Nodes.{size, parent_of, is_disabled}
use Rattle.plan_events.specs.declared.outcome.Reply.{Reply}
use Rattle.plan_events.specs.declared.status.Status.{Status}
use Rattle.plan_events.specs.declared.status.Status.TheVariants.{Successful}
use Rattle.resource_locks.specs.Plans.{PlanParts}
use Rattle.event_history.specs.Plans.{pulls_job}
use Rattle.scheduling.specs.declared.status.NodeStatus.{NodeStatus}
use Rattle.scheduling.specs.declared.status.NodeStatus.TheVariants.{Hidden, Ready, Claimed, Settled}
use Rattle.scheduling.specs.declared.lock_word.LockWord.{LockWord}
use Rattle.scheduling.specs.declared.lock_word.LockWord.TheVariants.{Readers, Written}
use Rattle.scheduling.specs.declared.task.Opening.TheVariants.{Registering, RegisteredAt, Offering, Noticing, Locking, Weighed, Backing, Beginning, StartedAt, Awaiting, Admitting, Guarding}
use Rattle.scheduling.specs.declared.task.Closing.TheVariants.{AwaitingAfter, Ending, FinishedAt, SkippedAt, Raising, Giving, Settling, Looking, Passing, CountingOff}
use Rattle.scheduling.specs.declared.task.Task.{Task}
use Rattle.scheduling.specs.declared.task.Task.TheVariants.{Free, Opens, Closes}
use Rattle.scheduling.specs.declared.seat.Hand.{Hand}
use Rattle.scheduling.specs.declared.seat.Seat.{Seat}
use Rattle.scheduling.specs.State.{State, status_at, counter_at, result_at, lock_at}
use Rattle.scheduling.specs.Choices.{keys_count, in_batch, first_from, notices, next_spare, is_pulled, pulled_result, same_word, key_at, mode_at, taken, given_back, lock_from, begins, claims, giving, after_finish, after_settle, admit_next, ending, decided}
use Rattle.scheduling.specs.declared.step.Action.{Action}
use Rattle.scheduling.specs.declared.step.Action.TheVariants.{Claim, Own, Notice, Weigh, Take, Give, GiveUp, Draw, Show, Admit, AddChild, Done, Settle, Look, Raise}
use Rattle.scheduling.specs.Rows.{one_more, waits_for, waits_no_more, with_task, goes, puts_word, weighed, claimed, given_up, guard_given, ends_or_free, after_start, row, is_free, is_empty, is_of_hand, is_ready_for, notice_row, weigh_row, take_found, take_row, gives_key, give_row, give_up_row, draw_row, show_row, admit_row, child_added, add_by_hand, add_child_hand, add_child_row, done_by_hand, done_hand, done_row, settle_row, look_found, look_row, raise_row, is_cancelled}
use Rattle.scheduling.specs.Inside.Work.{IsClear}
use Rattle.scheduling.proofs.RowsOne.{by_cond}
use Rattle.never_stuck.proofs.Able.{is_trying, decided_calm}

-- between a look at a key's word and what comes of it
abbrev pub is_midway : Task → Bool
is_midway (Opens n (Weighed i word)) = true
is_midway (Opens n (Backing i)) = true
is_midway _ = false

pub same_is : (a b : LockWord) → same_word a b ≡ true → a ≡ b
same_is (Readers a) (Readers b) q = ap Readers (eqb-true a b q)
same_is Written Written q = refl
same_is (Readers a) Written q = absurd (false≢true q)
same_is Written (Readers b) q = absurd (false≢true q)

-- what a reply decides takes no keys, or it decides nothing
pub decided_or : (p : PlanParts) (reply : Reply) (t : Task) → (is_trying (decided p reply t) ≡ false) ⊎ (decided p reply t ≡ t)
decided_or p reply (Opens n Awaiting) = inl (decided_calm p reply (Opens n Awaiting) refl)
decided_or p reply (Closes n AwaitingAfter) = inl refl
decided_or p reply _ = inr refl

pub decided_no_higher : (p : PlanParts) (reply : Reply) (f : Task → ℕ) → ((t : Task) → is_trying t ≡ false → f t ≡ 0) → (t : Task) → f (decided p reply t) ≤ f t
decided_no_higher p reply f none t =
    elim (decided_or p reply t) [
      | inl calm ↦ (let z = none (decided p reply t) calm in omega (arith, z))
      | inr same ↦ (let z = ap f same in omega (arith, z))
    ]

-- nobody is in the way, and it is no free worker's look
abbrev pub is_look : Action → Bool
is_look Look = true
is_look _ = false

pub record Plain (p : PlanParts) (s : State) (w : ℕ) (old : Task) (a : Action) (t : State) : Type 0 where
  pub acts : (is_look a && is_free old) ≡ false
  pub clear : IsClear p s old
  pub new : Seat
  pub seats : t.seats ≡ set s.seats w new
  pub ahead : is_midway new.task ≡ false

pub record Weighs (p : PlanParts) (s : State) (w : ℕ) (seat : Seat) (old : Task) (a : Action) (t : State) : Type 0 where
  pub node : ℕ
  pub place : ℕ
  pub task : old ≡ Opens node (Locking place)
  pub action : a ≡ Weigh
  pub is : t ≡ goes s w seat (Opens node (weighed p node place (lock_at s (key_at p node place))))

-- the word has changed since it was weighed
pub record Misses (p : PlanParts) (s : State) (w : ℕ) (seat : Seat) (old : Task) (a : Action) (t : State) : Type 0 where
  pub node : ℕ
  pub place : ℕ
  pub seen : LockWord
  pub task : old ≡ Opens node (Weighed place seen)
  pub action : a ≡ Take
  pub word : LockWord
  pub found : slice_get s.locks (key_at p node place) ≡ Some word
  pub changed : same_word word seen ≡ false
  pub is : t ≡ goes s w seat (Opens node (Locking place))

-- a key is given back after a busy weigh
pub record Backs (p : PlanParts) (s : State) (w : ℕ) (seat : Seat) (old : Task) (t : State) : Type 0 where
  pub node : ℕ
  pub place : ℕ
  pub task : old ≡ Opens node (Backing (suc place))
  pub word : LockWord
  pub is : t ≡ puts_word s w seat (Opens node (Backing place)) (key_at p node place) (given_back (mode_at p node place) word)

pub record GivesUp (p : PlanParts) (s : State) (w : ℕ) (seat : Seat) (old : Task) (t : State) : Type 0 where
  pub node : ℕ
  pub task : old ≡ Opens node (Backing zero)
  pub is : t ≡ given_up p s w seat node

-- a step with this action, of the worker whose seat has the task `old`
pub data Kind (p : PlanParts) (s : State) (w : ℕ) (seat : Seat) (old : Task) (a : Action) (t : State) : Type 0 where
  AsFree : a ≡ Look → old ≡ Free → t ≡ s → Kind p s w seat old a t
  AsPlain : Plain p s w old a t → Kind p s w seat old a t
  AsWeigh : Weighs p s w seat old a t → Kind p s w seat old a t
  AsMiss : Misses p s w seat old a t → Kind p s w seat old a t
  AsBack : Backs p s w seat old t → Kind p s w seat old a t
  AsGivenUp : GivesUp p s w seat old t → Kind p s w seat old a t

abbrev pub KindOf : PlanParts → State → ℕ → Seat → Task → Action → Option State → Type 0
KindOf p s w seat old a None = Unit {0}
KindOf p s w seat old a (Some t) = Kind p s w seat old a t

free_clear : (p : PlanParts) (s : State) (t : Task) → is_free t ≡ true → IsClear p s t
free_clear p s Free q = tt
free_clear p s (Opens n d) q = absurd (false≢true q)
free_clear p s (Closes n d) q = absurd (false≢true q)

-- Tasks that are not between a look and what comes of it.
module _ (p : PlanParts) (n : ℕ) where
  lock_ahead : (i : ℕ) → is_midway (Opens n (lock_from p n i)) ≡ false
  lock_ahead i = by_cond (λ d. is_midway (Opens n d) ≡ false) (nat_lt i (keys_count p n)) (Locking i) (Beginning false) (λ _. refl) (λ _. refl)

  begins_ahead : (skip : Bool) → is_midway (Opens n (begins p n skip)) ≡ false
  begins_ahead skip = by_cond (λ d. is_midway (Opens n d) ≡ false) skip (Beginning true) (lock_from p n 0) (λ _. refl) (λ _. lock_ahead 0)

  claims_ahead : is_midway (Opens n (claims p n)) ≡ false
  claims_ahead = by_cond (λ d. is_midway (Opens n d) ≡ false) (notices p n) Noticing (begins p n (is_disabled p.tree n)) (λ _. refl) (λ _. begins_ahead (is_disabled p.tree n))

  admit_ahead : (found : Option ℕ) → is_midway (Opens n (admit_next found)) ≡ false
  admit_ahead None = refl
  admit_ahead (Some c) = refl

  ends_ahead : (result : Status) (outstanding : ℕ) → is_midway (ends_or_free p n result outstanding) ≡ false
  ends_ahead result outstanding = by_cond (λ t. is_midway t ≡ false) (outstanding == 1) (Closes n (ending p n result)) Free (λ _. refl) (λ _. refl)

  start_ahead : (seat : Seat) → is_midway (after_start p seat n).task ≡ false
  start_ahead seat =
      by_cond (λ (x : Seat). is_midway x.task ≡ false) (pulls_job p n) (record { task = Free; hand = Some (record { factory = n; registered = 0; waiting = None }) }) (with_task seat (Opens n Awaiting)) (λ _. refl) (λ _. refl)

settle_ahead : (p : PlanParts) (n : ℕ) → is_midway (after_settle p n) ≡ false
settle_ahead p zero = refl
settle_ahead p (suc n) = refl

module _ (p : PlanParts) (s : State) (w : ℕ) (seat : Seat) (reply : Reply) where
  plainly : (old : Task) (a : Action) (t : State) (new : Seat) → (is_look a && is_free old) ≡ false → IsClear p s old → t.seats ≡ set s.seats w new → is_midway new.task ≡ false → Kind p s w seat old a t
  plainly old a t new acts clear seats ahead = AsPlain (record { acts = acts; clear = clear; new = new; seats = seats; ahead = ahead })

  if_kind : (old : Task) (a : Action) (b : Bool) (x y : Option State) → (b ≡ true → KindOf p s w seat old a x) → (b ≡ false → KindOf p s w seat old a y) → KindOf p s w seat old a (cond b x y)
  if_kind old a b x y = by_cond (KindOf p s w seat old a) b x y

  claim_kind : (a : Action) (b : Bool) (n : ℕ) → is_look a ≡ false → KindOf p s w seat seat.task a (cond (is_free seat.task && b) (Some (claimed p s w seat n)) None)
  claim_kind a b n acts =
      if_kind seat.task a (is_free seat.task && b) (Some (claimed p s w seat n)) None
      (λ q. plainly seat.task a (claimed p s w seat n) (with_task seat (Opens n (claims p n))) (ap (λ (x : Bool). x && is_free seat.task) acts) (free_clear p s seat.task (and_parts (is_free seat.task) b q).0) refl (claims_ahead p n)) (λ _. tt)

  notice_kind : (t : Task) → KindOf p s w seat t Notice (notice_row p s w seat t)
  notice_kind (Opens n Noticing) = plainly _ Notice _ (with_task seat (Opens n (begins p n (is_cancelled p s)))) refl tt refl (begins_ahead p n (is_cancelled p s))
  notice_kind _ = tt

  raise_kind : (t : Task) → KindOf p s w seat t Raise (raise_row p s w seat t)
  raise_kind (Closes n Raising) = plainly _ Raise _ (with_task seat (Closes n (giving (keys_count p n)))) refl tt refl refl
  raise_kind _ = tt

  weigh_kind : (t : Task) → KindOf p s w seat t Weigh (weigh_row p s w seat t)
  weigh_kind (Opens n (Locking i)) = AsWeigh (record { node = n; place = i; task = refl; action = refl; is = refl })
  weigh_kind _ = tt

  take_found_kind : (n i : ℕ) (v : LockWord) (found : Option LockWord) → slice_get s.locks (key_at p n i) ≡ found → KindOf p s w seat (Opens n (Weighed i v)) Take (take_found p s w seat n i v found)
  take_found_kind n i v None at = tt
  take_found_kind n i v (Some word) at =
      if_kind (Opens n (Weighed i v)) Take (same_word word v) (Some (puts_word s w seat (Opens n (lock_from p n (suc i))) (key_at p n i) (taken (mode_at p n i) word))) (Some (goes s w seat (Opens n (Locking i))))
      (λ q. plainly (Opens n (Weighed i v)) Take _ (with_task seat (Opens n (lock_from p n (suc i)))) refl (at ∙ ap Some (same_is word v q)) refl (lock_ahead p n (suc i)))
      (λ q. AsMiss (record { node = n; place = i; seen = v; task = refl; action = refl; word = word; found = at; changed = q; is = refl }))

  take_kind : (t : Task) → KindOf p s w seat t Take (take_row p s w seat t)
  take_kind (Opens n (Weighed i v)) = take_found_kind n i v (slice_get s.locks (key_at p n i)) refl
  take_kind _ = tt

  back_kind : (n i : ℕ) (found : Option LockWord) → KindOf p s w seat (Opens n (Backing (suc i))) Give (gives_key p s w seat (Opens n (Backing i)) n i found)
  back_kind n i None = tt
  back_kind n i (Some word) = AsBack (record { node = n; place = i; task = refl; word = word; is = refl })

  gives_kind : (n i : ℕ) (found : Option LockWord) → KindOf p s w seat (Closes n (Giving (suc i))) Give (gives_key p s w seat (Closes n (giving i)) n i found)
  gives_kind n i None = tt
  gives_kind n i (Some word) = plainly _ Give _ (with_task seat (Closes n (giving i))) refl tt refl refl

  give_kind : (t : Task) → KindOf p s w seat t Give (give_row p s w seat t)
  give_kind (Opens n (Backing (suc i))) = back_kind n i (slice_get s.locks (key_at p n i))
  give_kind (Closes n (Giving (suc i))) = gives_kind n i (slice_get s.locks (key_at p n i))
  give_kind _ = tt

  give_up_kind : (t : Task) → KindOf p s w seat t GiveUp (give_up_row p s w seat t)
  give_up_kind (Opens n (Backing zero)) = AsGivenUp (record { node = n; task = refl; is = refl })
  give_up_kind _ = tt

  draw_kind : (t : Task) → KindOf p s w seat t Draw (draw_row s w seat t)
  draw_kind (Opens n Registering) = plainly _ Draw _ (record { task = Opens n (RegisteredAt (length s.published)); hand = one_more seat.hand }) refl tt refl refl
  draw_kind (Opens n (Beginning true)) = plainly _ Draw _ (with_task seat (Closes n (SkippedAt (length s.published)))) refl tt refl refl
  draw_kind (Opens n (Beginning false)) = plainly _ Draw _ (with_task seat (Opens n (StartedAt (length s.published)))) refl tt refl refl
  draw_kind (Closes n (Ending status)) = plainly _ Draw _ (with_task seat (Closes n (FinishedAt (length s.published) status))) refl tt refl refl
  draw_kind _ = tt

  show_kind : (t : Task) → KindOf p s w seat t Show (show_row p s w seat t)
  show_kind (Opens n (RegisteredAt i)) = plainly _ Show _ (with_task seat (Opens n Offering)) refl tt refl refl
  show_kind (Opens n (StartedAt i)) = plainly _ Show _ (after_start p seat n) refl tt refl (start_ahead p n seat)
  show_kind (Closes n (SkippedAt i)) = plainly _ Show _ (with_task seat (Closes n Settling)) refl tt refl refl
  show_kind (Closes n (FinishedAt i status)) = plainly _ Show _ (with_task seat (Closes n (after_finish p n status))) refl tt refl refl
  show_kind _ = tt

  admit_kind : (t : Task) → KindOf p s w seat t Admit (admit_row p s w seat t)
  admit_kind (Opens n (Admitting c)) = plainly _ Admit _ (with_task seat (Opens n (admit_next (first_from (in_batch p n) (suc c) (size p.tree))))) refl tt refl (admit_ahead p n (first_from (in_batch p n) (suc c) (size p.tree)))
  admit_kind (Opens c Offering) = plainly _ Admit _ (record { task = Free; hand = waits_for p c seat.hand }) refl tt refl refl
  admit_kind (Closes n (Passing m o)) = plainly _ Admit _ (with_task seat (Closes n CountingOff)) refl tt refl refl
  admit_kind _ = tt

  added_kind : (f : ℕ) (found : Option ℕ) → KindOf p s w seat Free AddChild (child_added s w seat f found)
  added_kind f None = tt
  added_kind f (Some c) = plainly _ AddChild _ (with_task seat (Opens c Registering)) refl tt refl refl

  add_by_kind : (f k : ℕ) (waiting : Option ℕ) → KindOf p s w seat Free AddChild (add_by_hand p s w seat reply f k waiting)
  add_by_kind f k None = if_kind Free AddChild (nat_lt k reply.pulls) (child_added s w seat f (next_spare p f k)) None (λ _. added_kind f (next_spare p f k)) (λ _. tt)
  add_by_kind f k (Some c) = tt

  add_hand_kind : (hand : Option Hand) → KindOf p s w seat Free AddChild (add_child_hand p s w seat reply hand)
  add_hand_kind None = tt
  add_hand_kind (Some hand) = add_by_kind hand.factory hand.registered hand.waiting

  add_kind : (t : Task) → KindOf p s w seat t AddChild (add_child_row p s w seat reply t)
  add_kind Free = add_hand_kind seat.hand
  add_kind _ = tt

  done_by_kind : (f k : ℕ) (waiting : Option ℕ) → KindOf p s w seat Free Done (done_by_hand p s w reply f k waiting)
  done_by_kind f k None =
      if_kind Free Done (is_pulled p f k reply) (Some (guard_given p s w None f (pulled_result k reply))) None
      (λ _. plainly _ Done _ (record { task = ends_or_free p f (pulled_result k reply) (counter_at s f); hand = None }) refl tt refl (ends_ahead p f (pulled_result k reply) (counter_at s f))) (λ _. tt)
  done_by_kind f k (Some c) = tt

  done_hand_kind : (hand : Option Hand) → KindOf p s w seat Free Done (done_hand p s w reply hand)
  done_hand_kind None = tt
  done_hand_kind (Some hand) = done_by_kind hand.factory hand.registered hand.waiting

  done_kind : (t : Task) → KindOf p s w seat t Done (done_row p s w seat reply t)
  done_kind (Opens n Guarding) = plainly _ Done _ (record { task = ends_or_free p n Successful (counter_at s n); hand = seat.hand }) refl tt refl (ends_ahead p n Successful (counter_at s n))
  done_kind (Closes c CountingOff) =
      let a = parent_of p.tree c in
      plainly _ Done _ (with_task seat (ends_or_free p a (result_at s a) (counter_at s a))) refl tt refl (ends_ahead p a (result_at s a) (counter_at s a))
  done_kind Free = done_hand_kind seat.hand
  done_kind _ = tt

  settle_kind : (t : Task) → KindOf p s w seat t Settle (settle_row p s w seat t)
  settle_kind (Closes n Settling) = plainly _ Settle _ (record { task = after_settle p n; hand = waits_no_more n seat.hand }) refl tt refl (settle_ahead p n)
  settle_kind _ = tt

  look_found_kind : (n m : ℕ) (status : NodeStatus) → KindOf p s w seat (Closes n (Looking m)) Look (look_found s w seat n m status)
  look_found_kind n m (Claimed o) = plainly _ Look _ (with_task seat (Closes n (Passing m o))) refl tt refl refl
  look_found_kind n m Hidden = tt
  look_found_kind n m (Ready o) = tt
  look_found_kind n m Settled = tt

  look_kind : (t : Task) → KindOf p s w seat t Look (look_row p s w seat t)
  look_kind (Closes n (Looking m)) = look_found_kind n m (status_at s (parent_of p.tree n))
  look_kind Free = AsFree refl refl refl
  look_kind _ = tt

  -- Each step is of one of the kinds.
  pub row_kind : (a : Action) → KindOf p s w seat seat.task a (row p s w seat reply a)
  row_kind (Claim n) = claim_kind (Claim n) (is_empty seat.hand && is_ready_for None (status_at s n)) n refl
  row_kind (Own n) = claim_kind (Own n) (is_of_hand p seat.hand n && is_ready_for (Some w) (status_at s n)) n refl
  row_kind Notice = notice_kind seat.task
  row_kind Weigh = weigh_kind seat.task
  row_kind Take = take_kind seat.task
  row_kind Give = give_kind seat.task
  row_kind GiveUp = give_up_kind seat.task
  row_kind Draw = draw_kind seat.task
  row_kind Show = show_kind seat.task
  row_kind Admit = admit_kind seat.task
  row_kind AddChild = add_kind seat.task
  row_kind Done = done_kind seat.task
  row_kind Settle = settle_kind seat.task
  row_kind Look = look_kind seat.task
  row_kind Raise = raise_kind seat.task
