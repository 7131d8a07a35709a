-- The fixed schedule goes on by each row that changes no node's word but the keys, and leaves the task at its node.
use Rattle.std.proofs.Common.{◌≡◌, ℕ, zero, suc, ◌<◌, ◌≤◌, Bool, true, false, ◌&&◌, nat_lt, List, [], ◌∷◌, length, set, Option, Some, None, slice_get, inl, inr, refl, sym, ap, ◌∙◌, subst, arith, length-set}
use Rattle.std.proofs.lemmas.Option.{slice_get-get_or}
use Rattle.std.proofs.lemmas.Bool.{false≢true, both_ways, eq-eqb, cond-true}
use Rattle.descriptor.specs.Nodes.{size, is_disabled}
use Rattle.plan_events.specs.declared.outcome.Reply.{Reply}
use Rattle.plan_events.specs.declared.status.Status.{Status}
use Rattle.plan_events.specs.declared.event.EventKind.TheVariants.{Started, Finished, Skipped, Registered}
use Rattle.resource_locks.specs.Plans.{PlanParts}
use Rattle.event_history.specs.Places.{is_failed_or}
use Rattle.scheduling.specs.declared.status.NodeStatus.TheVariants.{Claimed}
use Rattle.scheduling.specs.declared.lock_word.LockWord.{LockWord}
use Rattle.scheduling.specs.declared.lock_word.LockWord.TheVariants.{Readers, Written}
use Rattle.scheduling.specs.declared.task.Opening.{Opening}
use Rattle.scheduling.specs.declared.task.Opening.TheVariants.{Registering, RegisteredAt, Offering, Noticing, Locking, Weighed, Backing, Beginning, StartedAt}
use Rattle.scheduling.specs.declared.task.Closing.{Closing}
use Rattle.scheduling.specs.declared.task.Closing.TheVariants.{Ending, FinishedAt, SkippedAt, Raising, Giving, Settling, Looking, Passing}
use Rattle.scheduling.specs.declared.task.Task.{Task}
use Rattle.scheduling.specs.declared.task.Task.TheVariants.{Opens, Closes}
use Rattle.scheduling.specs.declared.seat.Hand.{Hand}
use Rattle.scheduling.specs.declared.seat.Seat.{Seat}
use Rattle.scheduling.specs.State.{State, status_at, lock_at}
use Rattle.scheduling.specs.Choices.{in_batch, key_at, mode_at, keys_count, admits_at, taken, given_back, same_word, lock_from, begins, notices, claims, giving, after_finish, event_of}
use Rattle.scheduling.specs.declared.step.Action.{Action}
use Rattle.scheduling.specs.declared.step.Action.TheVariants.{Notice, Weigh, Take, Give, Draw, Show, Look, Raise}
use Rattle.scheduling.specs.Rows.{row, with_task, goes, goes_to, notice_row, weighed, weigh_row, take_found, take_row, puts_word, gives_key, give_row, raised, raise_row, drawn, one_more, draw_row, shows, show_row, look_found, look_row, is_cancelled}
use Rattle.scheduling.specs.Inside.Going.{is_in_hand, OpeningTo, ClosingPasses, KeysGo, is_registering, HandGo, Goes}
use Rattle.scheduling.proofs.RowsOne.{by_cond}
use Rattle.scheduling.proofs.GoingMoves.{turn_goes, turn_same}

-- the step that the only worker takes: there is one, and what the schedule keeps goes on
pub record IsStep (p : PlanParts) (replies : ℕ → List Reply) (s : State) (seat : Seat) (reply : Reply) (a : Action) : Type 0 where
  pub next : State
  pub is : row p s 0 seat reply a ≡ Some next
  pub seat2 : Seat
  pub one2 : next.seats ≡ seat2 ∷ []
  pub goes2 : Goes p replies next.statuses next.counters next.locks seat2.task seat2.hand

-- what a worker does about a node that it has just claimed, while it takes its keys
pub record IsCalm (p : PlanParts) (n : ℕ) (d : Opening) : Type 0 where
  pub quiet : is_registering (Opens n d) ≡ false
  pub to : (c : ℕ) → OpeningTo d c
  pub keys : (locks : List LockWord) → KeysGo p locks (Opens n d)

module _ (p : PlanParts) (n : ℕ) where
  pub lock_calm : (i : ℕ) → IsCalm p n (lock_from p n i)
  lock_calm i = by_cond (IsCalm p n) (nat_lt i (keys_count p n)) (Locking i) (Beginning false) (λ _. record { quiet = refl; to = λ c. tt; keys = λ locks. tt }) (λ _. record { quiet = refl; to = λ c. tt; keys = λ locks. tt })

  pub begins_calm : (skip : Bool) → IsCalm p n (begins p n skip)
  begins_calm skip = by_cond (IsCalm p n) skip (Beginning true) (lock_from p n 0) (λ _. record { quiet = refl; to = λ c. tt; keys = λ locks. tt }) (λ _. lock_calm 0)

  pub claims_calm : IsCalm p n (claims p n)
  claims_calm = by_cond (IsCalm p n) (notices p n) Noticing (begins p n (is_disabled p.tree n)) (λ _. record { quiet = refl; to = λ c. tt; keys = λ locks. tt }) (λ _. begins_calm (is_disabled p.tree n))

  giving_keys : (locks : List LockWord) (i : ℕ) → i ≤ keys_count p n → KeysGo p locks (Closes n (giving i))
  giving_keys locks zero le = tt
  giving_keys locks (suc i) le = (omega arith, le)

pub word_is : (v : LockWord) → same_word v v ≡ true
word_is (Readers n) = eq-eqb n n refl
word_is Written = refl

module _ (p : PlanParts) (replies : ℕ → List Reply) (s : State) (seat : Seat) (one : s.seats ≡ seat ∷ []) (kept : Goes p replies s.statuses s.counters s.locks seat.task seat.hand) (reply : Reply) where
  -- where the task is known
  pub at_task : (t : Task) → seat.task ≡ t → Goes p replies s.statuses s.counters s.locks t seat.hand
  at_task t e = subst (λ t. Goes p replies s.statuses s.counters s.locks t seat.hand) e kept

  pub seats_go : (seat2 : Seat) → goes_to s 0 seat2 ≡ seat2 ∷ []
  seats_go seat2 = ap (λ l. set l 0 seat2) one

  pub opening_turn : (x : ℕ) (d d2 : Opening) (locks : List LockWord) → seat.task ≡ Opens x d → is_registering (Opens x d2) ≡ false → ((c : ℕ) → c < size p.tree → in_batch p x c ≡ true → OpeningTo d c → OpeningTo d2 c) → KeysGo p locks (Opens x d2) → length locks ≡ length s.locks
      → Goes p replies s.statuses s.counters locks (Opens x d2) seat.hand
  opening_turn x d d2 locks e quiet still keys len =
      turn_same p replies s.statuses s.counters s.locks locks (Opens x d) (Opens x d2) seat.hand (at_task (Opens x d) e) (λ n. refl) refl quiet (λ a c w lt b q z. (z.0, still c lt (subst (λ k. in_batch p k c ≡ true) (sym z.0) b) z.1)) (λ a z. z) keys len

  pub closing_turn : (x : ℕ) (d d2 : Closing) (locks : List LockWord) → seat.task ≡ Closes x d → (ClosingPasses d → ClosingPasses d2) → KeysGo p locks (Closes x d2) → length locks ≡ length s.locks → Goes p replies s.statuses s.counters locks (Closes x d2) seat.hand
  closing_turn x d d2 locks e passes keys len =
      turn_same p replies s.statuses s.counters s.locks locks (Closes x d) (Closes x d2) seat.hand (at_task (Closes x d) e) (λ n. refl) refl refl (λ a c w lt b q z. z) (λ a z. (z.0, passes z.1)) keys len

  -- from what opens a node to what closes it
  pub ending_turn : (x : ℕ) (d : Opening) (d2 : Closing) → seat.task ≡ Opens x d → KeysGo p s.locks (Closes x d2) → Goes p replies s.statuses s.counters s.locks (Closes x d2) seat.hand
  ending_turn x d d2 e keys = turn_same p replies s.statuses s.counters s.locks s.locks (Opens x d) (Closes x d2) seat.hand (at_task (Opens x d) e) (λ n. refl) refl refl (λ a c w lt b q z. z.0) (λ a z. absurd z) keys refl

  pub notice_goes : (x : ℕ) → seat.task ≡ Opens x Noticing → IsStep p replies s seat reply Notice
  notice_goes x e =
      let calm = begins_calm p x (is_cancelled p s) in
      record {
        next = goes s 0 seat (Opens x (begins p x (is_cancelled p s)));
        is = ap (notice_row p s 0 seat) e;
        seat2 = with_task seat (Opens x (begins p x (is_cancelled p s)));
        one2 = seats_go (with_task seat (Opens x (begins p x (is_cancelled p s))));
        goes2 = opening_turn x Noticing (begins p x (is_cancelled p s)) s.locks e calm.quiet (λ c lt b z. calm.to c) (calm.keys s.locks) refl;
      }

  pub weigh_goes : (x i : ℕ) → seat.task ≡ Opens x (Locking i) → admits_at p x i (lock_at s (key_at p x i)) ≡ true → IsStep p replies s seat reply Weigh
  weigh_goes x i e free = record {
    next = goes s 0 seat (Opens x (weighed p x i (lock_at s (key_at p x i))));
    is = ap (weigh_row p s 0 seat) e;
    seat2 = with_task seat (Opens x (weighed p x i (lock_at s (key_at p x i))));
    one2 = seats_go (with_task seat (Opens x (weighed p x i (lock_at s (key_at p x i)))));
    goes2 = by_cond (λ d. Goes p replies s.statuses s.counters s.locks (Opens x d) seat.hand) (admits_at p x i (lock_at s (key_at p x i))) (Weighed i (lock_at s (key_at p x i))) (Backing i)
        (λ _. opening_turn x (Locking i) (Weighed i (lock_at s (key_at p x i))) s.locks e refl (λ c lt b z. tt) refl refl)
        (λ busy. absurd (both_ways (admits_at p x i (lock_at s (key_at p x i))) busy free));
  }

  pub take_goes : (x i : ℕ) (v : LockWord) → seat.task ≡ Opens x (Weighed i v) → key_at p x i < length p.keys → IsStep p replies s seat reply Take
  take_goes x i v e inside =
      let old = at_task (Opens x (Weighed i v)) e in
      let len : length s.locks ≡ length p.keys = old.keys_len in
      let found : slice_get s.locks (key_at p x i) ≡ Some v = slice_get-get_or s.locks (key_at p x i) (Readers 0) (omega (arith, len, inside)) ∙ ap Some old.keys in
      let calm = lock_calm p x (suc i) in
      record {
        next = puts_word s 0 seat (Opens x (lock_from p x (suc i))) (key_at p x i) (taken (mode_at p x i) v);
        is = ap (take_row p s 0 seat) e ∙ ap (take_found p s 0 seat x i v) found
            ∙ cond-true (same_word v v) (Some (puts_word s 0 seat (Opens x (lock_from p x (suc i))) (key_at p x i) (taken (mode_at p x i) v))) (Some (goes s 0 seat (Opens x (Locking i)))) (word_is v);
        seat2 = with_task seat (Opens x (lock_from p x (suc i)));
        one2 = seats_go (with_task seat (Opens x (lock_from p x (suc i))));
        goes2 = opening_turn x (Weighed i v) (lock_from p x (suc i)) (set s.locks (key_at p x i) (taken (mode_at p x i) v)) e calm.quiet (λ c lt b z. calm.to c) (calm.keys (set s.locks (key_at p x i) (taken (mode_at p x i) v))) (length-set s.locks (key_at p x i) (taken (mode_at p x i) v));
      }

  pub give_goes : (x i : ℕ) → seat.task ≡ Closes x (Giving i) → ((j : ℕ) → j < keys_count p x → key_at p x j < length p.keys) → IsStep p replies s seat reply Give
  give_goes x zero e inside = (let k = (at_task (Closes x (Giving 0)) e).keys in absurd (let z = k.0 in omega (arith, z)))
  give_goes x (suc i) e inside =
      let old = at_task (Closes x (Giving (suc i))) e in
      let len : length s.locks ≡ length p.keys = old.keys_len in
      let le : suc i ≤ keys_count p x = old.keys.1 in
      let lt = inside i (omega (arith, le)) in
      let found = slice_get-get_or s.locks (key_at p x i) (Readers 0) (omega (arith, len, lt)) in
      record {
        next = puts_word s 0 seat (Closes x (giving i)) (key_at p x i) (given_back (mode_at p x i) (lock_at s (key_at p x i)));
        is = ap (give_row p s 0 seat) e ∙ ap (gives_key p s 0 seat (Closes x (giving i)) x i) found;
        seat2 = with_task seat (Closes x (giving i));
        one2 = seats_go (with_task seat (Closes x (giving i)));
        goes2 = closing_turn x (Giving (suc i)) (giving i) (set s.locks (key_at p x i) (given_back (mode_at p x i) (lock_at s (key_at p x i)))) e (λ z. absurd z) (giving_keys p x (set s.locks (key_at p x i) (given_back (mode_at p x i) (lock_at s (key_at p x i)))) i (omega (arith, le)))
            (length-set s.locks (key_at p x i) (given_back (mode_at p x i) (lock_at s (key_at p x i))));
      }

  pub raise_goes : (x : ℕ) → seat.task ≡ Closes x Raising → IsStep p replies s seat reply Raise
  raise_goes x e = record {
    next = raised p s 0 seat x;
    is = ap (raise_row p s 0 seat) e;
    seat2 = with_task seat (Closes x (giving (keys_count p x)));
    one2 = seats_go (with_task seat (Closes x (giving (keys_count p x))));
    goes2 = closing_turn x Raising (giving (keys_count p x)) s.locks e (λ z. absurd z) (giving_keys p x s.locks (keys_count p x) (omega arith)) refl;
  }

  -- draw
  pub draw_begins_goes : (x : ℕ) (skip : Bool) → seat.task ≡ Opens x (Beginning skip) → IsStep p replies s seat reply Draw
  draw_begins_goes x true e = record {
    next = drawn s 0 (event_of Skipped x None 0) (with_task seat (Closes x (SkippedAt (length s.published))));
    is = ap (draw_row s 0 seat) e;
    seat2 = with_task seat (Closes x (SkippedAt (length s.published)));
    one2 = seats_go (with_task seat (Closes x (SkippedAt (length s.published))));
    goes2 = ending_turn x (Beginning true) (SkippedAt (length s.published)) e tt;
  }
  draw_begins_goes x false e = record {
    next = drawn s 0 (event_of Started x None 0) (with_task seat (Opens x (StartedAt (length s.published))));
    is = ap (draw_row s 0 seat) e;
    seat2 = with_task seat (Opens x (StartedAt (length s.published)));
    one2 = seats_go (with_task seat (Opens x (StartedAt (length s.published))));
    goes2 = opening_turn x (Beginning false) (StartedAt (length s.published)) s.locks e refl (λ c lt b z. tt) tt refl;
  }

  pub draw_ends_goes : (x : ℕ) (status : Status) → seat.task ≡ Closes x (Ending status) → IsStep p replies s seat reply Draw
  draw_ends_goes x status e = record {
    next = drawn s 0 (event_of Finished x (Some status) 0) (with_task seat (Closes x (FinishedAt (length s.published) status)));
    is = ap (draw_row s 0 seat) e;
    seat2 = with_task seat (Closes x (FinishedAt (length s.published) status));
    one2 = seats_go (with_task seat (Closes x (FinishedAt (length s.published) status)));
    goes2 = closing_turn x (Ending status) (FinishedAt (length s.published) status) s.locks e (λ z. absurd z) tt refl;
  }

  pub draw_registers_goes : (x : ℕ) → seat.task ≡ Opens x Registering → IsStep p replies s seat reply Draw
  draw_registers_goes x e =
      let old = at_task (Opens x Registering) e in
      record {
        next = drawn s 0 (event_of Registered x None 0) (record { task = Opens x (RegisteredAt (length s.published)); hand = one_more seat.hand });
        is = ap (draw_row s 0 seat) e;
        seat2 = record { task = Opens x (RegisteredAt (length s.published)); hand = one_more seat.hand };
        one2 = seats_go (record { task = Opens x (RegisteredAt (length s.published)); hand = one_more seat.hand });
        goes2 = turn_goes p replies s.statuses s.counters s.locks s.locks (Opens x Registering) (Opens x (RegisteredAt (length s.published))) seat.hand (one_more seat.hand) old (λ n. refl) (same_hand seat.hand) (λ a c w lt b q z. z) (λ a z. z) tt refl (more seat.hand old.in_hand);
      }
    where
      same_hand : (hand : Option Hand) (n : ℕ) → is_in_hand (one_more hand) n ≡ is_in_hand hand n
      same_hand None n = refl
      same_hand (Some hand) n = refl

      more : (hand : Option Hand) → HandGo p replies s.statuses (Opens x Registering) hand → HandGo p replies s.statuses (Opens x (RegisteredAt (length s.published))) (one_more hand)
      more None old = tt
      more (Some hand) old = record {
        about = old.about;
        waits = λ c q. (let w = old.waits c q in (w.0, w.1, elim w.2 [ inl z ↦ absurd (false≢true z.1) | inr z ↦ inr z ]));
        pulls = λ job i r body is. (let lt = old.more refl job i r body is in omega (arith, lt));
        more = λ q. absurd (false≢true q);
      }

  -- show
  pub show_registered_goes : (x i : ℕ) → seat.task ≡ Opens x (RegisteredAt i) → IsStep p replies s seat reply Show
  show_registered_goes x i e = record {
    next = shows s 0 (with_task seat (Opens x Offering)) i;
    is = ap (show_row p s 0 seat) e;
    seat2 = with_task seat (Opens x Offering);
    one2 = seats_go (with_task seat (Opens x Offering));
    goes2 = opening_turn x (RegisteredAt i) Offering s.locks e refl (λ c lt b z. tt) tt refl;
  }

  pub show_skipped_goes : (x i : ℕ) → seat.task ≡ Closes x (SkippedAt i) → IsStep p replies s seat reply Show
  show_skipped_goes x i e = record {
    next = shows s 0 (with_task seat (Closes x Settling)) i;
    is = ap (show_row p s 0 seat) e;
    seat2 = with_task seat (Closes x Settling);
    one2 = seats_go (with_task seat (Closes x Settling));
    goes2 = closing_turn x (SkippedAt i) Settling s.locks e (λ z. absurd z) tt refl;
  }

  pub show_finished_goes : (x i : ℕ) (status : Status) → seat.task ≡ Closes x (FinishedAt i status) → IsStep p replies s seat reply Show
  show_finished_goes x i status e = record {
    next = shows s 0 (with_task seat (Closes x (after_finish p x status))) i;
    is = ap (show_row p s 0 seat) e;
    seat2 = with_task seat (Closes x (after_finish p x status));
    one2 = seats_go (with_task seat (Closes x (after_finish p x status)));
    goes2 = by_cond (λ d. Goes p replies s.statuses s.counters s.locks (Closes x d) seat.hand) (p.fail_fast && is_failed_or (Some status)) Raising (giving (keys_count p x)) (λ _. closing_turn x (FinishedAt i status) Raising s.locks e (λ z. absurd z) tt refl)
        (λ _. closing_turn x (FinishedAt i status) (giving (keys_count p x)) s.locks e (λ z. absurd z) (giving_keys p x s.locks (keys_count p x) (omega arith)) refl);
  }

  -- look: who claimed the parent takes the next sibling
  pub look_goes : (x m o : ℕ) (parent : ℕ) → seat.task ≡ Closes x (Looking m) → look_row p s 0 seat (Closes x (Looking m)) ≡ look_found s 0 seat x m (status_at s parent) → status_at s parent ≡ Claimed o → IsStep p replies s seat reply Look
  look_goes x m o parent e is claimed = record {
    next = goes s 0 seat (Closes x (Passing m o));
    is = ap (look_row p s 0 seat) e ∙ is ∙ ap (look_found s 0 seat x m) claimed;
    seat2 = with_task seat (Closes x (Passing m o));
    one2 = seats_go (with_task seat (Closes x (Passing m o)));
    goes2 = closing_turn x (Looking m) (Passing m o) s.locks e (λ z. z) tt refl;
  }
