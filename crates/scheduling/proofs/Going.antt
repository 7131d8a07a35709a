-- The fixed schedule of one worker is never stuck: it keeps going from the opening, and ends with all given and the plan finished.
use Rattle.std.specs.Prelude.{option_and_then}
use Rattle.std.proofs.Common.{◌≡◌, ◌≢◌, ℕ, ◌<◌, Bool, true, false, ◌||◌, not, List, [], ◌∷◌, ◌++◌, length, set, Option, Some, None, slice_get, slice_index_or, ◌⊎◌, inl, inr, refl, sym, ap, ◌∙◌, subst, arith}
use Rattle.std.proofs.lemmas.Option.{same_Some, none-some, slice_get-get_or}
use Rattle.std.proofs.lemmas.Bool.{cases_lt, false≢true, both_ways, or_left}
use Rattle.std.proofs.lemmas.List.{length-replicate}
use Rattle.descriptor.specs.Nodes.{size, body_of}
use Rattle.plan_events.specs.declared.event.Event.{Event}
use Rattle.plan_events.specs.declared.event.EventKind.TheVariants.{Finished}
use Rattle.plan_events.specs.declared.outcome.Reply.{Reply}
use Rattle.plan_events.specs.Statuses.{is_successful}
use Rattle.resource_locks.specs.Held.{table}
use Rattle.resource_locks.specs.Plans.{PlanParts, IsPlan}
use Rattle.event_history.specs.Expected.{HasOneReply}
use Rattle.event_history.specs.History.{IsComplete}
use Rattle.event_history.specs.Places.{StandsAt}
use Rattle.event_history.specs.Plans.{Leaf, sort_of}
use Rattle.scheduling.specs.declared.status.NodeStatus.TheVariants.{Hidden, Ready, Settled}
use Rattle.scheduling.specs.declared.lock_word.LockWord.{LockWord}
use Rattle.scheduling.specs.declared.lock_word.LockWord.TheVariants.{Readers}
use Rattle.scheduling.specs.declared.task.Opening.TheVariants.{Locking, Weighed, Backing, Awaiting, Admitting, Guarding}
use Rattle.scheduling.specs.declared.task.Closing.TheVariants.{AwaitingAfter, Ending}
use Rattle.scheduling.specs.declared.task.Task.{Task}
use Rattle.scheduling.specs.declared.task.Task.TheVariants.{Free, Opens, Closes}
use Rattle.scheduling.specs.declared.seat.Hand.{Hand}
use Rattle.scheduling.specs.declared.seat.Seat.{Seat}
use Rattle.scheduling.specs.State.{State, status_at, lock_at}
use Rattle.scheduling.specs.Choices.{key_at, mode_at, admits_at, in_batch, first_from, admit_next, admit_from, is_leaf, status_by, decided, awaited, hand_job}
use Rattle.scheduling.specs.declared.step.Action.{Action}
use Rattle.scheduling.specs.Rows.{goes_to, decided_seat, after_seat, after, Works, Dispatches, read_event, read_row}
use Rattle.scheduling.specs.Runs.{first_status, opening}
use Rattle.scheduling.specs.Schedule.{is_open, IsNextBy, IsNext}
use Rattle.scheduling.specs.Inside.Stages.{Stage, OpenedBy}
use Rattle.scheduling.specs.Inside.Invariant.{IsCorePlan, ShapeOk, TaskOk}
use Rattle.scheduling.specs.Inside.Going.{is_begun, word_of, OpeningTo, Goes, IsGoing}
use Rattle.scheduling.proofs.Basics.{first_some, first_none}
use Rattle.scheduling.proofs.RowsOne.{by_cond}
use Rattle.scheduling.proofs.RowsBelow.{ReplyIs, decide_keeps}
use Rattle.scheduling.proofs.Shown.{reseat_keeps}
use Rattle.scheduling.proofs.Steps.{decided_free, after_keeps}
use Rattle.scheduling.proofs.FirstState.{opening_is, opening_root, opening_word}
use Rattle.scheduling.proofs.Placing.{decided_named, step_placed, opening_placed}
use Rattle.scheduling.proofs.GoingBasics.{hidden_ready, hidden_claimed, hidden_settled, ready_claimed, ready_settled, same_ready, seat_ok}
use Rattle.scheduling.proofs.GoingTurns.{IsStep, at_task, opening_turn, closing_turn, ending_turn}
use Rattle.scheduling.proofs.GoingOpen.{some_open}
use Rattle.scheduling.proofs.GoingLocks.{key_free}
use Rattle.scheduling.proofs.GoingSharedKeys.{key_inside}
use Rattle.scheduling.proofs.GoingRows.{is_asking, opening_step, closing_step}
use Rattle.scheduling.proofs.GoingFree.{free_step}
use Rattle.scheduling.proofs.PlanOver.{plan_over}

-- what a reply decides goes on
first_to : (p : PlanParts) (x : ℕ) (found : Option ℕ) → first_from (in_batch p x) 0 (size p.tree) ≡ found → (c : ℕ) → c < size p.tree → in_batch p x c ≡ true → OpeningTo (admit_next found) c
first_to p x None f c lt b = both_ways (in_batch p x c) (first_none (in_batch p x) 0 (size p.tree) f c (omega arith) lt) b
first_to p x (Some m) f c lt b = elim (cases_lt c m) [ inl less ↦ absurd (both_ways (in_batch p x c) ((first_some (in_batch p x) 0 (size p.tree) m f).none_before c (omega arith) less) b) | inr ge ↦ ge ]

-- a task that is decided asks for no reply
pub decided_asks : (p : PlanParts) (r : Reply) (t : Task) → is_asking (decided p r t) ≡ false
decided_asks p r (Opens n Awaiting) =
    by_cond (λ t. is_asking t ≡ false) (is_leaf (sort_of p.tree n) || not (is_successful (status_by (body_of p.tree n) r))) (Closes n (Ending (status_by (body_of p.tree n) r))) (Opens n (admit_from p n 0)) (λ _. refl) (λ _. by_found (first_from (in_batch p n) 0 (size p.tree)))
  where
    by_found : (found : Option ℕ) → is_asking (Opens n (admit_next found)) ≡ false
    by_found None = refl
    by_found (Some c) = refl
decided_asks p r (Closes n AwaitingAfter) = refl
decided_asks p r _ = refl

decide_goes : (p : PlanParts) (replies : ℕ → List Reply) (s : State) (seat : Seat) (one : s.seats ≡ seat ∷ []) → Goes p replies s.statuses s.counters s.locks seat.task seat.hand → (r : Reply) (t : Task) → seat.task ≡ t → Goes p replies s.statuses s.counters s.locks (decided p r t) seat.hand
decide_goes p replies s seat one kept r (Opens x Awaiting) e =
    by_cond (λ t. Goes p replies s.statuses s.counters s.locks t seat.hand) (is_leaf (sort_of p.tree x) || not (is_successful (status_by (body_of p.tree x) r))) (Closes x (Ending (status_by (body_of p.tree x) r))) (Opens x (admit_from p x 0))
    (λ _. ending_turn p replies s seat one kept r x Awaiting (Ending (status_by (body_of p.tree x) r)) e tt)
    (λ on. by_found (first_from (in_batch p x) 0 (size p.tree)) refl (λ leaf. both_ways _ on (or_left (is_leaf (sort_of p.tree x)) _ (ap is_leaf leaf))))
  where
    by_found : (found : Option ℕ) → first_from (in_batch p x) 0 (size p.tree) ≡ found → (sort_of p.tree x ≡ Leaf → ⊥) → Goes p replies s.statuses s.counters s.locks (Opens x (admit_next found)) seat.hand
    by_found None f grown = opening_turn p replies s seat one kept r x Awaiting Guarding s.locks e refl (λ c lt b z. first_to p x None f c lt b) grown refl
    by_found (Some m) f grown = opening_turn p replies s seat one kept r x Awaiting (Admitting m) s.locks e refl (λ c lt b z. first_to p x (Some m) f c lt b) tt refl
decide_goes p replies s seat one kept r (Closes x AwaitingAfter) e = closing_turn p replies s seat one kept r x AwaitingAfter (Ending r.outcome.status) s.locks e (λ z. absurd z) tt refl
decide_goes p replies s seat one kept r t e = at_task p replies s seat one kept r t e

module _ (p : PlanParts) (core : IsCorePlan p) (replies : ℕ → List Reply) where
  module _ (s : State) (g : ℕ → Stage) (i : IsGoing p replies s g) where
    -- the only seat is that of worker 0
    seat_one : (seat : Seat) → slice_get s.seats 0 ≡ Some seat → seat ≡ i.seat
    seat_one seat is = same_Some seat i.seat (sym is ∙ ap (λ l. slice_get l 0) i.one)

    one_here : (seat : Seat) → slice_get s.seats 0 ≡ Some seat → s.seats ≡ seat ∷ []
    one_here seat is = i.one ∙ ap (λ (x : Seat). x ∷ []) (sym (seat_one seat is))

    goes_here : (seat : Seat) → slice_get s.seats 0 ≡ Some seat → Goes p replies s.statuses s.counters s.locks seat.task seat.hand
    goes_here seat is = subst (λ (x : Seat). Goes p replies s.statuses s.counters s.locks x.task x.hand) (sym (seat_one seat is)) i.goes

    -- Where the worker is free and has no factory in hand, a node is open, until the plan is settled.
    pub going_open : (seat : Seat) → slice_get s.seats 0 ≡ Some seat → seat.task ≡ Free → seat.hand ≡ None → status_at s 0 ≢ Settled → (m : ℕ) × (m < size p.tree) × (is_open (status_at s m) ≡ true)
    going_open seat is free empty unsettled =
        let kept : Goes p replies s.statuses s.counters s.locks Free None = subst (λ y. Goes p replies s.statuses s.counters s.locks Free y) empty (subst (λ t. Goes p replies s.statuses s.counters s.locks t seat.hand) free (goes_here seat is)) in
        some_open p core s.statuses kept.words kept.turns s.counters kept.counts unsettled

    -- A key that is wanted is free; the word that was seen of it is still there; and none is given back before the node is run.
    pub going_locking : IsPlan p → (seat : Seat) → slice_get s.seats 0 ≡ Some seat → (x k : ℕ) → seat.task ≡ Opens x (Locking k) → admits_at p x k (lock_at s (key_at p x k)) ≡ true
    going_locking plan seat is = key_free p core replies s g i.holds seat (one_here seat is) (goes_here seat is) plan

    pub going_weighed : IsPlan p → (seat : Seat) → slice_get s.seats 0 ≡ Some seat → (x k : ℕ) (word : LockWord) → seat.task ≡ Opens x (Weighed k word) → slice_get s.locks (key_at p x k) ≡ Some word
    going_weighed plan seat is x k word e =
        let kept : Goes p replies s.statuses s.counters s.locks (Opens x (Weighed k word)) seat.hand = subst (λ t. Goes p replies s.statuses s.counters s.locks t seat.hand) e (goes_here seat is) in
        let task : TaskOk p g 0 (Opens x (Weighed k word)) = subst (TaskOk p g 0) e (seat_ok p replies s g i.holds seat (one_here seat is)).task in
        let ok : ShapeOk p replies s.published x (OpenedBy 0 (Weighed k word)) = subst (ShapeOk p replies s.published x) task.1 (i.holds.shapes x task.0) in
        let lt = key_inside p plan x k ok.0 in
        let len = kept.keys_len in
        slice_get-get_or s.locks (key_at p x k) (Readers 0) (omega (arith, lt, len)) ∙ ap Some kept.keys

    pub going_backing : (seat : Seat) → slice_get s.seats 0 ≡ Some seat → (x k : ℕ) → seat.task ≡ Opens x (Backing k) → ⊥
    going_backing seat is x k e = (let kept : Goes p replies s.statuses s.counters s.locks (Opens x (Backing k)) seat.hand = subst (λ t. Goes p replies s.statuses s.counters s.locks t seat.hand) e (goes_here seat is) in kept.keys)

    -- A reply decides the task, and the schedule goes on.
    pub going_decided : (seat : Seat) → slice_get s.seats 0 ≡ Some seat → (r : Reply) → ReplyIs replies (awaited p seat seat.task) r → (g2 : ℕ → Stage) × IsGoing p replies (record s { seats = goes_to s 0 (decided_seat p r seat) }) g2
    going_decided seat is r replied =
        let k = decide_keeps p core replies s g i.holds 0 seat is r replied in (
          k.0,
          record {
            holds = k.1;
            placed = reseat_keeps s 0 seat (decided_seat p r seat) i.placed is (decided_named p 0 r seat.task);
            seat = decided_seat p r seat;
            one = ap (λ l. set l 0 (decided_seat p r seat)) (one_here seat is);
            goes = decide_goes p replies s seat (one_here seat is) (goes_here seat is) r seat.task refl;
          },
        )

    -- Where the plan is settled and nothing is to be read, all is given, the history is complete, and the plan has finished.
    pub going_end : status_at s 0 ≡ Settled → read_row s ≡ None → (s.given ≡ s.published) × (IsComplete p s.published × ((k : ℕ) × StandsAt s.published k Finished 0))
    going_end settled = plan_over p core replies s g i.holds i.placed settled

  -- The dispatcher's step.
  pub going_read : (s t : State) (g : ℕ → Stage) → IsGoing p replies s g → read_row s ≡ Some t → (g2 : ℕ → Stage) × IsGoing p replies t g2
  going_read s t g i q =
      let k = after_keeps p core replies s t Dispatches (g, i.holds) tt q in
      let placed = step_placed p s t Dispatches i.placed q in
      let same = go (slice_index_or s.shown (length s.given) false) (slice_get s.published (length s.given)) q in
      (k.0, record { holds = k.1; placed = placed; seat = i.seat; one = same.0 ∙ i.one; goes = same.1 })
    where
      go : (shown : Bool) (next : Option Event) → read_event s shown next ≡ Some t → (t.seats ≡ s.seats) × Goes p replies t.statuses t.counters t.locks i.seat.task i.seat.hand
      go false next r = absurd (none-some t r)
      go true None r = absurd (none-some t r)
      go true (Some e) r = subst (λ u. (u.seats ≡ s.seats) × Goes p replies u.statuses u.counters u.locks i.seat.task i.seat.hand) (same_Some (record s { given = s.given ++ e ∷ [] }) t r) (refl, i.goes)

  -- The opening state.
  pub going_opening : (g : ℕ → Stage) × IsGoing p replies (opening p 1) g
  going_opening =
      let k = opening_is p core replies 1 (omega arith) in (
        k.0,
        record {
          holds = k.1;
          placed = opening_placed p 1;
          seat = record { task = Free; hand = None };
          one = refl;
          goes = record {
            words = record {
              root = λ q. ready_not (sym (opening_root p core.plan.rooted.root) ∙ q);
              offered = λ n w q. absurd (elim (first_word n) [ inl a ↦ other (sym a ∙ q) | inr a ↦ hidden_ready (Some w) (sym q ∙ a) ]);
              claimed = λ n w q. absurd (elim (first_word n) [ inl a ↦ ready_claimed None w (sym a ∙ q) | inr a ↦ hidden_claimed w (sym q ∙ a) ]);
              walk = λ a b el plain begun. absurd (elim (first_word b) [ inl z ↦ false≢true (sym (ap is_begun z) ∙ begun) | inr z ↦ false≢true (sym (ap is_begun z) ∙ begun) ]);
            };
            turns = record {
              batch = λ a c w lt b q f. absurd (elim (first_word a) [ inl z ↦ ready_claimed None w (sym z ∙ q) | inr z ↦ hidden_claimed w (sym q ∙ z) ]);
              siblings = λ a b next q f. absurd (elim (first_word a) [ inl z ↦ ready_settled None (sym z ∙ q) | inr z ↦ hidden_settled (sym q ∙ z) ]);
            };
            counts = λ n w lt q apart none. absurd (elim (first_word n) [ inl z ↦ ready_claimed None w (sym z ∙ q) | inr z ↦ hidden_claimed w (sym q ∙ z) ]);
            keys = tt;
            keys_len = length-replicate {A = LockWord} (length p.keys) (Readers 0);
            in_hand = tt;
          };
        },
      )
    where
      ready_not : Ready None ≡ Hidden → ⊥
      ready_not q = hidden_ready None q

      other : {w : ℕ} → Ready None ≡ Ready (Some w) → ⊥
      other {w} q = none-some w (same_ready None (Some w) q)

      first_word : (n : ℕ) → (word_of (table first_status (size p.tree)) n ≡ Ready None) ⊎ (word_of (table first_status (size p.tree)) n ≡ Hidden)
      first_word = opening_word p core.plan.rooted.root

  -- A step of the schedule.
  module _ (plan : IsPlan p) (reply : ℕ → Reply) (one_reply : HasOneReply reply replies) where
    -- of a state whose task is decided
    next_step : (u : State) (g : ℕ → Stage) (i : IsGoing p replies u g) (r : Reply) (a : Action) → is_asking i.seat.task ≡ false → ((hand : Hand) (job : ℕ) → i.seat.task ≡ Free → i.seat.hand ≡ Some hand → body_of p.tree hand.factory ≡ Some job → r ≡ reply job)
        → IsNext p u i.seat r a → IsStep p replies u i.seat r a
    next_step u g i r a asks replied next = go i.seat.task refl next
      where
        go : (t : Task) → i.seat.task ≡ t → IsNextBy p u r i.seat.hand t a → IsStep p replies u i.seat r a
        go Free e next = free_step p core plan.tree reply replies one_reply u g i.holds i.seat i.one i.goes r e a (λ hand job is_hand body. replied hand job e is_hand body) i.seat.hand refl next
        go (Opens x d) e next = subst (IsStep p replies u i.seat r) (sym next) (opening_step p core replies u g i.holds i.seat i.one i.goes r plan x d e asks)
        go (Closes x d) e next = subst (IsStep p replies u i.seat r) (sym next) (closing_step p core replies u g i.holds i.seat i.one i.goes r plan x d e asks)

    -- The step that the schedule names is there, and the schedule goes on after it.
    pub going_next : (s : State) (g : ℕ → Stage) → IsGoing p replies s g → (seat : Seat) → slice_get s.seats 0 ≡ Some seat → (r : Reply) (a : Action) → ((job : ℕ) → awaited p seat seat.task ≡ Some job → r ≡ reply job)
        → IsNext p (record s { seats = goes_to s 0 (decided_seat p r seat) }) (decided_seat p r seat) r a → (t : State) × ((after p s (Works 0 a r) ≡ Some t) × ((g2 : ℕ → Stage) × IsGoing p replies t g2))
    going_next s g i seat is r a given next =
        let first = going_decided s g i seat is r replied in
        let step = next_step (record s { seats = goes_to s 0 (decided_seat p r seat) }) first.0 (seated first.1) r a (decided_asks p r seat.task)
        (λ hand job free is_hand body. given job (ap (awaited p seat) (decided_free p r seat.task free) ∙ ap (hand_job p) is_hand ∙ body)) next in
        let is_after : after p s (Works 0 a r) ≡ Some step.next = ap (option_and_then (after_seat p s 0 a r)) is ∙ step.is in
        let kept = after_keeps p core replies s step.next (Works 0 a r) (g, i.holds) (λ other q job asked. replied job (ap (λ (x : Seat). awaited p x x.task) (same_Some seat other (sym is ∙ q)) ∙ asked)) is_after in
        (step.next, (is_after, (kept.0, record { holds = kept.1; placed = step_placed p s step.next (Works 0 a r) i.placed is_after; seat = step.seat2; one = step.one2; goes = step.goes2 })))
      where
        replied : ReplyIs replies (awaited p seat seat.task) r
        replied job asked = (0, ap (λ l. slice_get l 0) (one_reply job) ∙ ap Some (sym (given job asked)))

        seated : {g2 : ℕ → Stage} → IsGoing p replies (record s { seats = goes_to s 0 (decided_seat p r seat) }) g2 → IsGoing p replies (record s { seats = goes_to s 0 (decided_seat p r seat) }) g2
        seated j = record { holds = j.holds; placed = j.placed; seat = decided_seat p r seat; one = ap (λ l. set l 0 (decided_seat p r seat)) (one_here s g i seat is); goes = decide_goes p replies s seat (one_here s g i seat is) (goes_here s g i seat is) r seat.task refl }
