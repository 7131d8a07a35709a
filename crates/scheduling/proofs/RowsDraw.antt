-- The row draw: an event is published, and the stage of its node says so.
use Rattle.std.proofs.Common.{◌≡◌, ◌≢◌, ℕ, ◌+◌, ◌<◌, Bool, true, false, ◌&&◌, ◌||◌, ◌==◌, nat_lt, List, [], ◌∷◌, ◌++◌, length, set, Option, Some, None, slice_get, ◌⊎◌, inl, inr, refl, sym, ap, ◌∙◌, subst, arith, append_assoc, length-append}
use Rattle.std.proofs.lemmas.Option.{same_Some, none-some}
use Rattle.std.proofs.lemmas.Bool.{cases_eq, cases_Bool, false≢true, both_ways, and_parts, and_from, and_left, and_right, or_left, or_right, eqb-true, eq-eqb, ne_eqb, lt-ltb}
use Rattle.descriptor.specs.Nodes.{size, parent_of, is_child, is_spare_at, bit}
use Rattle.plan_events.specs.declared.event.EventKind.{EventKind}
use Rattle.plan_events.specs.declared.event.EventKind.TheVariants.{Started, Finished, Skipped, Registered}
use Rattle.plan_events.specs.declared.event.Event.{Event}
use Rattle.plan_events.specs.declared.outcome.Reply.{Reply}
use Rattle.plan_events.specs.declared.status.Status.{Status}
use Rattle.event_history.specs.Places.{is_failure, is_failed_or, same_kind, has, is_of, has_event}
use Rattle.resource_locks.specs.Plans.{PlanParts}
use Rattle.event_history.specs.Plans.{is_spare_of, pulls_job}
use Rattle.event_history.specs.Failures.{failures}
use Rattle.event_history.proofs.Failures.{failures_added, last_own, last_other, up_to_other}
use Rattle.event_history.specs.Inside.Following.{started_by, registered_in, MayBeDrawn}
use Rattle.event_history.specs.Results.{Ends, jobs_of}
use Rattle.event_history.proofs.Places.{get_front}
use Rattle.event_history.proofs.Published.{published_added}
use Rattle.scheduling.specs.declared.status.NodeStatus.{NodeStatus}
use Rattle.scheduling.specs.declared.task.Opening.{Opening}
use Rattle.scheduling.specs.declared.task.Opening.TheVariants.{Registering, RegisteredAt, Offering, Noticing, Locking, Weighed, Backing, Beginning, StartedAt, Awaiting, Admitting, Guarding}
use Rattle.scheduling.specs.declared.task.Closing.{Closing}
use Rattle.scheduling.specs.declared.task.Closing.TheVariants.{AwaitingAfter, Ending, FinishedAt, SkippedAt, Raising, Giving, Settling, Looking, Passing, CountingOff}
use Rattle.scheduling.specs.declared.task.Task.{Task}
use Rattle.scheduling.specs.declared.task.Task.TheVariants.{Opens, Closes}
use Rattle.scheduling.specs.declared.seat.Hand.{Hand}
use Rattle.scheduling.specs.declared.seat.Seat.{Seat}
use Rattle.scheduling.specs.State.{State, subject}
use Rattle.scheduling.specs.Choices.{ending, event_of}
use Rattle.scheduling.specs.Rows.{with_task, drawn, one_more, draw_row}
use Rattle.scheduling.specs.Inside.Stages.{How, Gave, Kept, Skips, Stage, Unseen, Offered, OpenedBy, InHand, Waiting, ClosedBy, Over, Below, Mark, has_mark, mark_of, picture, starter_of, who, is_unseen, is_live, is_owned, is_pending, is_past, is_unsettled, raises, is_bold}
use Rattle.scheduling.specs.Inside.Invariant.{IsCorePlan, IsEnding, OpeningOk, ClosingOk, ShapeOk, Fits, TaskOk, HandOk, IsInHand, IsBrought, BringsOk, SeatOk, HeldBy, Holds, IsKept}
use Rattle.scheduling.proofs.Basics.{upd, upd_same, upd_other, upd_all, get_set_same, count_same, count_change, event_added, event_same}
use Rattle.scheduling.proofs.StageMove.{moved}
use Rattle.scheduling.proofs.Parts.{words_keep, counters_keep, locks_keep, fits_live, live_seen}
use Rattle.scheduling.proofs.RowsOne.{kept_some, still_about}
use Rattle.scheduling.proofs.RowsBelow.{results_keep}
use Rattle.scheduling.proofs.RowsTwo.{opened_waits, closed_waits, opened_hand, closed_hand}
use Rattle.scheduling.proofs.RowsWord.{ended_starter}
use Rattle.scheduling.proofs.Drawn.{draws_start, draws_skip, draws_register, draws_finish}

-- facts of a history stay in a longer one
pub more_events : (q : Event → Bool) (h : List Event) (e : Event) → has_event q h ≡ true → has_event q (h ++ e ∷ []) ≡ true
more_events q h e t = event_added q h e ∙ or_left (has_event q h) (q e) t

-- shapes speak of the history by what stays, and by the number of registered spares
closing_added : (p : PlanParts) (replies : ℕ → List Reply) (h : List Event) (e : Event) (n : ℕ) (d : Closing) (how : How) → registered_in p (h ++ e ∷ []) n ≡ registered_in p h n → ClosingOk p replies h n d how → ClosingOk p replies (h ++ e ∷ []) n d how
closing_added p replies h e n (Ending status) how same old =
    record { stopped = old.stopped; so = old.so; text = old.text; lawful = subst (λ k. Ends replies (jobs_of p n) old.stopped k status old.text) (sym same) old.lawful }
closing_added p replies h e n AwaitingAfter how same old = old
closing_added p replies h e n (Looking m) how same old = old
closing_added p replies h e n (Passing m o) how same old = old
closing_added p replies h e n CountingOff how same old = old
closing_added p replies h e n (FinishedAt i s) how same old = tt
closing_added p replies h e n (SkippedAt i) how same old = tt
closing_added p replies h e n Raising how same old = old
closing_added p replies h e n (Giving i) how same old = old
closing_added p replies h e n Settling how same old = tt

opening_added : (p : PlanParts) (replies : ℕ → List Reply) (h : List Event) (e : Event) (n : ℕ) (d : Opening) → OpeningOk p replies h n d → OpeningOk p replies (h ++ e ∷ []) n d
opening_added p replies h e n (Beginning true) old = (old.0, elim old.1 [ inl a ↦ inl a | inr b ↦ (let more = failures_added h e in let was : p.tolerated < failures h = b.1 in inr (b.0, omega (arith, more, was))) ])
opening_added p replies h e n (Beginning false) old = old
opening_added p replies h e n Registering old = old
opening_added p replies h e n Noticing old = old
opening_added p replies h e n (Locking i) old = old
opening_added p replies h e n (Weighed i word) old = old
opening_added p replies h e n Awaiting old = old
opening_added p replies h e n (Admitting c) old = old
opening_added p replies h e n Guarding old = old
opening_added p replies h e n (RegisteredAt i) old = tt
opening_added p replies h e n Offering old = tt
opening_added p replies h e n (Backing i) old = old
opening_added p replies h e n (StartedAt i) old = tt

pub shape_added : (p : PlanParts) (replies : ℕ → List Reply) (h : List Event) (e : Event) (w n : ℕ) (st : Stage) → (registered_in p (h ++ e ∷ []) n ≡ registered_in p h n) ⊎ (st ≡ InHand w) → ShapeOk p replies h n st → ShapeOk p replies (h ++ e ∷ []) n st
shape_added p replies h e w n Unseen same old = tt
shape_added p replies h e w n (Offered o) same old = tt
shape_added p replies h e w n (OpenedBy v d) same old = opening_added p replies h e n d old
shape_added p replies h e w n (InHand v) same old = old
shape_added p replies h e w n (Waiting c r) same old = elim same [ inl q ↦ closing_added p replies h e n (ending p n r) How.Gave q old | inr q ↦ absurd (waiting_not c r w q) ]
  where
    waiting_not : (c : ℕ) (r : Status) (w : ℕ) → Waiting c r ≡ InHand w → ⊥
    waiting_not c r w q = cc
shape_added p replies h e w n (ClosedBy v c d how) same old = elim same [ inl q ↦ closing_added p replies h e n d how q old | inr q ↦ absurd (closed_hand v c d how w q) ]
shape_added p replies h e w n (Over how) same old = tt

-- how many spares are registered
count_others : (p : PlanParts) (h : List Event) (e : Event) (f : ℕ) → ((c : ℕ) → c < size p.tree → is_spare_of p f c ≡ true → is_of Registered c e ≡ false) → registered_in p (h ++ e ∷ []) f ≡ registered_in p h f
count_others p h e f none =
    count_same (λ c. is_spare_of p f c && has Registered c (h ++ e ∷ [])) (λ c. is_spare_of p f c && has Registered c h) (size p.tree) (λ c lt.
    elim (cases_Bool (is_spare_of p f c)) [
      | inl t ↦ ap (λ b. is_spare_of p f c && b) (event_same (is_of Registered c) h e (none c lt t))
      | inr no' ↦ and_left (is_spare_of p f c) (has Registered c (h ++ e ∷ [])) no' ∙ sym (and_left (is_spare_of p f c) (has Registered c h) no')
    ])

module _ (p : PlanParts) (core : IsCorePlan p) (replies : ℕ → List Reply) (s : State) (g : ℕ → Stage) (h : Holds p replies s g) (w : ℕ) (seat : Seat) (is : slice_get s.seats w ≡ Some seat) where
  held_seat : SeatOk p g s.published w seat
  held_seat = h.seats w seat is

  draws : (x : ℕ) (kind : EventKind) (status : Option Status) (a b : Stage) (seat2 : Seat) → x < size p.tree → g x ≡ a → who a ≡ Some w → ((n : ℕ) → n ≢ x → subject seat.task ≡ Some n → seat2.task ≡ seat.task) → HeldBy (set s.seats w seat2) x b
      → SeatOk p (upd g x b) (s.published ++ event_of kind x status w ∷ []) w seat2 → (picture p x a).word ≡ (picture p x b).word → (picture p x a).guard ≡ (picture p x b).guard → (picture p x a).keys ≡ (picture p x b).keys → (picture p x a).below ≡ (picture p x b).below
      → is_pending (is_spare_at p.tree x) a ≡ is_pending (is_spare_at p.tree x) b → ((k : EventKind) → (has_mark (is_spare_at p.tree x) k (picture p x a).mark || same_kind kind k) ≡ has_mark (is_spare_at p.tree x) k (picture p x b).mark)
      → ((c : ℕ) → starter_of (picture p x b) ≡ Some c → started_by x (c + 1) (s.published ++ event_of kind x status w ∷ []) ≡ true) → ShapeOk p replies (s.published ++ event_of kind x status w ∷ []) x b
      → ((c : ℕ) (r : Status) → b ≡ Waiting c r → ⊥) → is_live a ≡ true → is_past a ≡ false → ((o : ℕ) → is_owned o a ≡ true → is_owned o b ≡ true) → (is_unsettled b ≡ true → is_unsettled a ≡ true)
      → ((f : ℕ) → (registered_in p (s.published ++ event_of kind x status w ∷ []) f ≡ registered_in p s.published f) ⊎ (g f ≡ InHand w)) → MayBeDrawn p replies (length s.seats) s.published (event_of kind x status w)
      → raises seat.task ≡ false → raises seat2.task ≡ is_failure (event_of kind x status w)
      → IsKept p replies (drawn s w (event_of kind x status w) seat2)
  draws x kind status a b seat2 inside at mine still held seat_ok word guard keys below pend marks starter shape not_waiting live past owned quiet counts may calm fails = (
    upd g x b,
    moved p core.plan replies s (drawn s w (event_of kind x status w) seat2) g w x b seat seat2 h (record {
      inside = inside;
      seat_is = is;
      seats = refl;
      alone = λ v q. same_Some v w (sym q ∙ ap who at ∙ mine);
      still = still;
      held = held;
      seat_ok = seat_ok;
      statuses_len = h.statuses_len;
      counters_len = h.counters_len;
      results_len = h.results_len;
      shown_len = (let l = h.shown_len in omega (arith, l, length-append s.shown (false ∷ []), length-append s.published (event_of kind x status w ∷ [])));
      words = (words_keep p s.statuses g x a b at word (h.statuses_len, h.words)).1;
      counters = (counters_keep p s.counters g x a b at guard pend (h.counters_len, h.counters)).1;
      results = (results_keep p core replies s g h w seat is x b not_waiting).1;
      locks = locks_keep p s.locks g x a b inside at keys h.locks;
      flags = λ k n lt. event_added (is_of k n) s.published (event_of kind x status w) ∙ elim (cases_eq n x) [
        | inl q ↦ ap (λ z. z || is_of k n (event_of kind x status w)) (h.flags k n lt) ∙ flag_here k n q ∙ ap (λ st. has_mark (is_spare_at p.tree n) k (picture p n st).mark) (sym (upd_same g x b n q))
        | inr ne ↦ ap (λ z. has k n s.published || z) (and_right (same_kind kind k) (x == n) (ne_eqb x n (λ q. ne (sym q)))) ∙ or_no (has k n s.published) ∙ h.flags k n lt ∙ ap (λ st. has_mark (is_spare_at p.tree n) k (picture p n st).mark) (sym (upd_other g x b n ne))
      ];
      starters = λ n c lt. upd_all (λ j st. starter_of (picture p j st) ≡ Some c → started_by j (c + 1) (s.published ++ event_of kind x status w ∷ []) ≡ true) g x b n
          (λ e. subst (λ j. starter_of (picture p j b) ≡ Some c → started_by j (c + 1) (s.published ++ event_of kind x status w ∷ []) ≡ true) (sym e) (starter c))
          (λ ne q. more_events (λ e. is_of Started n e && (e.worker == c + 1)) s.published (event_of kind x status w) (h.starters n c lt q));
      others = λ v ne. (let apart = ne_eqb (w + 1) (v + 1) (λ q. ne (omega (arith, q))) in
          (up_to_other (v + 1) s.published (event_of kind x status w) apart, last_other (v + 1) s.published (event_of kind x status w) apart));
      counts = counts;
      raising = λ ff. (let more = failures_added s.published (event_of kind x status w) in
          let was : bit (raises seat.task) ≡ 0 = ap bit calm in
          let now : bit (raises seat2.task) ≡ bit (is_failure (event_of kind x status w)) = ap bit fails in
          omega (arith, more, was, now));
      published = published_added p core.plan replies (length s.seats) s.published (event_of kind x status w) h.published may;
      given = record {
        rest = h.given.rest ++ event_of kind x status w ∷ [];
        front = sym (append_assoc s.given h.given.rest (event_of kind x status w ∷ [])) ∙ ap (λ l. l ++ event_of kind x status w ∷ []) h.given.front;
        shown = λ i lt. get_front s.shown (false ∷ []) true i (h.given.shown i lt);
      };
      shape = shape;
      shapes = λ n ne lt old. shape_added p replies s.published (event_of kind x status w) w n (g n) (counts n) old;
      above = λ c ch. fits_live p (picture p c (g c)).below c x a b live (λ same o from r q. owned o q) (subst (λ (st : Stage). Fits p (picture p c (g c)).below c x st) at (h.edges c x ch));
      below = λ c ch. subst (λ (y : Below). Fits p y x c (g c)) (ap (λ st. (picture p x st).below) at ∙ below) (h.edges x c ch);
      past = λ q. absurd (both_ways (is_past a) past (ap is_past (sym at) ∙ q));
      elders = λ c elder goes seen. h.elders c x elder goes (ap is_unseen at ∙ live_seen a live);
      quiet = λ z q. inl (ap is_unsettled at ∙ quiet q);
    }),
  )
    where
      or_no : (c : Bool) → (c || false) ≡ c
      or_no true = refl
      or_no false = refl

      and_yes : (c d : Bool) → d ≡ true → (c && d) ≡ c
      and_yes true d q = q
      and_yes false d q = refl

      flag_here : (k : EventKind) (n : ℕ) → n ≡ x → (has_mark (is_spare_at p.tree n) k (picture p n (g n)).mark || is_of k n (event_of kind x status w)) ≡ has_mark (is_spare_at p.tree n) k (picture p n b).mark
      flag_here k n q =
          subst (λ j. (has_mark (is_spare_at p.tree j) k (picture p j (g j)).mark || is_of k j (event_of kind x status w)) ≡ has_mark (is_spare_at p.tree j) k (picture p j b).mark) (sym q)
          (ap (λ st. has_mark (is_spare_at p.tree x) k (picture p x st).mark || is_of k x (event_of kind x status w)) at ∙ ap (λ z. has_mark (is_spare_at p.tree x) k (picture p x a).mark || z) (and_yes (same_kind kind k) (x == x) (eq-eqb x x refl)) ∙ marks k)

  -- of an event that registers nothing
  no_counts : (x : ℕ) (kind : EventKind) (status : Option Status) → same_kind kind Registered ≡ false → (f : ℕ) → (registered_in p (s.published ++ event_of kind x status w ∷ []) f ≡ registered_in p s.published f) ⊎ (g f ≡ InHand w)
  no_counts x kind status no' f = inl (count_others p s.published (event_of kind x status w) f (λ c lt q. and_left (same_kind kind Registered) (x == c) no'))

  -- a worker's hand, where an event is drawn that registers nothing
  hand_draws : (x : ℕ) (a b : Stage) (kind : EventKind) (status : Option Status) (hand : Option Hand) → g x ≡ a → (a ≡ InHand w → ⊥) → (is_unsettled b ≡ true → is_unsettled a ≡ true) → same_kind kind Registered ≡ false → HandOk p g s.published w hand → HandOk p (upd g x b) (s.published ++ event_of kind x status w ∷ []) w hand
  hand_draws x a b kind status None at not' quiet no' old = tt
  hand_draws x a b kind status (Some hand) at not' quiet no' old = record {
    inside = old.inside;
    at = upd_other g x b hand.factory (λ e. not' (sym at ∙ ap g (sym e) ∙ old.at)) ∙ old.at;
    count = count_others p s.published (event_of kind x status w) hand.factory (λ c lt q. and_left (same_kind kind Registered) (x == c) no') ∙ old.count;
    waits = λ c ch same unsettled. elim (cases_eq c x) [
      | inl e ↦ old.waits c ch same (ap is_unsettled (ap g e ∙ at) ∙ quiet (ap is_unsettled (sym (upd_same g x b c e)) ∙ unsettled))
      | inr nc ↦ old.waits c ch same (ap is_unsettled (sym (upd_other g x b c nc)) ∙ unsettled)
    ];
  }

  task_at : (x : ℕ) (d : Opening) → seat.task ≡ Opens x d → (x < size p.tree) × (g x ≡ OpenedBy w d)
  task_at x d e = subst (TaskOk p g w) e held_seat.task

  draw_start : (x : ℕ) → seat.task ≡ Opens x (Beginning false) → IsKept p replies (drawn s w (event_of Started x None w) (with_task seat (Opens x (StartedAt (length s.published)))))
  draw_start x e =
      let i = length s.published in
      let at = task_at x (Beginning false) e in
      draws x Started None (OpenedBy w (Beginning false)) (OpenedBy w (StartedAt (length s.published))) (with_task seat (Opens x (StartedAt (length s.published)))) at.0 at.1 refl (still_about p core replies s g h w seat is x (ap subject e) (Opens x (StartedAt (length s.published))))
      (with_task seat (Opens x (StartedAt (length s.published))), get_set_same s.seats w (with_task seat (Opens x (StartedAt (length s.published)))) seat is, refl)
      (record {
        task = (at.0, upd_same g x (OpenedBy w (StartedAt (length s.published))) x refl);
        hand = hand_draws x (OpenedBy w (Beginning false)) (OpenedBy w (StartedAt (length s.published))) Started None seat.hand at.1 (λ q. opened_hand w (Beginning false) w q) (λ q. refl) refl held_seat.hand;
        brought = λ b. absurd (false≢true b);
        failed = λ q. absurd (false≢true q);
        quits = λ ff bold. absurd (false≢true bold);
      })
      refl refl refl refl refl (λ k. marks (is_spare_at p.tree x) k) (λ c q. own c q) tt (λ c r q. opened_waits w (StartedAt (length s.published)) c r q) refl refl (λ o q. q) (λ q. refl) (no_counts x Started None refl) (draws_start p core replies s g h w seat is x at.0 at.1 e) (ap raises e) refl
    where
      marks : (spare : Bool) (k : EventKind) → (has_mark spare k Mark.Known || same_kind Started k) ≡ has_mark spare k Mark.Begun
      marks spare Started = refl
      marks spare Finished = refl
      marks spare Skipped = refl
      marks true Registered = refl
      marks false Registered = refl

      own : (c : ℕ) → Some w ≡ Some c → started_by x (c + 1) (s.published ++ event_of Started x None w ∷ []) ≡ true
      own c q =
          event_added (λ f. is_of Started x f && (f.worker == c + 1)) s.published (event_of Started x None w) ∙ or_right (started_by x (c + 1) s.published) (is_of Started x (event_of Started x None w) && (w + 1 == c + 1))
          (and_from (is_of Started x (event_of Started x None w)) (w + 1 == c + 1) (eq-eqb x x refl) (eq-eqb (w + 1) (c + 1) (ap (λ n. n + 1) (same_Some w c q))))

  draw_skip : (x : ℕ) → seat.task ≡ Opens x (Beginning true) → IsKept p replies (drawn s w (event_of Skipped x None w) (with_task seat (Closes x (SkippedAt (length s.published)))))
  draw_skip x e =
      let at = task_at x (Beginning true) e in
      draws x Skipped None (OpenedBy w (Beginning true)) (ClosedBy w w (SkippedAt (length s.published)) Skips) (with_task seat (Closes x (SkippedAt (length s.published)))) at.0 at.1 refl (still_about p core replies s g h w seat is x (ap subject e) (Closes x (SkippedAt (length s.published))))
      (with_task seat (Closes x (SkippedAt (length s.published))), get_set_same s.seats w (with_task seat (Closes x (SkippedAt (length s.published)))) seat is, refl)
      (record {
        task = (at.0, (w, Skips, upd_same g x (ClosedBy w w (SkippedAt (length s.published)) Skips) x refl));
        hand = hand_draws x (OpenedBy w (Beginning true)) (ClosedBy w w (SkippedAt (length s.published)) Skips) Skipped None seat.hand at.1 (λ q. opened_hand w (Beginning true) w q) (λ q. refl) refl held_seat.hand;
        brought = tt;
        failed = λ q. absurd (false≢true q);
        quits = λ ff bold. absurd (false≢true bold);
      })
      refl refl refl refl refl (λ k. marks (is_spare_at p.tree x) k) (λ c q. absurd (none-some c q)) tt (λ c r q. closed_waits w w (SkippedAt (length s.published)) Skips c r q) refl refl (λ o q. refl) (λ q. refl) (no_counts x Skipped None refl) (draws_skip p core replies s g h w seat is x at.0 at.1) (ap raises e) refl
    where
      marks : (spare : Bool) (k : EventKind) → (has_mark spare k Mark.Known || same_kind Skipped k) ≡ has_mark spare k Mark.Passed
      marks spare Started = refl
      marks spare Finished = refl
      marks spare Skipped = refl
      marks true Registered = refl
      marks false Registered = refl

  draw_finish : (x : ℕ) (status : Status) → seat.task ≡ Closes x (Ending status) → IsKept p replies (drawn s w (event_of Finished x (Some status) w) (with_task seat (Closes x (FinishedAt (length s.published) status))))
  draw_finish x status e = (let task : TaskOk p g w (Closes x (Ending status)) = subst (TaskOk p g w) e held_seat.task in go task.1.0 task.1.1 task.0 task.1.2)
    where
      marks : (spare : Bool) (how : How) (k : EventKind) → (how ≡ Skips → ⊥) → (has_mark spare k Mark.Begun || same_kind Finished k) ≡ has_mark spare k (mark_of how)
      marks spare Gave Started ok = refl
      marks spare Gave Finished ok = refl
      marks spare Gave Skipped ok = refl
      marks true Gave Registered ok = refl
      marks false Gave Registered ok = refl
      marks spare Kept Started ok = refl
      marks spare Kept Finished ok = refl
      marks spare Kept Skipped ok = refl
      marks true Kept Registered ok = refl
      marks false Kept Registered ok = refl
      marks spare Skips k ok = absurd (ok refl)

      unskipped : (how : How) → IsEnding p replies s.published x how status → how ≡ Skips → ⊥
      unskipped how ok q = skips_end (subst (λ k. IsEnding p replies s.published x k status) q ok)
        where
          skips_end : IsEnding p replies s.published x Skips status → ⊥
          skips_end k = k.so

      go : (c : ℕ) (how : How) → x < size p.tree → g x ≡ ClosedBy w c (Ending status) how → IsKept p replies (drawn s w (event_of Finished x (Some status) w) (with_task seat (Closes x (FinishedAt (length s.published) status))))
      go c how inside at =
          draws x Finished (Some status) (ClosedBy w c (Ending status) how) (ClosedBy w c (FinishedAt (length s.published) status) how) (with_task seat (Closes x (FinishedAt (length s.published) status))) inside at refl (still_about p core replies s g h w seat is x (ap subject e) (Closes x (FinishedAt (length s.published) status)))
          (with_task seat (Closes x (FinishedAt (length s.published) status)), get_set_same s.seats w (with_task seat (Closes x (FinishedAt (length s.published) status))) seat is, refl)
          (record {
            task = (inside, (c, how, upd_same g x (ClosedBy w c (FinishedAt (length s.published) status) how) x refl));
            hand = hand_draws x (ClosedBy w c (Ending status) how) (ClosedBy w c (FinishedAt (length s.published) status) how) Finished (Some status) seat.hand at (λ q. closed_hand w c (Ending status) how w q) (λ q. refl) refl held_seat.hand;
            brought = tt;
            failed = λ q. last_own (w + 1) s.published (event_of Finished x (Some status) w) (eq-eqb (w + 1) (w + 1) refl) ∙ q;
            quits = λ ff bold. absurd (false≢true bold);
          })
          refl refl refl refl refl (λ k. marks (is_spare_at p.tree x) how k (unskipped how (subst (ShapeOk p replies s.published x) at (h.shapes x inside)))) (λ v q. absurd (none-some v (sym (ended_starter how (NodeStatus.Claimed c)) ∙ q))) tt (λ v r q. closed_waits w c (FinishedAt (length s.published) status) how v r q) refl refl (λ o q. refl) (λ q. refl)
          (no_counts x Finished (Some status) refl) (draws_finish p core replies s g h w seat is x inside c how status at) (ap raises e) refl

  -- a spare is registered: the factory in hand has one more
  draw_register : (x : ℕ) → seat.task ≡ Opens x Registering → IsKept p replies (drawn s w (event_of Registered x None w) (record { task = Opens x (RegisteredAt (length s.published)); hand = one_more seat.hand }))
  draw_register x e =
      let at = task_at x Registering e in
      let b : BringsOk p (Opens x Registering) seat.hand = subst (λ t. BringsOk p t seat.hand) e held_seat.brought in
      let brought : IsBrought p x Registering seat.hand = b refl in
      let hand : IsInHand p g s.published w brought.held = subst (HandOk p g s.published w) brought.is held_seat.hand in
      let shape : (is_spare_at p.tree x && pulls_job p (parent_of p.tree x)) ≡ true = subst (ShapeOk p replies s.published x) at.1 (h.shapes x at.0) in
      let spare : is_spare_at p.tree x ≡ true = (and_parts (is_spare_at p.tree x) _ shape).0 in
      draws x Registered None (OpenedBy w Registering) (OpenedBy w (RegisteredAt (length s.published))) (record { task = Opens x (RegisteredAt (length s.published)); hand = one_more seat.hand }) at.0 at.1 refl (still_about p core replies s g h w seat is x (ap subject e) (Opens x (RegisteredAt (length s.published))))
      (record { task = Opens x (RegisteredAt (length s.published)); hand = one_more seat.hand }, get_set_same s.seats w (record { task = Opens x (RegisteredAt (length s.published)); hand = one_more seat.hand }) seat is, refl)
      (record {
        task = (at.0, upd_same g x (OpenedBy w (RegisteredAt (length s.published))) x refl);
        hand = subst (λ k. HandOk p (upd g x (OpenedBy w (RegisteredAt (length s.published)))) (s.published ++ event_of Registered x None w ∷ []) w (one_more k)) (sym brought.is) (hand_more brought.held at.1 at.0 brought.parent brought.child spare hand);
        brought = λ _. record { held = record brought.held { registered = brought.held.registered + 1 }; is = ap one_more brought.is; parent = brought.parent; child = brought.child; waits = brought.waits; next = λ q. absurd (not_next q) };
        failed = λ q. absurd (false≢true q);
        quits = λ ff bold. absurd (false≢true bold);
      })
      refl refl refl refl refl (λ k. marks (is_spare_at p.tree x) spare k) (λ c q. absurd (none-some c q)) tt (λ c r q. opened_waits w (RegisteredAt (length s.published)) c r q) refl refl (λ o q. q) (λ q. q)
      (λ f. elim (cases_eq f (parent_of p.tree x)) [
        | inl q ↦ inr (ap g (q ∙ brought.parent) ∙ hand.at)
        | inr ne ↦ inl (count_others p s.published (event_of Registered x None w) f (λ c lt q. ne_eqb x c (λ z. ne (sym (child_parent f c q) ∙ ap (parent_of p.tree) (sym z)))))
      ])
      (draws_register p core replies s g h w seat is x at.0 at.1 brought) (ap raises e) refl
    where
      child_parent : (f c : ℕ) → is_spare_of p f c ≡ true → parent_of p.tree c ≡ f
      child_parent f c q = eqb-true (parent_of p.tree c) f (and_parts (nat_lt 0 c) (parent_of p.tree c == f) (and_parts (is_child p.tree f c) (is_spare_at p.tree c) q).0).1

      not_next : RegisteredAt (length s.published) ≡ Registering → ⊥
      not_next q = go (length s.published) q
        where
          go : (i : ℕ) → RegisteredAt i ≡ Registering → ⊥
          go i q = cc

      marks : (spare : Bool) → spare ≡ true → (k : EventKind) → (has_mark spare k Mark.Blank || same_kind Registered k) ≡ has_mark spare k Mark.Known
      marks spare q Started = refl
      marks spare q Finished = refl
      marks spare q Skipped = refl
      marks spare q Registered = sym q

      one_registered : (held : Hand) → parent_of p.tree x ≡ held.factory → 0 < x → x < size p.tree → is_spare_at p.tree x ≡ true → g x ≡ OpenedBy w Registering → registered_in p s.published held.factory ≡ held.registered → registered_in p (s.published ++ event_of Registered x None w ∷ []) held.factory ≡ held.registered + 1
      one_registered held par pos inside spare at count =
          let is_its : is_spare_of p held.factory x ≡ true = and_from (is_child p.tree held.factory x) (is_spare_at p.tree x) (and_from (nat_lt 0 x) (parent_of p.tree x == held.factory) (lt-ltb 0 x pos) (eq-eqb (parent_of p.tree x) held.factory par)) spare in
          let was : has Registered x s.published ≡ false = h.flags Registered x inside ∙ ap (λ st. has_mark (is_spare_at p.tree x) Registered (picture p x st).mark) at in
          let now : has Registered x (s.published ++ event_of Registered x None w ∷ []) ≡ true = event_added (is_of Registered x) s.published (event_of Registered x None w) ∙ or_right (has Registered x s.published) (is_of Registered x (event_of Registered x None w)) (eq-eqb x x refl) in
          let change = count_change (λ c. is_spare_of p held.factory c && has Registered c s.published) (λ c. is_spare_of p held.factory c && has Registered c (s.published ++ event_of Registered x None w ∷ [])) x (size p.tree) inside
          (λ k ne. ap (λ b. is_spare_of p held.factory k && b) (sym (event_same (is_of Registered k) s.published (event_of Registered x None w) (ne_eqb x k (λ z. ne (sym z)))))) in
          let a : bit (is_spare_of p held.factory x && has Registered x s.published) ≡ 0 = ap bit (and_right (is_spare_of p held.factory x) (has Registered x s.published) was) in
          let b : bit (is_spare_of p held.factory x && has Registered x (s.published ++ event_of Registered x None w ∷ [])) ≡ 1 = ap bit (and_from (is_spare_of p held.factory x) (has Registered x (s.published ++ event_of Registered x None w ∷ [])) is_its now) in
          omega (arith, change, a, b, count)

      hand_more : (held : Hand) → g x ≡ OpenedBy w Registering → x < size p.tree → parent_of p.tree x ≡ held.factory → 0 < x → is_spare_at p.tree x ≡ true → IsInHand p g s.published w held → HandOk p (upd g x (OpenedBy w (RegisteredAt (length s.published)))) (s.published ++ event_of Registered x None w ∷ []) w (one_more (Some held))
      hand_more held at inside par pos spare old = record {
        inside = old.inside;
        at = upd_other g x (OpenedBy w (RegisteredAt (length s.published))) held.factory (λ q. opened_hand w Registering w (sym at ∙ ap g (sym q) ∙ old.at)) ∙ old.at;
        count = one_registered held par pos inside spare at old.count;
        waits = λ c ch same unsettled. elim (cases_eq c x) [
          | inl q ↦ absurd (false≢true (sym (ap is_unsettled (upd_same g x (OpenedBy w (RegisteredAt (length s.published))) c q)) ∙ unsettled))
          | inr nc ↦ old.waits c ch same (ap is_unsettled (sym (upd_other g x (OpenedBy w (RegisteredAt (length s.published))) c nc)) ∙ unsettled)
        ];
      }

  pub draw_keeps : (t0 : Task) → seat.task ≡ t0 → (t : State) → draw_row s w seat t0 ≡ Some t → IsKept p replies t
  draw_keeps (Opens x Registering) e t q = kept_some p replies (drawn s w (event_of Registered x None w) (record { task = Opens x (RegisteredAt (length s.published)); hand = one_more seat.hand })) t (draw_register x e) q
  draw_keeps (Opens x (Beginning true)) e t q = kept_some p replies (drawn s w (event_of Skipped x None w) (with_task seat (Closes x (SkippedAt (length s.published))))) t (draw_skip x e) q
  draw_keeps (Opens x (Beginning false)) e t q = kept_some p replies (drawn s w (event_of Started x None w) (with_task seat (Opens x (StartedAt (length s.published))))) t (draw_start x e) q
  draw_keeps (Closes x (Ending status)) e t q = kept_some p replies (drawn s w (event_of Finished x (Some status) w) (with_task seat (Closes x (FinishedAt (length s.published) status)))) t (draw_finish x status e) q
  draw_keeps _ e t q = absurd (none-some t q)
