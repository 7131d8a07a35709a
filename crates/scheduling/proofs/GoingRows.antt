-- The fixed schedule: the step that it names is there, and what it keeps goes on.
use Rattle.std.specs.Prelude.{cond}
use Rattle.std.proofs.Common.{◌≡◌, ℕ, zero, suc, ◌-◌, ◌<◌, Bool, true, false, ◌&&◌, ◌==◌, not, List, [], ◌∷◌, length, set, Option, Some, None, slice_set, inl, inr, refl, sym, ap, ◌∙◌, subst, arith}
use Rattle.std.proofs.lemmas.Bool.{cases_Bool, false≢true, both_ways, and_parts, and_from, or_left, eqb-true, eq-eqb, ne_eqb}
use Rattle.descriptor.specs.Nodes.{size, parent_of, IsChild, is_child, is_spare_at, body_of, count_below}
use Rattle.plan_events.specs.declared.outcome.Reply.{Reply}
use Rattle.plan_events.specs.declared.status.Status.TheVariants.{Successful}
use Rattle.resource_locks.specs.Plans.{PlanParts, IsPlan}
use Rattle.event_history.specs.Order.{goes_first}
use Rattle.event_history.specs.Plans.{Leaf, sort_of, is_same, pulls_job}
use Rattle.event_history.proofs.Spares.{pulls_sort}
use Rattle.event_history.proofs.Trees.{is_child_test, test_is_child}
use Rattle.scheduling.specs.declared.status.NodeStatus.TheVariants.{Claimed, Settled}
use Rattle.scheduling.specs.declared.task.Opening.{Opening}
use Rattle.scheduling.specs.declared.task.Opening.TheVariants.{Registering, RegisteredAt, Offering, Noticing, Locking, Weighed, Backing, Beginning, StartedAt, Awaiting, Admitting, Guarding}
use Rattle.scheduling.specs.declared.task.Closing.{Closing}
use Rattle.scheduling.specs.declared.task.Closing.TheVariants.{AwaitingAfter, Ending, FinishedAt, SkippedAt, Raising, Giving, Settling, Looking, Passing, CountingOff}
use Rattle.scheduling.specs.declared.task.Task.{Task}
use Rattle.scheduling.specs.declared.task.Task.TheVariants.{Free, Opens, Closes}
use Rattle.scheduling.specs.declared.seat.Hand.{Hand}
use Rattle.scheduling.specs.declared.seat.Seat.{Seat}
use Rattle.scheduling.specs.State.{State, status_at, counter_at, result_at}
use Rattle.scheduling.specs.Choices.{is_same_sibling, first_from, pass_to, after_settle, admit_from, offered_to}
use Rattle.scheduling.specs.declared.step.Action.TheVariants.{Admit, Done, Settle, Show}
use Rattle.scheduling.specs.Rows.{with_task, goes_to, offers, admit_row, waits_for, waits_no_more, settle_row, guard_given, counted_off, done_row, ends_or_free, shows, after_start, show_row}
use Rattle.scheduling.specs.Schedule.{opening_action, closing_action}
use Rattle.scheduling.specs.Inside.Stages.{How, Stage, Unseen, OpenedBy, InHand, ClosedBy, Below, Runs, picture, is_live, is_unseen, is_past}
use Rattle.scheduling.specs.Inside.Invariant.{IsCorePlan, IsNextSame, pending, RunsSo, ShapeOk, Fits, TaskOk, HandOk, SeatOk, Holds}
use Rattle.scheduling.specs.Inside.Going.{is_about, owed, owes, ClosingPasses, KeysGo, HandGo, Goes}
use Rattle.scheduling.proofs.Basics.{count_some, first_none}
use Rattle.scheduling.proofs.RowsOne.{by_cond, parent_inside}
use Rattle.scheduling.proofs.RowsTwo.{unseen_is}
use Rattle.scheduling.proofs.RowsUp.{maker_is}
use Rattle.scheduling.proofs.GoingBasics.{seat_ok, owes_is}
use Rattle.scheduling.proofs.GoingTurns.{IsStep, at_task, seats_go, opening_turn, notice_goes, weigh_goes, take_goes, give_goes, raise_goes, draw_begins_goes, draw_ends_goes, draw_registers_goes, show_registered_goes, show_skipped_goes, show_finished_goes, look_goes}
use Rattle.scheduling.proofs.GoingWords.{maker_leaf, settle_goes, admit_child_goes, offering_goes, passing_goes}
use Rattle.scheduling.proofs.GoingCounts.{in_hand_goes, guard_goes_on, off_goes}
use Rattle.scheduling.proofs.GoingLocks.{parent_runs, key_free}
use Rattle.scheduling.proofs.GoingSharedKeys.{key_inside}

-- a task that asks for no reply
abbrev pub is_asking : Task → Bool
is_asking (Opens n Awaiting) = true
is_asking (Closes n AwaitingAfter) = true
is_asking _ = false

-- who passes the turn on passes it to who runs the children
passes_own : (p : PlanParts) (below : Below) (a x o n from m c : ℕ) (how : How) → below ≡ Runs n from → is_same p x ≡ true → Fits p below a x (ClosedBy 0 c (Passing m o) how) → (o == n) ≡ true
passes_own p below a x o n from m c how e same fits = (let so : RunsSo p a x n from (ClosedBy 0 c (Passing m o) how) = subst (λ y. Fits p y a x (ClosedBy 0 c (Passing m o) how)) e fits in so.owned same)

module _ (p : PlanParts) (core : IsCorePlan p) (replies : ℕ → List Reply) (s : State) (g : ℕ → Stage) (h : Holds p replies s g) (seat : Seat) (one : s.seats ≡ seat ∷ []) (kept : Goes p replies s.statuses s.counters s.locks seat.task seat.hand) (r : Reply) where
  pub ours : SeatOk p g s.published 0 seat
  ours = seat_ok p replies s g h seat one

  pub opened : (x : ℕ) (d : Opening) → seat.task ≡ Opens x d → (x < size p.tree) × (g x ≡ OpenedBy 0 d)
  opened x d e = subst (TaskOk p g 0) e ours.task

  pub opened_word : (x : ℕ) (d : Opening) → seat.task ≡ Opens x d → status_at s x ≡ (picture p x (OpenedBy 0 d)).word
  opened_word x d e = (let at = opened x d e in h.words x at.0 ∙ ap (λ st. (picture p x st).word) at.1)

  pub closed : (x : ℕ) (d : Closing) → seat.task ≡ Closes x d → (x < size p.tree) × ((c : ℕ) × (how : How) × (g x ≡ ClosedBy 0 c d how))
  closed x d e = subst (TaskOk p g 0) e ours.task

  -- where the hand is known too
  pub at_both : (t : Task) (hand : Option Hand) → seat.task ≡ t → seat.hand ≡ hand → Goes p replies s.statuses s.counters s.locks t hand
  at_both t hand e is_hand = subst (λ y. Goes p replies s.statuses s.counters s.locks t y) is_hand (at_task p replies s seat one kept r t e)

  -- a worker that is at a node that may hold nodes has no factory in hand
  pub no_hand : (x : ℕ) (t : Task) → seat.task ≡ t → is_about t x ≡ true → (sort_of p.tree x ≡ Leaf → ⊥) → seat.hand ≡ None
  no_hand x t e about grown = go seat.hand (at_task p replies s seat one kept r t e).in_hand
    where
      go : (hand : Option Hand) → HandGo p replies s.statuses t hand → hand ≡ None
      go None old = refl
      go (Some hand) old = absurd (grown (core.plan.spare_leaf x (old.about x about).1))

  -- a counter is what the stage's guard is, and what is owed
  pub counted : (n : ℕ) (t : Task) → seat.task ≡ t → n < size p.tree → (picture p n (g n)).guard ≡ 1 → counter_at s n ≡ suc (count_below (owes p s.statuses t n) (size p.tree))
  counted n t e lt guard =
      let o = h.counters n lt in
      let k : count_below (owes p s.statuses t n) (size p.tree) ≡ pending p g n = ap (λ t. count_below (owes p s.statuses t n) (size p.tree)) (sym e) ∙ owes_is p replies s g h seat one n in
      omega (arith, o, k, guard)

  pub counters_in : (n : ℕ) → n < size p.tree → n < length s.counters
  counters_in n lt = (let len = h.counters_len in omega (arith, len, lt))

  module _ (plan : IsPlan p) where
    -- a spare that was registered is offered
    admit_spare : (c : ℕ) → seat.task ≡ Opens c Offering → IsStep p replies s seat r Admit
    admit_spare c e = record {
      next = offers s 0 (record { task = Free; hand = waits_for p c seat.hand }) c (offered_to p 0 c);
      is = ap (admit_row p s 0 seat) e;
      seat2 = record { task = Free; hand = waits_for p c seat.hand };
      one2 = seats_go p replies s seat one kept r (record { task = Free; hand = waits_for p c seat.hand });
      goes2 = offering_goes p core replies s.statuses s.counters s.locks seat.hand h.statuses_len c (opened c Offering e).0 (opened_word c Offering e) (at_task p replies s seat one kept r (Opens c Offering) e);
    }

    -- the start of a node is shown
    show_start : (x i : ℕ) → seat.task ≡ Opens x (StartedAt i) → IsStep p replies s seat r Show
    show_start x i e = record {
      next = shows s 0 (after_start p seat x) i;
      is = ap (show_row p s 0 seat) e;
      seat2 = after_start p seat x;
      one2 = seats_go p replies s seat one kept r (after_start p seat x);
      goes2 = by_cond (λ (y : Seat). Goes p replies s.statuses s.counters s.locks y.task y.hand) (pulls_job p x) (record { task = Free; hand = Some (record { factory = x; registered = 0; waiting = None }) }) (with_task seat (Opens x Awaiting))
          (λ pulls. (let maker = maker_is (sort_of p.tree x) (body_of p.tree x) (sym (pulls_sort p core.plan x) ∙ pulls) in
          in_hand_goes p core replies s.statuses s.locks x 0 i s.counters (opened_word x (StartedAt i) e) (λ c ch. core.makers x c ch maker)
          (at_both (Opens x (StartedAt i)) None e (no_hand x (Opens x (StartedAt i)) e (eq-eqb x x refl) (λ leaf. maker_leaf (sym maker ∙ leaf))))))
          (λ _. opening_turn p replies s seat one kept r x (StartedAt i) Awaiting s.locks e refl (λ c lt b z. tt) tt refl);
    }

    -- a child is offered
    admit_child : (x c : ℕ) → seat.task ≡ Opens x (Admitting c) → IsStep p replies s seat r Admit
    admit_child x c e =
        let at = opened x (Admitting c) e in
        let ok : ShapeOk p replies s.published x (OpenedBy 0 (Admitting c)) = subst (ShapeOk p replies s.published x) at.1 (h.shapes x at.0) in
        let ch : IsChild p.tree x c = is_child_test p.tree x c ok.1 (and_parts (is_child p.tree x c) _ ok.2).0 in
        let so : RunsSo p x c 0 c (g c) = subst (λ st. Fits p (picture p x st).below x c (g c)) at.1 (h.edges x c ch) in
        let unseen : g c ≡ Unseen = unseen_is (g c) (so.rest ok.2 (omega arith)) in
        record {
          next = offers s 0 (with_task seat (Opens x (admit_from p x (suc c)))) c (offered_to p 0 c);
          is = ap (admit_row p s 0 seat) e;
          seat2 = with_task seat (Opens x (admit_from p x (suc c)));
          one2 = seats_go p replies s seat one kept r (with_task seat (Opens x (admit_from p x (suc c))));
          goes2 = admit_child_goes p core replies s.statuses s.counters s.locks seat.hand h.statuses_len x c ok.1 (h.words c ok.1 ∙ ap (λ st. (picture p c st).word) unseen) ok.2 (at_task p replies s seat one kept r (Opens x (Admitting c)) e);
        }

    -- a node gives up its guard
    give_guard : (x : ℕ) → seat.task ≡ Opens x Guarding → IsStep p replies s seat r Done
    give_guard x e =
        let at = opened x Guarding e in
        let none = no_hand x (Opens x Guarding) e (eq-eqb x x refl) (at_task p replies s seat one kept r (Opens x Guarding) e).keys in
        record {
          next = guard_given p s 0 seat.hand x Successful;
          is = ap (done_row p s 0 seat r) e;
          seat2 = record { task = ends_or_free p x Successful (counter_at s x); hand = seat.hand };
          one2 = seats_go p replies s seat one kept r (record { task = ends_or_free p x Successful (counter_at s x); hand = seat.hand });
          goes2 = subst (λ y. Goes p replies s.statuses (set s.counters x (counter_at s x - 1)) s.locks (ends_or_free p x Successful (counter_at s x)) y) (sym none)
              (guard_goes_on p core replies s.statuses s.locks x 0 s.counters Successful (opened_word x Guarding e) (counters_in x at.0) (counted x (Opens x Guarding) e at.0 (ap (λ st. (picture p x st).guard) at.1)) (at_both (Opens x Guarding) None e none));
        }

    -- The step of a task that opens a node.
    pub opening_step : (x : ℕ) (d : Opening) → seat.task ≡ Opens x d → is_asking seat.task ≡ false → IsStep p replies s seat r (opening_action d)
    opening_step x Registering e asks = draw_registers_goes p replies s seat one kept r x e
    opening_step x (RegisteredAt i) e asks = show_registered_goes p replies s seat one kept r x i e
    opening_step x Offering e asks = admit_spare x e
    opening_step x Noticing e asks = notice_goes p replies s seat one kept r x e
    opening_step x (Locking i) e asks = weigh_goes p replies s seat one kept r x i e (key_free p core replies s g h seat one kept plan x i e)
    opening_step x (Weighed i v) e asks =
        let at = opened x (Weighed i v) e in
        let ok : ShapeOk p replies s.published x (OpenedBy 0 (Weighed i v)) = subst (ShapeOk p replies s.published x) at.1 (h.shapes x at.0) in
        take_goes p replies s seat one kept r x i v e (key_inside p plan x i ok.0)
    opening_step x (Backing zero) e asks = absurd (at_task p replies s seat one kept r (Opens x (Backing zero)) e).keys
    opening_step x (Backing (suc i)) e asks = absurd (at_task p replies s seat one kept r (Opens x (Backing (suc i))) e).keys
    opening_step x (Beginning skip) e asks = draw_begins_goes p replies s seat one kept r x skip e
    opening_step x (StartedAt i) e asks = show_start x i e
    opening_step x Awaiting e asks = absurd (false≢true (sym asks ∙ ap is_asking e))
    opening_step x (Admitting c) e asks = admit_child x c e
    opening_step x Guarding e asks = give_guard x e

    -- a node is settled
    settle_step : (x : ℕ) → seat.task ≡ Closes x Settling → IsStep p replies s seat r Settle
    settle_step zero e =
        let at = closed zero Settling e in
        record {
          next = record s { statuses = slice_set s.statuses 0 Settled; seats = goes_to s 0 (record { task = Free; hand = waits_no_more 0 seat.hand }) };
          is = ap (settle_row p s 0 seat) e;
          seat2 = record { task = Free; hand = waits_no_more 0 seat.hand };
          one2 = seats_go p replies s seat one kept r (record { task = Free; hand = waits_no_more 0 seat.hand });
          goes2 = settle_goes p core replies s.statuses s.counters s.locks seat.hand h.statuses_len 0 at.1.0 Free at.0 (h.words 0 at.0 ∙ ap (λ st. (picture p 0 st).word) at.1.2) (at_task p replies s seat one kept r (Closes 0 Settling) e)
              (λ c pos. sym (ne_eqb 0 c (λ z. omega (arith, z, pos)))) (λ n q. absurd (false≢true q)) refl tt (λ b next. absurd (let pos = next.elder.elder.above_zero in omega (arith, pos)));
        }
    settle_step (suc n) e =
        let at = closed (suc n) Settling e in
        record {
          next = record s { statuses = slice_set s.statuses (suc n) Settled; seats = goes_to s 0 (record { task = after_settle p (suc n); hand = waits_no_more (suc n) seat.hand }) };
          is = ap (settle_row p s 0 seat) e;
          seat2 = record { task = after_settle p (suc n); hand = waits_no_more (suc n) seat.hand };
          one2 = seats_go p replies s seat one kept r (record { task = after_settle p (suc n); hand = waits_no_more (suc n) seat.hand });
          goes2 = settle_goes p core replies s.statuses s.counters s.locks seat.hand h.statuses_len (suc n) at.1.0 (after_settle p (suc n)) at.0 (h.words (suc n) at.0 ∙ ap (λ st. (picture p (suc n) st).word) at.1.2) (at_task p replies s seat one kept r (Closes (suc n) Settling) e)
              (λ c pos. refl) (λ n q. q) refl keys (λ b next. (refl, passes b next));
        }
      where
        keys : KeysGo p s.locks (after_settle p (suc n))
        keys = by_cond (λ d. KeysGo p s.locks (Closes (suc n) d)) (is_same p (suc n) && not (is_spare_at p.tree (suc n))) (pass_to (first_from (is_same_sibling p (suc n)) (suc (suc n)) (size p.tree))) CountingOff (λ _. by_found (first_from (is_same_sibling p (suc n)) (suc (suc n)) (size p.tree))) (λ _. tt)
          where
            by_found : (found : Option ℕ) → KeysGo p s.locks (Closes (suc n) (pass_to found))
            by_found None = tt
            by_found (Some m) = tt

        passes : (b : ℕ) → IsNextSame p (suc n) b → ClosingPasses (cond (is_same p (suc n) && not (is_spare_at p.tree (suc n))) (pass_to (first_from (is_same_sibling p (suc n)) (suc (suc n)) (size p.tree))) CountingOff)
        passes b next =
            by_cond ClosingPasses (is_same p (suc n) && not (is_spare_at p.tree (suc n))) (pass_to (first_from (is_same_sibling p (suc n)) (suc (suc n)) (size p.tree))) CountingOff
            (λ _. by_found (first_from (is_same_sibling p (suc n)) (suc (suc n)) (size p.tree)) refl) (λ not'. both_ways (is_same p (suc n) && not (is_spare_at p.tree (suc n))) not' (and_from (is_same p (suc n)) (not (is_spare_at p.tree (suc n))) next.same (ap not next.plain)))
          where
            by_found : (found : Option ℕ) → first_from (is_same_sibling p (suc n)) (suc (suc n)) (size p.tree) ≡ found → ClosingPasses (pass_to found)
            by_found (Some m) f = tt
            by_found None f =
                let low : suc n < b = next.elder.before in
                let ch : IsChild p.tree (parent_of p.tree (suc n)) b = subst (λ k. IsChild p.tree k b) (sym next.elder.elder.parent) next.elder.younger in
                both_ways (is_same_sibling p (suc n) b) (first_none (is_same_sibling p (suc n)) (suc (suc n)) (size p.tree) f b (omega (arith, low)) ch.inside)
                (and_from (is_child p.tree (parent_of p.tree (suc n)) b) _ (test_is_child p.tree (parent_of p.tree (suc n)) b ch) (and_from (is_same p b) (not (is_spare_at p.tree b)) next.next_same (ap not next.next_plain)))

    -- a child is counted off
    count_off : (x : ℕ) → seat.task ≡ Closes x CountingOff → IsStep p replies s seat r Done
    count_off x e = record {
      next = counted_off p s 0 seat a;
      is = ap (done_row p s 0 seat r) e;
      seat2 = with_task seat (ends_or_free p a (result_at s a) (counter_at s a));
      one2 = seats_go p replies s seat one kept r (with_task seat (ends_or_free p a (result_at s a) (counter_at s a)));
      goes2 = off_goes p core replies s.statuses s.locks x a up.0 s.counters seat.hand ch (core.plan.rooted.up x ch.above_zero at.0) settled up.2.1 (counters_in a (parent_inside p core.plan a x ch)) old (result_at s a) last;
    }
      where
        a : ℕ
        a = parent_of p.tree x

        at : (x < size p.tree) × ((c : ℕ) × (how : How) × (g x ≡ ClosedBy 0 c CountingOff how))
        at = closed x CountingOff e

        ch : IsChild p.tree a x
        ch = record { above_zero = subst (ShapeOk p replies s.published x) at.1.2 (h.shapes x at.0); inside = at.0; parent = refl }

        old : Goes p replies s.statuses s.counters s.locks (Closes x CountingOff) seat.hand
        old = at_task p replies s seat one kept r (Closes x CountingOff) e

        settled : status_at s x ≡ Settled
        settled = h.words x at.0 ∙ ap (λ st. (picture p x st).word) at.1.2

        up : (o from : ℕ) × (((picture p a (g a)).below ≡ Runs o from) × (status_at s a ≡ Claimed o))
        up = parent_runs p core replies s g h a x ch (ap is_live at.1.2)

        -- a factory in hand has its guard besides
        last : counter_at s a ≡ 1 → seat.hand ≡ None
        last is_one = go seat.hand ours.hand old.in_hand
          where
            go : (hand : Option Hand) → HandOk p g s.published 0 hand → HandGo p replies s.statuses (Closes x CountingOff) hand → hand ≡ None
            go None ok going = refl
            go (Some hand) ok going =
                let in_hand : g a ≡ InHand 0 = ap g (going.about x (eq-eqb x x refl)).0 ∙ ok.at in
                let k = counted a (Closes x CountingOff) e (parent_inside p core.plan a x ch) (ap (λ st. (picture p a st).guard) in_hand) in
                let some = count_some (owes p s.statuses (Closes x CountingOff) a) (size p.tree) x at.0 (and_from (is_child p.tree a x) _ (test_is_child p.tree a x ch) (ap (λ v. owed (is_spare_at p.tree x) v (x == x)) settled ∙ eq-eqb x x refl)) in
                absurd (omega (arith, k, some, is_one))

    -- the next sibling is offered
    pass_on : (x m o : ℕ) → seat.task ≡ Closes x (Passing m o) → IsStep p replies s seat r Admit
    pass_on x m o e =
        let at = closed x (Passing m o) e in
        let next : IsNextSame p x m = subst (ShapeOk p replies s.published x) at.1.2 (h.shapes x at.0) in
        let first_goes : goes_first p x m ≡ true = and_from (is_same p x) _ next.same (or_left (is_same p m) _ next.next_same) in
        let unseen : g m ≡ Unseen = elim (cases_Bool (is_unseen (g m))) [
          | inl q ↦ unseen_is (g m) q
          | inr q ↦ absurd (both_ways (is_past (g x)) (ap is_past at.1.2) (h.elders x m next.elder first_goes q))
        ] in
        let ch = next.elder.elder in
        let a = next.elder.parent in
        let up = parent_runs p core replies s g h a x ch (ap is_live at.1.2) in
        let fits : Fits p (picture p a (g a)).below a x (ClosedBy 0 at.1.0 (Passing m o) at.1.1) = subst (λ st. Fits p (picture p a (g a)).below a x st) at.1.2 (h.edges a x ch) in
        record {
          next = offers s 0 (with_task seat (Closes x CountingOff)) m (Some o);
          is = ap (admit_row p s 0 seat) e;
          seat2 = with_task seat (Closes x CountingOff);
          one2 = seats_go p replies s seat one kept r (with_task seat (Closes x CountingOff));
          goes2 = passing_goes p core replies s.statuses s.counters s.locks seat.hand h.statuses_len x m o (h.words m next.elder.younger.inside ∙ ap (λ st. (picture p m st).word) unseen) next (eqb-true o up.0 (passes_own p (picture p a (g a)).below a x o up.0 up.1 m at.1.0 at.1.1 up.2.0 next.same fits) ∙ kept.words.claimed a up.0 up.2.1) (at_task p replies s seat one kept r (Closes x (Passing m o)) e);
        }

    -- The step of a task that closes a node.
    pub closing_step : (x : ℕ) (d : Closing) → seat.task ≡ Closes x d → is_asking seat.task ≡ false → IsStep p replies s seat r (closing_action d)
    closing_step x AwaitingAfter e asks = absurd (false≢true (sym asks ∙ ap is_asking e))
    closing_step x (Ending status) e asks = draw_ends_goes p replies s seat one kept r x status e
    closing_step x (FinishedAt i status) e asks = show_finished_goes p replies s seat one kept r x i status e
    closing_step x (SkippedAt i) e asks = show_skipped_goes p replies s seat one kept r x i e
    closing_step x Raising e asks = raise_goes p replies s seat one kept r x e
    closing_step x (Giving i) e asks = give_goes p replies s seat one kept r x i e (λ j lt. key_inside p plan x j lt)
    closing_step x Settling e asks = settle_step x e
    closing_step x (Looking m) e asks =
        let at = closed x (Looking m) e in
        let next : IsNextSame p x m = subst (ShapeOk p replies s.published x) at.1.2 (h.shapes x at.0) in
        let ch : IsChild p.tree (parent_of p.tree x) x = record { above_zero = next.elder.elder.above_zero; inside = at.0; parent = refl } in
        let up = parent_runs p core replies s g h (parent_of p.tree x) x ch (ap is_live at.1.2) in
        look_goes p replies s seat one kept r x m up.0 (parent_of p.tree x) e refl up.2.1
    closing_step x (Passing m o) e asks = pass_on x m o e
    closing_step x CountingOff e asks = count_off x e
