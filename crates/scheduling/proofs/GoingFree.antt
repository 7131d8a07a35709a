-- The fixed schedule: the step of a worker that is free, by the open nodes or by the factory in its hand.
use Rattle.std.specs.Option.{is_some}
use Rattle.std.proofs.Common.{◌≡◌, ℕ, zero, suc, ◌+◌, ◌<◌, ◌≤◌, Bool, true, false, ◌&&◌, ◌==◌, nat_lt, List, [], ◌∷◌, set, Option, Some, None, slice_get, slice_set, inl, inr, refl, sym, ap, ◌∙◌, subst, arith}
use Rattle.std.proofs.lemmas.Option.{same_Some, none-some}
use Rattle.std.proofs.lemmas.Bool.{lt-ltb, cases_lt, cases_Bool, false≢true, both_ways, and_parts, and_from, or_left, or_right, eqb-true, eq-eqb, ltb-true, ltb-false, cond-true}
use Rattle.descriptor.specs.Nodes.{Nodes, size, parent_of, IsTree, IsChild, is_child, is_spare_at, body_of, count_below, bit}
use Rattle.plan_events.specs.declared.outcome.Reply.{Reply}
use Rattle.plan_events.specs.declared.event.Event.{Event}
use Rattle.plan_events.specs.declared.event.EventKind.TheVariants.{Registered}
use Rattle.resource_locks.specs.Plans.{PlanParts}
use Rattle.event_history.specs.Expected.{HasOneReply}
use Rattle.event_history.specs.Inside.Following.{registered_in}
use Rattle.event_history.specs.Places.{has}
use Rattle.event_history.specs.Plans.{sort_of, is_spare_of, spare_count, rank}
use Rattle.event_history.proofs.Counting.{count_le}
use Rattle.event_history.proofs.Spares.{is_maker, pulls_sort}
use Rattle.event_history.proofs.Trees.{is_child_test}
use Rattle.scheduling.specs.declared.status.NodeStatus.{NodeStatus}
use Rattle.scheduling.specs.declared.status.NodeStatus.TheVariants.{Hidden, Ready, Claimed, Settled}
use Rattle.scheduling.specs.declared.task.Opening.TheVariants.{Registering}
use Rattle.scheduling.specs.declared.task.Task.TheVariants.{Free, Opens}
use Rattle.scheduling.specs.declared.seat.Hand.{Hand}
use Rattle.scheduling.specs.declared.seat.Seat.{Seat}
use Rattle.scheduling.specs.State.{State, status_at, counter_at}
use Rattle.scheduling.specs.Choices.{claims, is_spare_ranked, next_spare, is_pulled, pulled_result}
use Rattle.scheduling.specs.declared.step.Action.{Action}
use Rattle.scheduling.specs.declared.step.Action.TheVariants.{Own, AddChild, Done}
use Rattle.scheduling.specs.Rows.{with_task, goes_to, is_free, is_empty, is_of_hand, is_ready_for, claimed, guard_given, done_by_hand, done_hand, done_row, ends_or_free, child_added, add_by_hand, add_child_hand, add_child_row}
use Rattle.scheduling.specs.Schedule.{is_open, IsFirstOpen, taking, may_add, action_waiting, IsNextFree}
use Rattle.scheduling.specs.Inside.Stages.{Stage, Unseen, Offered, OpenedBy, InHand, Waiting, ClosedBy, Over, picture, is_live}
use Rattle.scheduling.specs.Inside.Invariant.{IsCorePlan, ShapeOk, HandOk, IsInHand, Holds}
use Rattle.scheduling.specs.Inside.Going.{IsAtWork, Goes}
use Rattle.scheduling.proofs.Basics.{first_some, first_none}
use Rattle.scheduling.proofs.RowsOne.{by_cond}
use Rattle.scheduling.proofs.GoingBasics.{hidden_ready, ready_settled, seat_ok}
use Rattle.scheduling.proofs.GoingMoves.{word_here}
use Rattle.scheduling.proofs.GoingTurns.{IsStep, claims_calm, seats_go}
use Rattle.scheduling.proofs.GoingWords.{word_inside, claim_goes}
use Rattle.scheduling.proofs.GoingCounts.{hand_goes_on, add_goes}
use Rattle.scheduling.proofs.GoingWalk.{elders_settled}
use Rattle.scheduling.proofs.GoingLocks.{parent_runs}
use Rattle.scheduling.proofs.GoingRows.{at_both, counted, counters_in}

-- an offered node is live
ready_live : (p : PlanParts) (n : ℕ) (st : Stage) (o : Option ℕ) → (picture p n st).word ≡ Ready o → is_live st ≡ true
ready_live p n Unseen o q = absurd (hidden_ready o (sym q))
ready_live p n (Offered o2) o q = refl
ready_live p n (OpenedBy v d) o q = refl
ready_live p n (InHand v) o q = refl
ready_live p n (Waiting c r) o q = refl
ready_live p n (ClosedBy v c d how) o q = refl
ready_live p n (Over how) o q = absurd (ready_settled o (sym q))

-- of more than k numbers that pass there is one before which k pass
one_ranked : (q : ℕ → Bool) (n k : ℕ) → k < count_below q n → (c : ℕ) × (c < n) × (q c ≡ true) × (count_below q c ≡ k)
one_ranked q zero k lt = absurd (omega (arith, lt))
one_ranked q (suc n) k lt =
    elim (cases_lt k (count_below q n)) [
      | inl less ↦ (let r = one_ranked q n k less in let inside : r.0 < n = r.1 in (r.0, omega (arith, inside), r.2, r.3))
      | inr ge ↦ elim (cases_Bool (q n)) [
        | inl y ↦ (n, omega arith, y, (let one : bit (q n) ≡ 1 = ap bit y in omega (arith, lt, ge, one)))
        | inr no' ↦ absurd (let none : bit (q n) ≡ 0 = ap bit no' in omega (arith, lt, ge, none))
      ]
    ]

pub none_ranked : (p : PlanParts) (f k : ℕ) → next_spare p f k ≡ None → k < spare_count p f → ⊥
none_ranked p f k none lt =
    let r = one_ranked (is_spare_of p f) (size p.tree) k lt in
    let c = r.0 in
    let ch : IsChild p.tree f c = is_child_test p.tree f c r.1 (and_parts (is_child p.tree f c) (is_spare_at p.tree c) r.2).0 in
    both_ways (is_spare_ranked p f k c) (first_none (is_spare_ranked p f k) 0 (size p.tree) none c (omega arith) r.1)
    (and_from (is_spare_of p f c) (rank p c == k) r.2 (eq-eqb (rank p c) k (ap (λ (x : ℕ). count_below (is_spare_of p x) c) ch.parent ∙ r.3)))

pub registered_most : (p : PlanParts) (h : List Event) (f : ℕ) → registered_in p h f ≤ spare_count p f
registered_most p h f = count_le (λ c. is_spare_of p f c && has Registered c h) (is_spare_of p f) (size p.tree) (λ m lt q. (and_parts (is_spare_of p f m) (has Registered m h) q).0)

pub none_some : (found : Option ℕ) → is_some found ≡ false → found ≡ None
none_some None q = refl
none_some (Some c) q = absurd (false≢true (sym q))

-- A factory that may add no more has all that it pulled.
pub pulled_whole : (p : PlanParts) (hand : Hand) (r : Reply) (h : List Event) → registered_in p h hand.factory ≡ hand.registered → hand.registered ≤ r.pulls → may_add p r hand ≡ false → is_pulled p hand.factory hand.registered r ≡ true
pulled_whole p hand r h count most no_more =
    elim (cases_Bool (nat_lt hand.registered r.pulls)) [
      | inl more ↦ or_right (r.pulls == hand.registered) _ (and_from (hand.registered == spare_count p hand.factory) _ (eq-eqb hand.registered (spare_count p hand.factory) (all more)) more)
      | inr less ↦ or_left (r.pulls == hand.registered) _ (eq-eqb r.pulls hand.registered (let ge = ltb-false hand.registered r.pulls less in omega (arith, ge, most)))
    ]
  where
    all : nat_lt hand.registered r.pulls ≡ true → hand.registered ≡ spare_count p hand.factory
    all more =
        let none : next_spare p hand.factory hand.registered ≡ None = none_some (next_spare p hand.factory hand.registered) (elim (cases_Bool (is_some (next_spare p hand.factory hand.registered))) [
          | inl y ↦ absurd (both_ways (may_add p r hand) no_more (and_from (nat_lt hand.registered r.pulls) _ more y))
          | inr no' ↦ no'
        ]) in
        let few = registered_most p h hand.factory in
        elim (cases_lt hand.registered (spare_count p hand.factory)) [
          | inl lt ↦ absurd (none_ranked p hand.factory hand.registered none lt)
          | inr ge ↦ omega (arith, ge, few, count)
        ]

-- the plan's node is no spare
pub spare_above : (t : Nodes) (c : ℕ) → is_spare_at t c ≡ true → nat_lt 0 c ≡ true
spare_above t zero q = absurd (false≢true q)
spare_above t (suc c) q = lt-ltb 0 (suc c) (omega arith)

module _ (p : PlanParts) (core : IsCorePlan p) (tree : IsTree p.tree) (reply : ℕ → Reply) (replies : ℕ → List Reply) (one_reply : HasOneReply reply replies) where
  same_reply : (job i : ℕ) (r : Reply) → slice_get (replies job) i ≡ Some r → r ≡ reply job
  same_reply job i r q = go i (ap (λ l. slice_get l i) (sym (one_reply job)) ∙ q)
    where
      go : (i : ℕ) → slice_get (reply job ∷ []) i ≡ Some r → r ≡ reply job
      go zero q = sym (same_Some (reply job) r q)
      go (suc i) q = absurd (none-some r q)

  module _ (s : State) (g : ℕ → Stage) (h : Holds p replies s g) (seat : Seat) (one : s.seats ≡ seat ∷ []) (kept : Goes p replies s.statuses s.counters s.locks seat.task seat.hand) (r : Reply) (free : seat.task ≡ Free) where
    -- claim and own, with no factory in hand
    claim_here : (n : ℕ) (o : Option ℕ) → seat.hand ≡ None → IsFirstOpen s n → status_at s n ≡ Ready o → Goes p replies (set s.statuses n (Claimed 0)) s.counters s.locks (Opens n (claims p n)) seat.hand
    claim_here n o empty first at =
        let old = at_both p core replies s g h seat one kept r Free None free empty in
        let len : n < size p.tree = (let lt = word_inside s.statuses n (λ q. hidden_ready o (sym at ∙ q)) in let same = h.statuses_len in omega (arith, lt, same)) in
        subst (λ y. Goes p replies (set s.statuses n (Claimed 0)) s.counters s.locks (Opens n (claims p n)) y) (sym empty)
        (claim_goes p core replies s.statuses s.counters s.locks None h.statuses_len n o at old
        (λ a el plain. (let up = parent_runs p core replies s g h el.parent n el.younger (ready_live p n (g n) o (sym (h.words n len) ∙ at)) in
        elders_settled p core tree s.statuses s.counters old.words old.turns old.counts n el.parent up.0 (λ m lt. first.first m lt) el.younger up.2.1 plain a el)) tt)

    claim_first : (n : ℕ) → seat.hand ≡ None → IsFirstOpen s n → (v : NodeStatus) → status_at s n ≡ v → is_open v ≡ true → IsStep p replies s seat r (taking v n)
    claim_first n empty first (Ready None) at is_open = record {
      next = claimed p s 0 seat n;
      is = cond-true (is_free seat.task && (is_empty seat.hand && is_ready_for None (status_at s n))) (Some (claimed p s 0 seat n)) None
          (and_from (is_free seat.task) _ (ap is_free free) (and_from (is_empty seat.hand) _ (ap is_empty empty) (ap (is_ready_for None) at)));
      seat2 = with_task seat (Opens n (claims p n));
      one2 = seats_go p replies s seat one kept r (with_task seat (Opens n (claims p n)));
      goes2 = claim_here n None empty first at;
    }
    claim_first n empty first (Ready (Some w)) at is_open = record {
      next = claimed p s 0 seat n;
      is = cond-true (is_free seat.task && (is_of_hand p seat.hand n && is_ready_for (Some 0) (status_at s n))) (Some (claimed p s 0 seat n)) None
          (and_from (is_free seat.task) _ (ap is_free free) (and_from (is_of_hand p seat.hand n) _ (ap (λ y. is_of_hand p y n) empty) (ap (is_ready_for (Some 0)) at ∙ is_open)));
      seat2 = with_task seat (Opens n (claims p n));
      one2 = seats_go p replies s seat one kept r (with_task seat (Opens n (claims p n)));
      goes2 = claim_here n (Some w) empty first at;
    }
    claim_first n empty first Hidden at is_open = absurd (false≢true is_open)
    claim_first n empty first (Claimed w) at is_open = absurd (false≢true is_open)
    claim_first n empty first Settled at is_open = absurd (false≢true is_open)

    -- with a factory in hand
    module _ (hand : Hand) (is_hand : seat.hand ≡ Some hand) (replied : (job : ℕ) → body_of p.tree hand.factory ≡ Some job → r ≡ reply job) where
      old : Goes p replies s.statuses s.counters s.locks Free (Some hand)
      old = at_both p core replies s g h seat one kept r Free (Some hand) free is_hand

      in_hand : IsInHand p g s.published 0 hand
      in_hand = subst (HandOk p g s.published 0) is_hand (seat_ok p replies s g h seat one).hand

      maker : (job : ℕ) × (body_of p.tree hand.factory ≡ Some job)
      maker = go (body_of p.tree hand.factory) refl (sym (pulls_sort p core.plan hand.factory) ∙ subst (ShapeOk p replies s.published hand.factory) in_hand.at (h.shapes hand.factory in_hand.inside))
        where
          go : (body : Option ℕ) → body_of p.tree hand.factory ≡ body → (is_maker (sort_of p.tree hand.factory) && is_some (body_of p.tree hand.factory)) ≡ true → (job : ℕ) × (body_of p.tree hand.factory ≡ Some job)
          go (Some job) at q = (job, at)
          go None at q = absurd (false≢true (sym (ap is_some at) ∙ (and_parts (is_maker (sort_of p.tree hand.factory)) (is_some (body_of p.tree hand.factory)) q).1))

      -- the spare that is waited for
      own_waited : (c : ℕ) → hand.waiting ≡ Some c → IsStep p replies s seat r (Own c)
      own_waited c waits = (let w = old.in_hand.waits c waits in at_work w.0 w.1 w.2)
        where
          at_work : parent_of p.tree c ≡ hand.factory → is_spare_at p.tree c ≡ true → IsAtWork s.statuses Free c → IsStep p replies s seat r (Own c)
          at_work par spare (inr z) = absurd (false≢true z.2)
          at_work par spare (inl z) =
              let calm = claims_calm p c in
              let inside = word_inside s.statuses c (λ q. hidden_ready (Some 0) (sym z.0 ∙ q)) in
              record {
                next = claimed p s 0 seat c;
                is = cond-true (is_free seat.task && (is_of_hand p seat.hand c && is_ready_for (Some 0) (status_at s c))) (Some (claimed p s 0 seat c)) None
                    (and_from (is_free seat.task) _ (ap is_free free) (and_from (is_of_hand p seat.hand c) _ (ap (λ y. is_of_hand p y c) is_hand ∙ and_from (nat_lt 0 c) (parent_of p.tree c == hand.factory) (spare_above p.tree c spare) (eq-eqb (parent_of p.tree c) hand.factory par)) (ap (is_ready_for (Some 0)) z.0)));
                seat2 = with_task seat (Opens c (claims p c));
                one2 = seats_go p replies s seat one kept r (with_task seat (Opens c (claims p c)));
                goes2 = subst (λ y. Goes p replies (set s.statuses c (Claimed 0)) s.counters s.locks (Opens c (claims p c)) y) (sym is_hand)
                    (claim_goes p core replies s.statuses s.counters s.locks (Some hand) h.statuses_len c (Some 0) z.0 old (λ a el plain. absurd (both_ways (is_spare_at p.tree c) plain spare))
                    (record {
                      about = λ n q. (let e = eqb-true c n q in (ap (parent_of p.tree) (sym e) ∙ par, ap (is_spare_at p.tree) (sym e) ∙ spare));
                      waits = λ n q. (let e : c ≡ n = same_Some c n (sym waits ∙ q) in (ap (parent_of p.tree) (sym e) ∙ par, ap (is_spare_at p.tree) (sym e) ∙ spare, inr (0, word_here s.statuses c n (Claimed 0) inside (sym e), eq-eqb c n e)));
                      pulls = old.in_hand.pulls;
                      more = λ q. absurd (both_ways _ calm.quiet q);
                    }));
              }

      -- the next spare
      add_next : hand.waiting ≡ None → nat_lt hand.registered r.pulls ≡ true → (c : ℕ) → next_spare p hand.factory hand.registered ≡ Some c → IsStep p replies s seat r AddChild
      add_next idle more c found =
          let first = first_some (is_spare_ranked p hand.factory hand.registered) 0 (size p.tree) c found in
          let parts = and_parts (is_spare_of p hand.factory c) (rank p c == hand.registered) first.passes in
          let both = and_parts (is_child p.tree hand.factory c) (is_spare_at p.tree c) parts.0 in
          record {
            next = record s { counters = slice_set s.counters hand.factory (counter_at s hand.factory + 1); seats = goes_to s 0 (with_task seat (Opens c Registering)) };
            is = ap (add_child_row p s 0 seat r) free ∙ ap (add_child_hand p s 0 seat r) is_hand ∙ ap (add_by_hand p s 0 seat r hand.factory hand.registered) idle
                ∙ cond-true (nat_lt hand.registered r.pulls) (child_added s 0 seat hand.factory (next_spare p hand.factory hand.registered)) None more ∙ ap (child_added s 0 seat hand.factory) found;
            seat2 = with_task seat (Opens c Registering);
            one2 = seats_go p replies s seat one kept r (with_task seat (Opens c Registering));
            goes2 = subst (λ y. Goes p replies s.statuses (set s.counters hand.factory (counter_at s hand.factory + 1)) s.locks (Opens c Registering) y) (sym is_hand)
                (add_goes p core replies s.statuses s.locks c hand s.counters (is_child_test p.tree hand.factory c first.high both.0) both.1 idle
                (λ job i other body stands. (let lt = ltb-true hand.registered r.pulls more in let same = ap (λ (x : Reply). x.pulls) (replied job body ∙ sym (same_reply job i other stands)) in omega (arith, lt, same))) old);
          }

      -- the factory is done
      pulled : may_add p r hand ≡ false → is_pulled p hand.factory hand.registered r ≡ true
      pulled =
          let most = old.in_hand.pulls maker.0 0 (reply maker.0) maker.1 (ap (λ l. slice_get l 0) (one_reply maker.0)) in
          let same = ap (λ (x : Reply). x.pulls) (replied maker.0 maker.1) in
          pulled_whole p hand r s.published in_hand.count (omega (arith, most, same))

      done_factory : hand.waiting ≡ None → may_add p r hand ≡ false → IsStep p replies s seat r Done
      done_factory idle no_more = record {
        next = guard_given p s 0 None hand.factory (pulled_result hand.registered r);
        is = ap (done_row p s 0 seat r) free ∙ ap (done_hand p s 0 r) is_hand ∙ ap (done_by_hand p s 0 r hand.factory hand.registered) idle
            ∙ cond-true (is_pulled p hand.factory hand.registered r) (Some (guard_given p s 0 None hand.factory (pulled_result hand.registered r))) None (pulled no_more);
        seat2 = record { task = ends_or_free p hand.factory (pulled_result hand.registered r) (counter_at s hand.factory); hand = None };
        one2 = seats_go p replies s seat one kept r (record { task = ends_or_free p hand.factory (pulled_result hand.registered r) (counter_at s hand.factory); hand = None });
        goes2 = hand_goes_on p core replies s.statuses s.locks hand.factory 0 hand.registered hand.waiting s.counters (pulled_result hand.registered r) (h.words hand.factory in_hand.inside ∙ ap (λ st. (picture p hand.factory st).word) in_hand.at)
            (counters_in p core replies s g h seat one kept r hand.factory in_hand.inside) (counted p core replies s g h seat one kept r hand.factory Free free in_hand.inside (ap (λ st. (picture p hand.factory st).guard) in_hand.at)) old;
      }

      by_waiting : (found : Option ℕ) → hand.waiting ≡ found → IsStep p replies s seat r (action_waiting p r hand found)
      by_waiting (Some c) waits = own_waited c waits
      by_waiting None idle =
          by_cond (IsStep p replies s seat r) (may_add p r hand) AddChild Done
          (λ may. (let parts = and_parts (nat_lt hand.registered r.pulls) (is_some (next_spare p hand.factory hand.registered)) may in by_found (next_spare p hand.factory hand.registered) refl parts.0 parts.1))
          (λ no_more. done_factory idle no_more)
        where
          by_found : (found : Option ℕ) → next_spare p hand.factory hand.registered ≡ found → nat_lt hand.registered r.pulls ≡ true → is_some found ≡ true → IsStep p replies s seat r AddChild
          by_found None f more some = absurd (false≢true some)
          by_found (Some c) f more some = add_next idle more c f

    -- The step of a free worker.
    pub free_step : (a : Action) → ((hand : Hand) (job : ℕ) → seat.hand ≡ Some hand → body_of p.tree hand.factory ≡ Some job → r ≡ reply job) → (hand : Option Hand) → seat.hand ≡ hand → IsNextFree p s r hand a → IsStep p replies s seat r a
    free_step a replied None is_hand next = subst (IsStep p replies s seat r) (sym next.2) (claim_first next.0 is_hand next.1 (status_at s next.0) refl next.1.open_here)
    free_step a replied (Some hand) is_hand next = subst (IsStep p replies s seat r) (sym next) (by_waiting hand is_hand (λ job body. replied hand job is_hand body) hand.waiting refl)
