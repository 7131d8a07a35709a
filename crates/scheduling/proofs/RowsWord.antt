-- Rows that change one node's status word: claim, own, give_up, settle, and the offer of a registered spare.
use Rattle.std.proofs.Common.{◌≡◌, ℕ, zero, suc, ◌+◌, ◌<◌, ◌≤◌, Bool, true, false, cond, ◌&&◌, ◌==◌, not, nat_lt, List, [], ◌∷◌, length, set, Option, Some, None, slice_get, slice_set, slice_index_or, ◌⊎◌, inl, inr, refl, sym, ap, ◌∙◌, subst, arith}
use Rattle.std.proofs.lemmas.Option.{same_Some, none-some}
use Rattle.std.proofs.lemmas.Bool.{cases_eq, cases_Bool, false≢true, both_ways, and_parts, and_from, eqb-true, ltb-true, ltb-false, cond-true, cond-false, eq-eqb, ne_eqb, lt-ltb, false_from_ne_true}
use Rattle.descriptor.specs.Nodes.{size, parent_of, IsChild, is_child, is_spare_at, is_disabled, bit}
use Rattle.plan_events.specs.declared.event.EventKind.TheVariants.{Started, Finished}
use Rattle.plan_events.specs.declared.event.Event.{Event}
use Rattle.plan_events.specs.declared.outcome.Reply.{Reply}
use Rattle.plan_events.specs.declared.status.Status.{Status}
use Rattle.plan_events.specs.declared.status.Status.TheVariants.{Successful}
use Rattle.event_history.specs.Places.{is_failure, same_kind, is_failed_or, has, has_event}
use Rattle.resource_locks.specs.Plans.{PlanParts}
use Rattle.event_history.specs.Plans.{IsPlanTree, IsElder, is_same, sort_of}
use Rattle.event_history.specs.History.{IsLegal}
use Rattle.event_history.proofs.Places.{finds, same_kind-true, has_at}
use Rattle.event_history.proofs.Branches.{below_root}
use Rattle.event_history.proofs.Trees.{is_child_test}
use Rattle.scheduling.specs.declared.status.NodeStatus.{NodeStatus}
use Rattle.scheduling.specs.declared.status.NodeStatus.TheVariants.{Hidden, Ready, Claimed, Settled}
use Rattle.scheduling.specs.declared.task.Opening.{Opening}
use Rattle.scheduling.specs.declared.task.Opening.TheVariants.{Offering, Noticing, Locking, Backing, Beginning}
use Rattle.scheduling.specs.declared.task.Closing.{Closing}
use Rattle.scheduling.specs.declared.task.Closing.TheVariants.{AwaitingAfter, Settling, Looking, CountingOff}
use Rattle.scheduling.specs.declared.task.Task.{Task}
use Rattle.scheduling.specs.declared.task.Task.TheVariants.{Free, Opens, Closes}
use Rattle.scheduling.specs.declared.seat.Hand.{Hand}
use Rattle.scheduling.specs.declared.seat.Seat.{Seat}
use Rattle.scheduling.specs.State.{State, status_at, subject}
use Rattle.scheduling.specs.Choices.{keys_count, lock_from, begins, notices, offered_to, after_settle, pass_to, first_from, is_same_sibling}
use Rattle.scheduling.specs.Rows.{with_task, goes_to, is_free, is_empty, is_of_hand, same_offer, is_ready_for, claimed, given_up, give_up_row, waits_for, waited_out, waits_no_more, settle_row, offers}
use Rattle.scheduling.specs.Inside.Stages.{How, Gave, Kept, Skips, Stage, Offered, OpenedBy, InHand, Waiting, ClosedBy, Over, Shut, Known, has_mark, picture, closing_picture, starter_by, mark_of, is_owned, is_offer_to, closing_past, is_unsettled, raises, is_bold, brings}
use Rattle.scheduling.specs.Inside.Invariant.{IsCorePlan, OpeningOk, ClosingOk, IsNextSame, Fits, TaskOk, HandOk, IsInHand, IsBrought, BringsOk, SeatOk, Holds, IsKept}
use Rattle.scheduling.proofs.Basics.{upd, upd_same, upd_other, upd_all, get_set_same, IsFirst, first_some}
use Rattle.scheduling.proofs.Parts.{StatusList, words_set, locks_keep, pending_elsewhere, QuitStep, quit_calm}
use Rattle.scheduling.proofs.Silent.{silent, alike, seat_goes}
use Rattle.scheduling.proofs.RowsOne.{by_cond, kept_some, still_about, same_shown}
use Rattle.event_history.specs.Failures.{known, up_to}
use Rattle.event_history.proofs.Failures.{known_none, known_up_to}

-- a node whose status says that it is ready is offered
same_offer-true : (a b : Option ℕ) → same_offer a b ≡ true → a ≡ b
same_offer-true None None q = refl
same_offer-true (Some a) (Some b) q = ap Some (eqb-true a b q)
same_offer-true None (Some b) q = absurd (false≢true q)
same_offer-true (Some a) None q = absurd (false≢true q)

ready_is : (p : PlanParts) (n : ℕ) (o : Option ℕ) (st : Stage) → is_ready_for o (picture p n st).word ≡ true → st ≡ Offered o
ready_is p n o (Offered to) q = ap Offered (same_offer-true to o q)
ready_is p n o (OpenedBy w (Beginning true)) q = absurd (false≢true q)
ready_is p n o (OpenedBy w (Beginning false)) q = absurd (false≢true q)
ready_is p n o (ClosedBy w c d Gave) q = absurd (closed d q)
  where
    closed : (d : Closing) → is_ready_for o (closing_picture p n c d Gave).word ≡ true → ⊥
    closed AwaitingAfter q = false≢true q
    closed (Looking m) q = false≢true q
    closed _ q = false≢true q
ready_is p n o (ClosedBy w c d Kept) q = absurd (closed d q)
  where
    closed : (d : Closing) → is_ready_for o (closing_picture p n c d Kept).word ≡ true → ⊥
    closed AwaitingAfter q = false≢true q
    closed (Looking m) q = false≢true q
    closed _ q = false≢true q
ready_is p n o (ClosedBy w c d Skips) q = absurd (closed d q)
  where
    closed : (d : Closing) → is_ready_for o (closing_picture p n c d Skips).word ≡ true → ⊥
    closed AwaitingAfter q = false≢true q
    closed (Looking m) q = false≢true q
    closed _ q = false≢true q
ready_is p n o _ q = absurd (false≢true q)

ready_inside : (o : Option ℕ) (l : List NodeStatus) (n : ℕ) → is_ready_for o (slice_index_or l n Hidden) ≡ true → n < length l
ready_inside o [] n q = absurd (false≢true q)
ready_inside o (x ∷ l) zero q = omega arith
ready_inside o (x ∷ l) (suc n) q = (let r = ready_inside o l n q in omega (arith, r))

pub ended_starter : (how : How) (word : NodeStatus) → starter_by (mark_of how) word ≡ None
ended_starter Gave word = refl
ended_starter Kept word = refl
ended_starter Skips word = refl

-- nobody knows of a failure where node 0 has not started
unstarted_quiet : (p : PlanParts) → IsPlanTree p.tree → (replies : ℕ → List Reply) (workers w : ℕ) (l : List Event) → IsLegal p replies workers l → has Started 0 l ≡ false → known w (up_to w l) ≡ 0
unstarted_quiet p plan replies workers w l legal unstarted =
    let none : has_event is_failure l ≡ false = false_from_ne_true (has_event is_failure l) (λ r.
    let f = finds is_failure l r in
    let kind = same_kind-true f.1.0.kind Finished (and_parts (same_kind f.1.0.kind Finished) (is_failed_or f.1.0.status) f.1.2).0 in
    elim (cases_eq f.1.0.node 0) [
      | inl z ↦ both_ways (has Started 0 l) unstarted (has_at (legal.after_start f.0 0 (record { event = f.1.0; here = f.1.1; kind = kind; node = z })).stands)
      | inr ne ↦ both_ways (has Started 0 l) unstarted (has_at (legal.start_above f.0 0 f.1.0 f.1.1 (below_root p plan f.1.0.node (omega (arith, ne)) (legal.nodes f.0 f.1.0 f.1.1))).stands)
    ]) in
    let part : known w (up_to w l) ≤ known w l = known_up_to w l in
    let zero' : known w l ≡ 0 = known_none w l none in
    omega (arith, part, zero')

module _ (p : PlanParts) (core : IsCorePlan p) (replies : ℕ → List Reply) (s : State) (g : ℕ → Stage) (h : Holds p replies s g) (w : ℕ) (seat : Seat) (is : slice_get s.seats w ≡ Some seat) where
  ours : SeatOk p g s.published w seat
  ours = h.seats w seat is

  -- the worker takes up a node that is offered
  take_up : (x : ℕ) (to : Option ℕ) (d : Opening) → seat.task ≡ Free → x < size p.tree → g x ≡ Offered to → (to ≡ None) ⊎ (to ≡ Some w) → (picture p x (OpenedBy w d)).word ≡ Claimed w → (picture p x (OpenedBy w d)).mark ≡ Known → (picture p x (OpenedBy w d)).keys ≡ 0 → (picture p x (OpenedBy w d)).below ≡ Shut → (picture p x (OpenedBy w d)).guard ≡ 1
      → brings d ≡ false → OpeningOk p replies s.published x d → QuitStep p s.published w Free (Opens x d) → IsKept p replies (record s { statuses = slice_set s.statuses x (Claimed w); seats = goes_to s w (with_task seat (Opens x d)) })
  take_up x to d e inside at who_for word mark keys below guard brought ok quit = (
    upd g x (OpenedBy w d),
    alike p core.plan replies s g h w seat is x (Offered to) (OpenedBy w d) (with_task seat (Opens x d)) (set s.statuses x (Claimed w)) s.locks s.cancel s.shown (record {
      inside = inside;
      at = at;
      alone = λ v q. absurd (none-some v q);
      still = λ n ne q. absurd (none-some n (sym (ap subject e) ∙ q));
      held = (with_task seat (Opens x d), get_set_same s.seats w (with_task seat (Opens x d)) seat is, refl);
      seat_ok = seat_goes p g s.published w seat x (Offered to) (OpenedBy w d) (Opens x d) ours at (λ q. offered_hand to w q) (λ q. refl) (inside, upd_same g x (OpenedBy w d) x refl) (λ b. absurd (both_ways (brings d) brought b)) (λ q. absurd (false≢true q))
          (subst (λ t. QuitStep p s.published w t (Opens x d)) (sym e) quit);
      statuses_ok = subst (λ v. StatusList p (set s.statuses x v) (upd g x (OpenedBy w d))) word (words_set p s.statuses g x (OpenedBy w d) (h.statuses_len, h.words));
      locks_ok = locks_keep p s.locks g x (Offered to) (OpenedBy w d) inside at (sym keys) h.locks;
      not_waiting = λ c r q. opened_waits w d c r q;
      mark = sym mark;
      same_starter = ap (λ m. starter_by m (picture p x (OpenedBy w d)).word) mark;
      guard = sym guard;
      same_below = sym below;
      pends = refl;
      live = refl;
      owned = λ c ch same o from r q. owned_so o to who_for q;
      raising = λ ff. ap (λ t. s.cancel + bit (raises t)) (sym e);
      shown_ok = same_shown p core replies s g h w seat is;
      shape = ok;
      past = λ q. absurd (false≢true q);
      quiet = λ z q. inl refl;
    }),
  )
    where
      offered_hand : (to : Option ℕ) (v : ℕ) → Offered to ≡ InHand v → ⊥
      offered_hand to v q = cc

      opened_waits : (w : ℕ) (d : Opening) (c : ℕ) (r : Status) → OpenedBy w d ≡ Waiting c r → ⊥
      opened_waits w d c r q = cc

      owned_so : (o : ℕ) (to : Option ℕ) → (to ≡ None) ⊎ (to ≡ Some w) → is_offer_to o to ≡ true → (w == o) ≡ true
      owned_so o None who_for q = absurd (false≢true q)
      owned_so o (Some v) (inl r) q = absurd (none-some v (sym r))
      owned_so o (Some v) (inr r) q = subst (λ (k : ℕ). (k == o) ≡ true) (same_Some v w r) q

  claimed_keeps : (x : ℕ) (to : Option ℕ) → seat.task ≡ Free → (to ≡ None) ⊎ (to ≡ Some w) → is_ready_for to (status_at s x) ≡ true → IsKept p replies (claimed p s w seat x)
  claimed_keeps x to e who_for ready =
      let len = h.statuses_len in
      let within = ready_inside to s.statuses x ready in
      go (omega (arith, len, within))
    where
      go : x < size p.tree → IsKept p replies (claimed p s w seat x)
      go inside =
          let at : g x ≡ Offered to = ready_is p x to (g x) (subst (λ v. is_ready_for to v ≡ true) (h.words x inside) ready) in
          let unstarted : has Started x s.published ≡ false = h.flags Started x inside ∙ ap (λ st. has_mark (is_spare_at p.tree x) Started (picture p x st).mark) at in
          let start : (d : Opening) → (picture p x (OpenedBy w d)).word ≡ Claimed w → (picture p x (OpenedBy w d)).mark ≡ Known → (picture p x (OpenedBy w d)).keys ≡ 0 → (picture p x (OpenedBy w d)).below ≡ Shut → (picture p x (OpenedBy w d)).guard ≡ 1
          → brings d ≡ false → OpeningOk p replies s.published x d → QuitStep p s.published w Free (Opens x d) → IsKept p replies (record s { statuses = slice_set s.statuses x (Claimed w); seats = goes_to s w (with_task seat (Opens x d)) })
          = λ d. take_up x to d e inside at who_for in
          by_cond (λ d. IsKept p replies (record s { statuses = slice_set s.statuses x (Claimed w); seats = goes_to s w (with_task seat (Opens x d)) })) (notices p x) Noticing (begins p x (is_disabled p.tree x))
          (λ n. (let a = and_parts p.fail_fast (nat_lt 0 x && not (is_disabled p.tree x)) n in let b = and_parts (nat_lt 0 x) (not (is_disabled p.tree x)) a.1 in
          start Noticing refl refl refl refl refl refl (a.0, ltb-true 0 x b.0, not_true (is_disabled p.tree x) b.1) (quit_calm p s.published w Free (Opens x Noticing) refl)))
          (λ n. by_cond (λ d. IsKept p replies (record s { statuses = slice_set s.statuses x (Claimed w); seats = goes_to s w (with_task seat (Opens x d)) })) (is_disabled p.tree x) (Beginning true) (lock_from p x 0)
          (λ dis. start (Beginning true) refl refl refl refl refl refl (disabled_above x dis, inl dis) (quit_calm p s.published w Free (Opens x (Beginning true)) refl))
          (λ en. (let quit : (d : Opening) → QuitStep p s.published w Free (Opens x d) = λ d ff old bold. (let none = root_quiet x ff n en unstarted in omega (arith, none)) in
          by_cond (λ d. IsKept p replies (record s { statuses = slice_set s.statuses x (Claimed w); seats = goes_to s w (with_task seat (Opens x d)) })) (nat_lt 0 (keys_count p x)) (Locking 0) (Beginning false)
          (λ k. start (Locking 0) refl refl refl refl refl refl (ltb-true 0 (keys_count p x) k, en) (quit (Locking 0)))
          (λ k. (let z = ltb-false 0 (keys_count p x) k in start (Beginning false) refl refl (omega (arith, z)) refl refl refl en (quit (Beginning false)))))))
        where
          not_true : (b : Bool) → not b ≡ true → b ≡ false
          not_true true q = absurd (false≢true q)
          not_true false q = refl

          disabled_above : (x : ℕ) → is_disabled p.tree x ≡ true → 0 < x
          disabled_above zero q = absurd (false≢true q)
          disabled_above (suc x) q = omega arith

          root_quiet : (x : ℕ) → p.fail_fast ≡ true → notices p x ≡ false → is_disabled p.tree x ≡ false → has Started x s.published ≡ false → known (w + 1) (up_to (w + 1) s.published) ≡ 0
          root_quiet zero ff n en un = unstarted_quiet p core.plan replies (length s.seats) (w + 1) s.published h.published.legal un
          root_quiet (suc x) ff n en un = absurd (both_ways (notices p (suc x)) n (and_from p.fail_fast _ ff (and_from (nat_lt 0 (suc x)) (not (is_disabled p.tree (suc x))) (lt-ltb 0 (suc x) (omega arith)) (ap not en))))

  pub claim_keeps : (x : ℕ) (t0 : Task) → seat.task ≡ t0 → (t : State) → cond (is_free t0 && (is_empty seat.hand && is_ready_for None (status_at s x))) (Some (claimed p s w seat x)) None ≡ Some t → IsKept p replies t
  claim_keeps x Free e t q =
      by_cond (λ o. o ≡ Some t → IsKept p replies t) (is_empty seat.hand && is_ready_for None (status_at s x)) (Some (claimed p s w seat x)) None
      (λ c. kept_some p replies (claimed p s w seat x) t (claimed_keeps x None e (inl refl) (and_parts (is_empty seat.hand) (is_ready_for None (status_at s x)) c).1)) (λ c r. absurd (none-some t r)) q
  claim_keeps x _ e t q = absurd (none-some t q)

  pub own_keeps : (x : ℕ) (t0 : Task) → seat.task ≡ t0 → (t : State) → cond (is_free t0 && (is_of_hand p seat.hand x && is_ready_for (Some w) (status_at s x))) (Some (claimed p s w seat x)) None ≡ Some t → IsKept p replies t
  own_keeps x Free e t q =
      by_cond (λ o. o ≡ Some t → IsKept p replies t) (is_of_hand p seat.hand x && is_ready_for (Some w) (status_at s x)) (Some (claimed p s w seat x)) None
      (λ c. kept_some p replies (claimed p s w seat x) t (claimed_keeps x (Some w) e (inr refl) (and_parts (is_of_hand p seat.hand x) (is_ready_for (Some w) (status_at s x)) c).1)) (λ c r. absurd (none-some t r)) q
  own_keeps x _ e t q = absurd (none-some t q)

  pub give_up_keeps : (t0 : Task) → seat.task ≡ t0 → (t : State) → give_up_row p s w seat t0 ≡ Some t → IsKept p replies t
  give_up_keeps (Opens x (Backing zero)) e t q = kept_some p replies (given_up p s w seat x) t (go x e) q
    where
      backs : (x : ℕ) (o : Option ℕ) → seat.task ≡ Opens x (Backing zero) → (0 < x → is_same p x ≡ true → o ≡ Some w) → IsKept p replies (record s { statuses = slice_set s.statuses x (Ready o); seats = goes_to s w (with_task seat Free) })
      backs x o e own =
          let task : TaskOk p g w (Opens x (Backing zero)) = subst (TaskOk p g w) e ours.task in (
            upd g x (Offered o),
            alike p core.plan replies s g h w seat is x (OpenedBy w (Backing zero)) (Offered o) (with_task seat Free) (set s.statuses x (Ready o)) s.locks s.cancel s.shown (record {
              inside = task.0;
              at = task.1;
              alone = λ v q. sym (same_Some w v q);
              still = still_about p core replies s g h w seat is x (ap subject e) Free;
              held = tt;
              seat_ok = seat_goes p g s.published w seat x (OpenedBy w (Backing zero)) (Offered o) Free ours task.1 (λ q. opened_hand w w q) (λ q. refl) tt tt (λ q. absurd (false≢true q))
                  (subst (λ t. QuitStep p s.published w t Free) (sym e) (quit_calm p s.published w (Opens x (Backing zero)) Free refl));
              statuses_ok = words_set p s.statuses g x (Offered o) (h.statuses_len, h.words);
              locks_ok = locks_keep p s.locks g x (OpenedBy w (Backing zero)) (Offered o) task.0 task.1 refl h.locks;
              not_waiting = λ c r q. offered_waits o c r q;
              mark = refl;
              same_starter = refl;
              guard = refl;
              same_below = refl;
              pends = refl;
              live = refl;
              owned = λ c ch same v from r q. subst (λ to. is_offer_to v to ≡ true) (sym (own ch.above_zero same)) q;
              raising = λ ff. ap (λ t. s.cancel + bit (raises t)) (sym e);
              shown_ok = same_shown p core replies s g h w seat is;
              shape = tt;
              past = λ q. q;
              quiet = λ z q. inl refl;
            }),
          )
        where
          opened_hand : (w v : ℕ) → OpenedBy w (Backing zero) ≡ InHand v → ⊥
          opened_hand w v q = cc

          offered_waits : (o : Option ℕ) (c : ℕ) (r : Status) → Offered o ≡ Waiting c r → ⊥
          offered_waits o c r q = cc

      go : (x : ℕ) → seat.task ≡ Opens x (Backing zero) → IsKept p replies (given_up p s w seat x)
      go zero e = backs zero None e (λ pos same. absurd (omega (arith, pos)))
      go (suc n) e = backs (suc n) (offered_to p w (suc n)) e (λ pos same. cond-true (is_same p (suc n)) (Some w) None same)
  give_up_keeps _ e t q = absurd (none-some t q)

  -- a registered spare is offered; a SAME_THREAD one is waited for
  pub offering_keeps : (x : ℕ) → seat.task ≡ Opens x Offering → IsKept p replies (offers s w (record { task = Free; hand = waits_for p x seat.hand }) x (offered_to p w x))
  offering_keeps x e =
      let task : TaskOk p g w (Opens x Offering) = subst (TaskOk p g w) e ours.task in
      let b : BringsOk p (Opens x Offering) seat.hand = subst (λ t. BringsOk p t seat.hand) e ours.brought in
      let brought : IsBrought p x Offering seat.hand = b refl in
      let hand : IsInHand p g s.published w brought.held = subst (HandOk p g s.published w) brought.is ours.hand in (
        upd g x (Offered (offered_to p w x)),
        alike p core.plan replies s g h w seat is x (OpenedBy w Offering) (Offered (offered_to p w x)) (record { task = Free; hand = waits_for p x seat.hand }) (set s.statuses x (Ready (offered_to p w x))) s.locks s.cancel s.shown (record {
          inside = task.0;
          at = task.1;
          alone = λ v q. sym (same_Some w v q);
          still = still_about p core replies s g h w seat is x (ap subject e) Free;
          held = tt;
          seat_ok = record {
            task = tt;
            hand = subst (λ k. HandOk p (upd g x (Offered (offered_to p w x))) s.published w (waits_for p x k)) (sym brought.is) (held_so brought.held task.1 hand brought.waits);
            brought = tt;
            failed = λ q. absurd (false≢true q);
            quits = λ ff bold. absurd (false≢true bold);
          };
          statuses_ok = words_set p s.statuses g x (Offered (offered_to p w x)) (h.statuses_len, h.words);
          locks_ok = locks_keep p s.locks g x (OpenedBy w Offering) (Offered (offered_to p w x)) task.0 task.1 refl h.locks;
          not_waiting = λ c r q. offered_waits (offered_to p w x) c r q;
          mark = refl;
          same_starter = refl;
          guard = refl;
          same_below = refl;
          pends = refl;
          live = refl;
          owned = λ c ch same v from r q. subst (λ to. is_offer_to v to ≡ true) (sym (cond-true (is_same p x) (Some w) None same)) q;
          raising = λ ff. ap (λ t. s.cancel + bit (raises t)) (sym e);
          shown_ok = same_shown p core replies s g h w seat is;
          shape = tt;
          past = λ q. q;
          quiet = λ z q. inr (ap g brought.parent ∙ hand.at);
        }),
      )
    where
      offered_waits : (o : Option ℕ) (c : ℕ) (r : Status) → Offered o ≡ Waiting c r → ⊥
      offered_waits o c r q = cc

      opened_hand : (w v : ℕ) → OpenedBy w Offering ≡ InHand v → ⊥
      opened_hand w v q = cc

      held_so : (held : Hand) → g x ≡ OpenedBy w Offering → IsInHand p g s.published w held → (held.waiting ≡ None) ⊎ (held.waiting ≡ Some x) → HandOk p (upd g x (Offered (offered_to p w x))) s.published w (waits_for p x (Some held))
      held_so held at old waits = record {
        inside = old.inside;
        at = upd_other g x (Offered (offered_to p w x)) held.factory (λ q. opened_hand w w (sym at ∙ ap g (sym q) ∙ old.at)) ∙ old.at;
        count = old.count;
        waits = λ c ch same unsettled. elim (cases_eq c x) [
          | inl q ↦ cond-true (is_same p x) (Some x) held.waiting (subst (λ k. is_same p k ≡ true) q (and_parts (is_spare_at p.tree c) (is_same p c) same).1) ∙ ap Some (sym q)
          | inr ne ↦ (let was = old.waits c ch same (ap is_unsettled (sym (upd_other g x (Offered (offered_to p w x)) c ne)) ∙ unsettled) in
              elim waits [ inl z ↦ absurd (none-some c (sym z ∙ was)) | inr z ↦ absurd (ne (same_Some c x (sym was ∙ z))) ])
        ];
      }

  -- settle: what the worker of a settled node does next
  hand_settles : (x : ℕ) (b : Stage) (hand : Option Hand) → (g x ≡ InHand w → ⊥) → is_unsettled b ≡ false → HandOk p g s.published w hand → HandOk p (upd g x b) s.published w (waits_no_more x hand)
  hand_settles x b None not' calm old = tt
  hand_settles x b (Some held) not' calm old = record {
    inside = old.inside;
    at = upd_other g x b held.factory (λ q. not' (ap g (sym q) ∙ old.at)) ∙ old.at;
    count = old.count;
    waits = λ c ch same unsettled. elim (cases_eq c x) [
      | inl q ↦ absurd (both_ways (is_unsettled (upd g x b c)) (ap is_unsettled (upd_same g x b c q) ∙ calm) unsettled)
      | inr ne ↦ (let was = old.waits c ch same (ap is_unsettled (sym (upd_other g x b c ne)) ∙ unsettled) in ap (waited_out x) was ∙ cond-false (c == x) None (Some c) (ne_eqb c x ne))
    ];
  }

  settle_seat : (x : ℕ) (b : Stage) (t2 : Task) → seat.task ≡ Closes x Settling → (g x ≡ InHand w → ⊥) → is_unsettled b ≡ false → TaskOk p (upd g x b) w t2 → BringsOk p t2 (waits_no_more x seat.hand) → raises t2 ≡ false → is_bold t2 ≡ false → SeatOk p (upd g x b) s.published w (record { task = t2; hand = waits_no_more x seat.hand })
  settle_seat x b t2 e not' calm task brought r bold = record {
    task = task;
    hand = hand_settles x b seat.hand not' calm ours.hand;
    brought = brought;
    failed = λ q. absurd (both_ways (raises t2) r q);
    quits = λ ff b. absurd (both_ways (is_bold t2) bold b);
  }

  settles : (x : ℕ) (d : Closing) → seat.task ≡ Closes x Settling → closing_past d ≡ true → ((c : ℕ) (how : How) → (picture p x (ClosedBy w c d how)).word ≡ Settled) → ((c : ℕ) (how : How) → (picture p x (ClosedBy w c Settling how)).mark ≡ (picture p x (ClosedBy w c d how)).mark)
      → ((c : ℕ) (how : How) → (picture p x (ClosedBy w c Settling how)).guard ≡ (picture p x (ClosedBy w c d how)).guard) → ((c : ℕ) (how : How) → (picture p x (ClosedBy w c Settling how)).below ≡ (picture p x (ClosedBy w c d how)).below) → ((c : ℕ) (how : How) → (picture p x (ClosedBy w c d how)).keys ≡ 0)
      → ((o c : ℕ) (how : How) → is_owned o (ClosedBy w c d how) ≡ true) → ((how : How) → ClosingOk p replies s.published x d how) → raises (Closes x d) ≡ false
      → IsKept p replies (record s { statuses = slice_set s.statuses x Settled; seats = goes_to s w (record { task = Closes x d; hand = waits_no_more x seat.hand }) })
  settles x d e past word mark guard below keys owned ok calm = (let task : TaskOk p g w (Closes x Settling) = subst (TaskOk p g w) e ours.task in go task.1.0 task.1.1 task.0 task.1.2)
    where
      closed_hand : (w c : ℕ) (d : Closing) (how : How) (v : ℕ) → ClosedBy w c d how ≡ InHand v → ⊥
      closed_hand w c d how v q = cc

      closed_waits : (w e : ℕ) (d : Closing) (how : How) (c : ℕ) (r : Status) → ClosedBy w e d how ≡ Waiting c r → ⊥
      closed_waits w e d how c r q = cc

      go : (c : ℕ) (how : How) → x < size p.tree → g x ≡ ClosedBy w c Settling how → IsKept p replies (record s { statuses = slice_set s.statuses x Settled; seats = goes_to s w (record { task = Closes x d; hand = waits_no_more x seat.hand }) })
      go c how inside at =
          let seat2 : Seat = record { task = Closes x d; hand = waits_no_more x seat.hand } in (
            upd g x (ClosedBy w c d how),
            alike p core.plan replies s g h w seat is x (ClosedBy w c Settling how) (ClosedBy w c d how) (record { task = Closes x d; hand = waits_no_more x seat.hand }) (set s.statuses x Settled) s.locks s.cancel s.shown (record {
              inside = inside;
              at = at;
              alone = λ v q. sym (same_Some w v q);
              still = still_about p core replies s g h w seat is x (ap subject e) (Closes x d);
              held = (record { task = Closes x d; hand = waits_no_more x seat.hand }, get_set_same s.seats w (record { task = Closes x d; hand = waits_no_more x seat.hand }) seat is, refl);
              seat_ok = settle_seat x (ClosedBy w c d how) (Closes x d) e (λ q. closed_hand w c Settling how w (sym at ∙ q)) (ap not past) (inside, (c, how, upd_same g x (ClosedBy w c d how) x refl)) tt calm refl;
              statuses_ok = subst (λ v. StatusList p (set s.statuses x v) (upd g x (ClosedBy w c d how))) (word c how) (words_set p s.statuses g x (ClosedBy w c d how) (h.statuses_len, h.words));
              locks_ok = locks_keep p s.locks g x (ClosedBy w c Settling how) (ClosedBy w c d how) inside at (sym (keys c how)) h.locks;
              not_waiting = λ v r q. closed_waits w c d how v r q;
              mark = mark c how;
              same_starter = ap (λ m. starter_by m (picture p x (ClosedBy w c d how)).word) (sym (mark c how)) ∙ ended_starter how (picture p x (ClosedBy w c d how)).word ∙ sym (ended_starter how (Claimed c));
              guard = guard c how;
              same_below = below c how;
              pends = refl;
              live = refl;
              owned = λ v ch same o from r q. owned o c how;
              raising = λ ff. ap (λ (b : Bool). s.cancel + bit b) (calm ∙ ap raises (sym e));
              shown_ok = same_shown p core replies s g h w seat is;
              shape = ok how;
              past = λ q. absurd (false≢true q);
              quiet = λ z q. absurd (both_ways (not (closing_past d)) (ap not past) q);
            }),
          )

  -- node 0 has no parent to be counted off at
  settles_root : seat.task ≡ Closes 0 Settling → IsKept p replies (record s { statuses = slice_set s.statuses 0 Settled; seats = goes_to s w (record { task = Free; hand = waits_no_more 0 seat.hand }) })
  settles_root e = (let task : TaskOk p g w (Closes 0 Settling) = subst (TaskOk p g w) e ours.task in go task.1.0 task.1.1 task.0 task.1.2)
    where
      closed_hand : (w c : ℕ) (d : Closing) (how : How) (v : ℕ) → ClosedBy w c d how ≡ InHand v → ⊥
      closed_hand w c d how v q = cc

      over_waits : (how : How) (c : ℕ) (r : Status) → Over how ≡ Waiting c r → ⊥
      over_waits how c r q = cc

      no_parent : (c : ℕ) → IsChild p.tree c 0 → ⊥
      no_parent c ch = (let z = ch.above_zero in omega (arith, z))

      go : (c : ℕ) (how : How) → 0 < size p.tree → g 0 ≡ ClosedBy w c Settling how → IsKept p replies (record s { statuses = slice_set s.statuses 0 Settled; seats = goes_to s w (record { task = Free; hand = waits_no_more 0 seat.hand }) })
      go c how inside at = (
        upd g 0 (Over how),
        silent p core.plan replies s g h w seat is 0 (ClosedBy w c Settling how) (Over how) (record { task = Free; hand = waits_no_more 0 seat.hand }) (set s.statuses 0 Settled) s.counters s.results s.locks s.cancel s.shown (record {
          inside = inside;
          at = at;
          alone = λ v q. sym (same_Some w v q);
          still = still_about p core replies s g h w seat is 0 (ap subject e) Free;
          held = tt;
          seat_ok = settle_seat 0 (Over how) Free e (λ q. closed_hand w c Settling how w (sym at ∙ q)) refl tt tt refl refl;
          statuses_ok = words_set p s.statuses g 0 (Over how) (h.statuses_len, h.words);
          counters_ok = (
            h.counters_len,
            λ n lt. (let k = pending_elsewhere p g 0 (Over how) n refl in let o = h.counters n lt in
                let u : (picture p n (upd g 0 (Over how) n)).guard ≡ (picture p n (g n)).guard = upd_all (λ j st. (picture p j st).guard ≡ (picture p j (g j)).guard) g 0 (Over how) n (λ q. sym (ap (λ (j : ℕ). (picture p j (g j)).guard) q ∙ ap (λ st. (picture p 0 st).guard) at)) (λ _. refl) in
                omega (arith, k, o, u)),
          );
          results_ok = (h.results_len, λ n v r lt. upd_all (λ k st. st ≡ Waiting v r → slice_index_or s.results k Successful ≡ r) g 0 (Over how) n (λ q z. absurd (over_waits how v r z)) (λ _. h.results n v r lt));
          locks_ok = locks_keep p s.locks g 0 (ClosedBy w c Settling how) (Over how) inside at refl h.locks;
          mark = λ k. refl;
          starter = λ v q. absurd (none-some v (sym (ended_starter how Settled) ∙ q));
          raising = λ ff. ap (λ t. s.cancel + bit (raises t)) (sym e);
          shown_ok = same_shown p core replies s g h w seat is;
          shape = tt;
          above = λ v ch. absurd (no_parent v ch);
          below = λ v ch. subst (λ st. Fits p (picture p 0 st).below 0 v (g v)) at (h.edges 0 v ch);
          past = λ q. refl;
          elders = λ v elder first seen. absurd (let z : 0 < 0 = elder.younger.above_zero in omega (arith, z));
          quiet = λ z q. absurd (false≢true q);
        }),
      )

  pub settle_keeps : (t0 : Task) → seat.task ≡ t0 → (t : State) → settle_row p s w seat t0 ≡ Some t → IsKept p replies t
  settle_keeps (Closes zero Settling) e t q = kept_some p replies (record s { statuses = slice_set s.statuses 0 Settled; seats = goes_to s w (record { task = Free; hand = waits_no_more 0 seat.hand }) }) t (settles_root e) q
  settle_keeps (Closes (suc n) Settling) e t q =
      kept_some p replies (record s { statuses = slice_set s.statuses (suc n) Settled; seats = goes_to s w (record { task = after_settle p (suc n); hand = waits_no_more (suc n) seat.hand }) }) t
      (by_cond goal (is_same p (suc n) && not (is_spare_at p.tree (suc n))) (pass_to (first_from (is_same_sibling p (suc n)) (suc (suc n)) (size p.tree))) CountingOff
      (λ c. passes (first_from (is_same_sibling p (suc n)) (suc (suc n)) (size p.tree)) refl c) (λ c. counts))
      q
    where
      goal : Closing → Type 0
      goal d = IsKept p replies (record s { statuses = slice_set s.statuses (suc n) Settled; seats = goes_to s w (record { task = Closes (suc n) d; hand = waits_no_more (suc n) seat.hand }) })

      counts : goal CountingOff
      counts = settles (suc n) CountingOff e refl (λ c how. refl) (λ c how. refl) (λ c how. refl) (λ c how. refl) (λ c how. refl) (λ o c how. refl) (λ how. omega arith) refl

      inside : suc n < size p.tree
      inside = (let task : TaskOk p g w (Closes (suc n) Settling) = subst (TaskOk p g w) e ours.task in task.0)

      not_true : (b : Bool) → not b ≡ true → b ≡ false
      not_true true q = absurd (false≢true q)
      not_true false q = refl

      next_same : (m : ℕ) → IsFirst (is_same_sibling p (suc n)) (suc (suc n)) (size p.tree) m → is_same p (suc n) ≡ true → is_spare_at p.tree (suc n) ≡ false → IsNextSame p (suc n) m
      next_same m f same plain =
          let a = and_parts (is_child p.tree (parent_of p.tree (suc n)) m) (is_same p m && not (is_spare_at p.tree m)) f.passes in
          let b = and_parts (is_same p m) (not (is_spare_at p.tree m)) a.1 in
          let ch : IsChild p.tree (parent_of p.tree (suc n)) m = is_child_test p.tree (parent_of p.tree (suc n)) m f.high a.0 in
          let low = f.low in
          let me : IsChild p.tree (parent_of p.tree (suc n)) (suc n) = record { above_zero = omega arith; inside = inside; parent = refl } in
          record {
            elder = record { parent = parent_of p.tree (suc n); elder = me; younger = ch; before = omega (arith, low) };
            same = same;
            plain = plain;
            next_same = b.0;
            next_plain = not_true (is_spare_at p.tree m) b.1;
            between = λ x lo hi elder same_x. between m f ch me x lo hi elder same_x plain;
          }
        where
          between : (m : ℕ) → IsFirst (is_same_sibling p (suc n)) (suc (suc n)) (size p.tree) m → IsChild p.tree (parent_of p.tree (suc n)) m → IsChild p.tree (parent_of p.tree (suc n)) (suc n) → (x : ℕ) → suc n < x → x < m → IsElder p.tree x m → is_same p x ≡ true → is_spare_at p.tree (suc n) ≡ false → ⊥
          between m f ch me x lo hi elder same_x plain =
              let par : elder.parent ≡ parent_of p.tree (suc n) = sym elder.younger.parent ∙ ch.parent in
              let x_ch : IsChild p.tree (parent_of p.tree (suc n)) x = subst (λ k. IsChild p.tree k x) par elder.elder in
              elim (cases_Bool (is_spare_at p.tree x)) [
                | inl spare ↦ (let maker = core.plan.spare_factory x spare in
                    both_ways (is_spare_at p.tree (suc n)) plain (core.makers (parent_of p.tree (suc n)) (suc n) me (ap (sort_of p.tree) (sym x_ch.parent) ∙ maker)))
                | inr no' ↦ both_ways (is_same_sibling p (suc n) x) (f.none_before x (omega (arith, lo)) hi)
                    (and_from (is_child p.tree (parent_of p.tree (suc n)) x) _ (and_from (nat_lt 0 x) (parent_of p.tree x == parent_of p.tree (suc n)) (lt-ltb 0 x x_ch.above_zero) (eq-eqb (parent_of p.tree x) (parent_of p.tree (suc n)) x_ch.parent)) (and_from (is_same p x) (not (is_spare_at p.tree x)) same_x (ap not no')))
              ]

      passes : (found : Option ℕ) → first_from (is_same_sibling p (suc n)) (suc (suc n)) (size p.tree) ≡ found → (is_same p (suc n) && not (is_spare_at p.tree (suc n))) ≡ true → goal (pass_to found)
      passes None f c = counts
      passes (Some m) f c =
          let b = and_parts (is_same p (suc n)) (not (is_spare_at p.tree (suc n))) c in
          let next = next_same m (first_some (is_same_sibling p (suc n)) (suc (suc n)) (size p.tree) m f) b.0 (not_true (is_spare_at p.tree (suc n)) b.1) in
          settles (suc n) (Looking m) e refl (λ c how. refl) (λ c how. refl) (λ c how. refl) (λ c how. refl) (λ c how. refl) (λ o c how. refl) (λ how. next) refl
  settle_keeps _ e t q = absurd (none-some t q)
