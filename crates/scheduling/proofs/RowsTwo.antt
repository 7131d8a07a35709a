-- Rows that change a node and its child or parent: a factory taken in hand, admit, add_child, done.
use Rattle.std.proofs.Common.{◌≡◌, ◌≢◌, ℕ, ◌-◌, ◌<◌, Bool, true, false, ◌&&◌, ◌||◌, ◌==◌, not, List, set, Option, Some, None, slice_get, slice_set, inl, inr, refl, sym, ap, ◌∙◌, subst, arith, length-set, get_or-set_other}
use Rattle.std.proofs.lemmas.Option.{same_Some, none-some}
use Rattle.std.proofs.lemmas.Grind.{get_or-set_at}
use Rattle.std.proofs.lemmas.Bool.{cases_eq, false≢true, both_ways, and_parts, and_from, or_cases, eqb-true}
use Rattle.descriptor.specs.Nodes.{size, parent_of, IsChild, is_child, is_spare_at, count_below}
use Rattle.plan_events.specs.declared.event.EventKind.{EventKind}
use Rattle.plan_events.specs.declared.event.EventKind.TheVariants.{Started, Finished, Skipped, Registered}
use Rattle.plan_events.specs.declared.outcome.Reply.{Reply}
use Rattle.plan_events.specs.declared.status.Status.{Status}
use Rattle.plan_events.specs.declared.status.Status.TheVariants.{Successful}
use Rattle.resource_locks.specs.Plans.{PlanParts}
use Rattle.event_history.specs.Plans.{IsElder, is_same, pulls_job}
use Rattle.event_history.specs.Results.{jobs_of}
use Rattle.event_history.specs.Order.{goes_first}
use Rattle.event_history.proofs.Trees.{test_is_child}
use Rattle.scheduling.specs.declared.status.NodeStatus.TheVariants.{Ready, Claimed}
use Rattle.scheduling.specs.declared.task.Opening.{Opening}
use Rattle.scheduling.specs.declared.task.Opening.TheVariants.{StartedAt}
use Rattle.scheduling.specs.declared.task.Closing.{Closing}
use Rattle.scheduling.specs.declared.task.Closing.TheVariants.{AwaitingAfter, Ending}
use Rattle.scheduling.specs.declared.task.Task.TheVariants.{Free, Opens, Closes}
use Rattle.scheduling.specs.declared.seat.Hand.{Hand}
use Rattle.scheduling.specs.declared.seat.Seat.{Seat}
use Rattle.scheduling.specs.State.{State, counter_at, subject}
use Rattle.scheduling.specs.Choices.{keys_count, in_batch, ending}
use Rattle.scheduling.specs.Rows.{with_task, goes_to, shows}
use Rattle.scheduling.specs.Inside.Stages.{How, Gave, Stage, Unseen, Offered, OpenedBy, InHand, Waiting, ClosedBy, Over, Runs, Past, Blank, Known, Begun, has_mark, picture, who, is_unseen, is_live, is_pending, is_owned, passes_to, is_past, is_unsettled, raises, is_bold}
use Rattle.scheduling.specs.Inside.Invariant.{IsCorePlan, ClosingOk, ShapeOk, Fits, TaskOk, HandOk, SeatOk, Holds, IsKept}
use Rattle.scheduling.proofs.Basics.{upd, upd_same, upd_other, get_set_same, count_some}
use Rattle.scheduling.proofs.StageMove.{task_keeps}
use Rattle.scheduling.proofs.Parts.{words_set, locks_keep, counters_keep, counters_give, pending_none, QuitStep, quit_calm}
use Rattle.scheduling.proofs.Silent.{silent, seat_goes}
use Rattle.scheduling.proofs.RowsOne.{still_about, same_shown, shown_set}
use Rattle.scheduling.proofs.RowsBelow.{wide, ending_is, results_keep}
use Rattle.scheduling.proofs.Spares.{none_registered}

-- stages by their tests
pub unseen_is : (st : Stage) → is_unseen st ≡ true → st ≡ Unseen
unseen_is Unseen q = refl
unseen_is _ q = absurd (false≢true q)

plain_mark : (spare : Bool) → spare ≡ false → (k : EventKind) → has_mark spare k Blank ≡ has_mark spare k Known
plain_mark spare q Started = refl
plain_mark spare q Finished = refl
plain_mark spare q Skipped = refl
plain_mark spare q Registered = sym q

pub offered_hand : (o : Option ℕ) (v : ℕ) → Unseen ≡ InHand v → ⊥
offered_hand o v q = cc

pub offered_waits : (o : Option ℕ) (c : ℕ) (r : Status) → Offered o ≡ Waiting c r → ⊥
offered_waits o c r q = cc

pub opened_waits : (w : ℕ) (d : Opening) (c : ℕ) (r : Status) → OpenedBy w d ≡ Waiting c r → ⊥
opened_waits w d c r q = cc

pub in_hand_waits : (w c : ℕ) (r : Status) → InHand w ≡ Waiting c r → ⊥
in_hand_waits w c r q = cc

pub over_waits : (how : How) (c : ℕ) (r : Status) → Over how ≡ Waiting c r → ⊥
over_waits how c r q = cc

pub closed_waits : (w e : ℕ) (d : Closing) (how : How) (c : ℕ) (r : Status) → ClosedBy w e d how ≡ Waiting c r → ⊥
closed_waits w e d how c r q = cc

pub closed_hand : (w c : ℕ) (d : Closing) (how : How) (v : ℕ) → ClosedBy w c d how ≡ InHand v → ⊥
closed_hand w c d how v q = cc

pub opened_hand : (w : ℕ) (d : Opening) (v : ℕ) → OpenedBy w d ≡ InHand v → ⊥
opened_hand w d v q = cc

pub waiting_hand : (c : ℕ) (r : Status) (v : ℕ) → Waiting c r ≡ InHand v → ⊥
waiting_hand c r v q = cc

pub same_result : (c d : ℕ) (r t : Status) → Waiting c r ≡ Waiting d t → r ≡ t
same_result c d r t q = cc

-- no elder goes before a node of the batch
pub batch_first : (p : PlanParts) (n a c : ℕ) → in_batch p n c ≡ true → IsChild p.tree n c → IsElder p.tree a c → goes_first p a c ≡ true → ⊥
batch_first p n a c batch ch elder first =
    let b = and_parts (is_child p.tree n c) (not (is_spare_at p.tree c) && (not (is_same p c) || (count_below (λ d. is_child p.tree n d && is_same p d) c == 0))) batch in
    let b1 = and_parts (not (is_spare_at p.tree c)) (not (is_same p c) || (count_below (λ d. is_child p.tree n d && is_same p d) c == 0)) b.1 in
    let f = and_parts (is_same p a) (is_same p c || (is_spare_at p.tree a && is_spare_at p.tree c)) first in
    let lt = elder.before in
    let cha : IsChild p.tree n a = subst (λ k. IsChild p.tree k a) (sym elder.younger.parent ∙ ch.parent) elder.elder in
    elim (or_cases (not (is_same p c)) (count_below (λ d. is_child p.tree n d && is_same p d) c == 0) b1.1) [
      | inl free ↦ elim (or_cases (is_same p c) (is_spare_at p.tree a && is_spare_at p.tree c) f.1) [
        | inl same ↦ both_ways (not (is_same p c)) (ap not same) free
        | inr spares ↦ both_ways (not (is_spare_at p.tree c)) (ap not (and_parts (is_spare_at p.tree a) (is_spare_at p.tree c) spares).1) b1.0
      ]
      | inr none ↦ (let z : count_below (λ d. is_child p.tree n d && is_same p d) c ≡ 0 = eqb-true (count_below (λ d. is_child p.tree n d && is_same p d) c) 0 none in
          let some = count_some (λ d. is_child p.tree n d && is_same p d) c a lt (and_from (is_child p.tree n a) (is_same p a) (test_is_child p.tree n a cha) f.0) in
          omega (arith, z, some))
    ]

module _ (p : PlanParts) (core : IsCorePlan p) (replies : ℕ → List Reply) (s : State) (g : ℕ → Stage) (h : Holds p replies s g) (w : ℕ) (seat : Seat) (is : slice_get s.seats w ≡ Some seat) where
  me : SeatOk p g s.published w seat
  me = h.seats w seat is

  -- an unseen node, no spare, is offered
  pub offer_unseen : (c : ℕ) (o : Option ℕ) → c < size p.tree → g c ≡ Unseen → is_spare_at p.tree c ≡ false → ((a : ℕ) → IsChild p.tree a c → Fits p (picture p a (g a)).below a c (Offered o)) → ((a : ℕ) → IsElder p.tree a c → goes_first p a c ≡ true → is_past (g a) ≡ true)
      → Holds p replies (record s { statuses = slice_set s.statuses c (Ready o); seats = set s.seats w seat }) (upd g c (Offered o))
  offer_unseen c o inside at plain above elders =
      silent p core.plan replies s g h w seat is c Unseen (Offered o) seat (set s.statuses c (Ready o)) s.counters s.results s.locks s.cancel s.shown (record {
        inside = inside;
        at = at;
        alone = λ v q. absurd (none-some v q);
        still = λ n ne q. refl;
        held = tt;
        seat_ok = record {
          task = task_keeps p g c (Offered o) w seat.task (λ q. none-some w (ap who (sym at) ∙ q)) me.task;
          hand = plain_hand seat.hand me.hand;
          brought = me.brought;
          failed = me.failed;
          quits = me.quits;
        };
        statuses_ok = words_set p s.statuses g c (Offered o) (h.statuses_len, h.words);
        counters_ok = counters_keep p s.counters g c Unseen (Offered o) at refl (ap not plain) (h.counters_len, h.counters);
        results_ok = results_keep p core replies s g h w seat is c (Offered o) (λ d r q. offered_waits o d r q);
        locks_ok = locks_keep p s.locks g c Unseen (Offered o) inside at refl h.locks;
        mark = plain_mark (is_spare_at p.tree c) plain;
        starter = λ v q. absurd (none-some v q);
        raising = λ ff. refl;
        shown_ok = same_shown p core replies s g h w seat is;
        shape = tt;
        above = above;
        below = λ d ch. subst (λ st. Fits p (picture p c st).below c d (g d)) at (h.edges c d ch);
        past = λ q. absurd (false≢true q);
        elders = λ a elder first seen. elders a elder first;
        quiet = λ z q. absurd (both_ways (is_spare_at p.tree c) plain z);
      })
    where
      plain_hand : (hand : Option Hand) → HandOk p g s.published w hand → HandOk p (upd g c (Offered o)) s.published w hand
      plain_hand None old = tt
      plain_hand (Some hand) old = record {
        inside = old.inside;
        at = upd_other g c (Offered o) hand.factory (λ e. offered_hand o w (sym at ∙ ap g (sym e) ∙ old.at)) ∙ old.at;
        count = old.count;
        waits = λ k ch same unsettled. elim (cases_eq k c) [
          | inl e ↦ absurd (both_ways (is_spare_at p.tree c) plain (subst (λ n. is_spare_at p.tree n ≡ true) e (and_parts (is_spare_at p.tree k) (is_same p k) same).0))
          | inr ne ↦ old.waits k ch same (ap is_unsettled (sym (upd_other g c (Offered o) k ne)) ∙ unsettled)
        ];
      }

  -- a factory with a job is taken in hand
  pub show_hand_keeps : (x i : ℕ) → seat.task ≡ Opens x (StartedAt i) → pulls_job p x ≡ true → IsKept p replies (shows s w (record { task = Free; hand = Some (record { factory = x; registered = 0; waiting = None }) }) i)
  show_hand_keeps x i e pulls =
      let task : TaskOk p g w (Opens x (StartedAt i)) = subst (TaskOk p g w) e me.task in
      let unseen : (c : ℕ) → IsChild p.tree x c → is_unseen (g c) ≡ true = λ c ch. subst (λ st. Fits p (picture p x st).below x c (g c)) task.1 (h.edges x c ch) in (
        upd g x (InHand w),
        wide p core.plan replies s g h w seat is x (OpenedBy w (StartedAt i)) (InHand w) (record { task = Free; hand = Some (record { factory = x; registered = 0; waiting = None }) }) s.counters s.results (set s.shown i true) (record {
          inside = task.0;
          at = task.1;
          alone = λ v q. sym (same_Some w v q);
          still = still_about p core replies s g h w seat is x (ap subject e) Free;
          held = tt;
          seat_ok = record {
            task = tt;
            hand = record {
              inside = task.0;
              at = upd_same g x (InHand w) x refl;
              count = none_registered p s.published x (λ c ch. h.flags Registered c ch.inside ∙ ap (λ st. has_mark (is_spare_at p.tree c) Registered (picture p c st).mark) (unseen_is (g c) (unseen c ch)));
              waits = λ c ch same unsettled. absurd (let up : parent_of p.tree c < c = core.plan.rooted.up c ch.above_zero ch.inside in let par : parent_of p.tree c ≡ x = ch.parent in
                  false≢true (sym (ap is_unsettled (upd_other g x (InHand w) c (λ q. omega (arith, up, par, q)) ∙ unseen_is (g c) (unseen c ch))) ∙ unsettled));
            };
            brought = tt;
            failed = λ q. absurd (false≢true q);
            quits = λ ff bold. absurd (false≢true bold);
          };
          raises_so = ap raises (sym e);
          word = refl;
          mark = refl;
          keys = refl;
          counters_ok = counters_keep p s.counters g x (OpenedBy w (StartedAt i)) (InHand w) task.1 refl refl (h.counters_len, h.counters);
          results_ok = results_keep p core replies s g h w seat is x (InHand w) (λ d r q. in_hand_waits w d r q);
          live = refl;
          owned = λ o q. q;
          shown_ok = shown_set p core replies s g h w seat is i;
          shape = pulls;
          below = λ c ch. record { rest = λ b le. unseen c ch; owned = λ same. subst (λ st. is_owned w st ≡ true) (sym (unseen_is (g c) (unseen c ch))) refl };
          past = refl;
          quiet = λ q. refl;
        }),
      )

  -- nothing is outstanding at a node any more: a free worker ends it
  pub ends_last : (x c : ℕ) (r : Status) → seat.task ≡ Free → x < size p.tree → g x ≡ Waiting c r → counter_at s x ≡ 0 → IsKept p replies (record s { seats = goes_to s w (with_task seat (Closes x (ending p x r))) })
  ends_last x c r e inside at zero' = (upd g x (ClosedBy w c (ending p x r) Gave), (ending_is goal (one AwaitingAfter refl refl refl refl refl refl refl refl (λ o. refl)) (λ q. one (Ending q) refl refl refl refl refl refl refl refl (λ o. refl)) (jobs_of p x) r) shape)
    where
      shape : ClosingOk p replies s.published x (ending p x r) Gave
      shape = subst (ShapeOk p replies s.published x) at (h.shapes x inside)

      goal : Closing → Type 0
      goal d = ClosingOk p replies s.published x d Gave → Holds p replies (record s { seats = goes_to s w (with_task seat (Closes x d)) }) (upd g x (ClosedBy w c d Gave))

      one : (d : Closing) → (picture p x (ClosedBy w c d Gave)).word ≡ Claimed c → (picture p x (ClosedBy w c d Gave)).mark ≡ Begun → (picture p x (ClosedBy w c d Gave)).keys ≡ keys_count p x → (picture p x (ClosedBy w c d Gave)).guard ≡ 0 → (picture p x (ClosedBy w c d Gave)).below ≡ Past
          → raises (Closes x d) ≡ false → is_bold (Closes x d) ≡ false → is_past (ClosedBy w c d Gave) ≡ false → ((o : ℕ) → passes_to o d ≡ true) → goal d
      one d word mark keys guard below r' bold past owned ok =
          wide p core.plan replies s g h w seat is x (Waiting c r) (ClosedBy w c d Gave) (with_task seat (Closes x d)) s.counters s.results s.shown (record {
            inside = inside;
            at = at;
            alone = λ v q. absurd (none-some v q);
            still = λ n ne q. absurd (none-some n (sym (ap subject e) ∙ q));
            held = (with_task seat (Closes x d), get_set_same s.seats w (with_task seat (Closes x d)) seat is, refl);
            seat_ok = seat_goes p g s.published w seat x (Waiting c r) (ClosedBy w c d Gave) (Closes x d) me at (λ q. waiting_hand c r w q) (λ q. refl) (inside, (c, Gave, upd_same g x (ClosedBy w c d Gave) x refl)) tt (λ q. absurd (both_ways (raises (Closes x d)) r' q))
                (subst (λ t. QuitStep p s.published w t (Closes x d)) (sym e) (quit_calm p s.published w Free (Closes x d) bold));
            raises_so = r' ∙ ap raises (sym e);
            word = sym word;
            mark = sym mark;
            keys = sym keys;
            counters_ok = counters_keep p s.counters g x (Waiting c r) (ClosedBy w c d Gave) at (sym guard) refl (h.counters_len, h.counters);
            results_ok = results_keep p core replies s g h w seat is x (ClosedBy w c d Gave) (λ v t q. closed_waits w c d Gave v t q);
            live = refl;
            owned = λ o q. owned o;
            shown_ok = same_shown p core replies s g h w seat is;
            shape = ok;
            below = λ k ch. subst (λ y. Fits p y x k (g k)) (sym below)
                (pending_none p g x k (let o = h.counters x inside in let u : (picture p x (g x)).guard ≡ 0 = ap (λ st. (picture p x st).guard) at in omega (arith, o, u, zero')) ch);
            past = refl;
            quiet = λ q. refl;
          })

  -- the guard of a node is given up, and what is outstanding is waited for
  pub guard_goes : (x : ℕ) (a : Stage) (r : Status) (hand2 : Option Hand) → x < size p.tree → g x ≡ a → who a ≡ Some w → ((n : ℕ) → n ≢ x → subject seat.task ≡ Some n → ⊥) → raises seat.task ≡ false → (picture p x a).word ≡ Claimed w → (picture p x a).mark ≡ Begun → (picture p x a).keys ≡ keys_count p x → (picture p x a).guard ≡ 1 → (picture p x a).below ≡ Runs w (size p.tree)
      → is_live a ≡ true → is_past a ≡ false → is_pending (is_spare_at p.tree x) a ≡ true → is_unsettled a ≡ true → ClosingOk p replies s.published x (ending p x r) Gave → SeatOk p (upd g x (Waiting w r)) s.published w (record { task = Free; hand = hand2 })
      → Holds p replies (record s { counters = slice_set s.counters x (counter_at s x - 1); results = slice_set s.results x r; seats = goes_to s w (record { task = Free; hand = hand2 }) }) (upd g x (Waiting w r))
  guard_goes x a r hand2 inside at mine' about calm word mark keys guard below live past pend unsettled shape seat_ok =
      wide p core.plan replies s g h w seat is x a (Waiting w r) (record { task = Free; hand = hand2 }) (set s.counters x (counter_at s x - 1)) (set s.results x r) s.shown (record {
        inside = inside;
        at = at;
        alone = λ v q. same_Some v w (sym q ∙ mine');
        still = λ n ne q. absurd (about n ne q);
        held = tt;
        seat_ok = seat_ok;
        raises_so = sym calm;
        word = word;
        mark = mark;
        keys = keys;
        counters_ok = counters_give p s.counters g x a (Waiting w r) inside at guard refl pend (h.counters_len, h.counters);
        results_ok = (
          length-set s.results x r ∙ h.results_len,
          λ n c t lt q. elim (cases_eq n x) [
            | inl e ↦ (let len = h.results_len in get_or-set_at s.results x n r Successful e (omega (arith, len, inside)) ∙ same_result w c r t (sym (upd_same g x (Waiting w r) n e) ∙ q))
            | inr ne ↦ get_or-set_other s.results x n r Successful ne ∙ h.results n c t lt (sym (upd_other g x (Waiting w r) n ne) ∙ q)
          ],
        );
        live = live;
        owned = λ o q. refl;
        shown_ok = same_shown p core replies s g h w seat is;
        shape = shape;
        below = λ c ch. subst (λ y. Fits p y x c (g c)) (ap (λ st. (picture p x st).below) at ∙ below) (h.edges x c ch);
        past = past;
        quiet = λ q. unsettled;
      })
