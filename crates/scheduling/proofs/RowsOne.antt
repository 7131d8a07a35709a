-- Rows that change one node whose picture stays but for its word and its keys: claim, own, notice, weigh, take, give, give_up,
-- raise, look, and the show of all but a start.
use Rattle.std.proofs.Common.{◌≡◌, ◌≢◌, ℕ, zero, suc, ◌+◌, ◌<◌, ◌≤◌, Bool, true, false, cond, ◌&&◌, ◌==◌, not, nat_lt, List, [], ◌∷◌, set, Option, Some, None, slice_get, inl, inr, refl, sym, ap, ◌∙◌, subst, arith, length-set}
use Rattle.std.proofs.Math.Nat.{le_refl}
use Rattle.std.proofs.lemmas.Option.{same_Some, none-some}
use Rattle.std.proofs.lemmas.Bool.{false≢true, both_ways, and_parts, and_from, eqb-true, ltb-true, ltb-false, or_cases, or_left, or_right, eq-eqb, false_from_ne_true}
use Rattle.descriptor.specs.Nodes.{size, parent_of, IsChild, is_disabled, bit}
use Rattle.plan_events.specs.declared.event.Event.{Event}
use Rattle.plan_events.specs.declared.outcome.Reply.{Reply}
use Rattle.plan_events.specs.declared.status.Status.{Status}
use Rattle.event_history.specs.Places.{is_failed_or, is_failure}
use Rattle.resource_locks.specs.Plans.{PlanParts}
use Rattle.event_history.specs.Plans.{IsPlanTree, pulls_job}
use Rattle.scheduling.specs.declared.status.NodeStatus.{NodeStatus}
use Rattle.scheduling.specs.declared.status.NodeStatus.TheVariants.{Hidden, Ready, Claimed, Settled}
use Rattle.scheduling.specs.declared.lock_word.LockWord.{LockWord}
use Rattle.scheduling.specs.declared.lock_word.LockWord.TheVariants.{Readers, Written}
use Rattle.scheduling.specs.declared.task.Opening.{Opening}
use Rattle.scheduling.specs.declared.task.Opening.TheVariants.{Registering, RegisteredAt, Offering, Noticing, Locking, Weighed, Backing, Beginning, StartedAt, Awaiting, Admitting, Guarding}
use Rattle.scheduling.specs.declared.task.Closing.{Closing}
use Rattle.scheduling.specs.declared.task.Closing.TheVariants.{AwaitingAfter, Ending, FinishedAt, SkippedAt, Raising, Giving, Settling, Looking, Passing, CountingOff}
use Rattle.scheduling.specs.declared.task.Task.{Task}
use Rattle.scheduling.specs.declared.task.Task.TheVariants.{Free, Opens, Closes}
use Rattle.scheduling.specs.declared.seat.Seat.{Seat}
use Rattle.scheduling.specs.State.{State, status_at, lock_at, subject}
use Rattle.scheduling.specs.Choices.{key_at, mode_at, keys_count, admits_at, taken, given_back, same_word, lock_from, begins, giving, after_finish}
use Rattle.scheduling.specs.Rows.{with_task, goes, goes_to, notice_row, weighed, weigh_row, take_found, take_row, puts_word, gives_key, give_row, raised, raise_row, shows, look_found, look_row, is_cancelled}
use Rattle.scheduling.specs.Inside.Stages.{How, Gave, Kept, Skips, Stage, OpenedBy, InHand, Waiting, ClosedBy, Over, Shut, Runs, picture, closing_picture, runner_of, starter_by, below_of, Begun, passes_to, closing_past, closing_passed, opening_offered, raises, is_bold, brings}
use Rattle.scheduling.specs.Inside.Invariant.{IsCorePlan, OpeningOk, ClosingOk, ShapeOk, TaskOk, BringsOk, SeatOk, Holds, IsKept}
use Rattle.scheduling.proofs.Basics.{upd, upd_same, get_set_same}
use Rattle.scheduling.proofs.Parts.{LockList, words_keep, locks_keep, locks_take, locks_give, QuitStep, quit_calm, quit_same}
use Rattle.scheduling.proofs.Silent.{ShownOk, alike, seat_goes}
use Rattle.event_history.specs.Failures.{known, up_to, failures}
use Rattle.scheduling.proofs.Raising.{raised_few, knows_few}

-- a choice by a test
pub by_cond : {X : Type 0} (P : X → Type 0) (c : Bool) (x y : X) → (c ≡ true → P x) → (c ≡ false → P y) → P (cond c x y)
by_cond P true x y yes' no' = yes' refl
by_cond P false x y yes' no' = no' refl

pub kept_some : (p : PlanParts) (replies : ℕ → List Reply) (s t : State) → IsKept p replies s → Some s ≡ Some t → IsKept p replies t
kept_some p replies s t k q = subst (λ u. IsKept p replies u) (same_Some s t q) k

pub claim_number : (a b : ℕ) → Claimed a ≡ Claimed b → a ≡ b
claim_number a b q = cc

pub parent_inside : (p : PlanParts) → IsPlanTree p.tree → (c x : ℕ) → IsChild p.tree c x → c < size p.tree
parent_inside p plan c x ch =
    let up : parent_of p.tree x < x = plan.rooted.up x ch.above_zero ch.inside in
    let lt : x < size p.tree = ch.inside in
    let par : parent_of p.tree x ≡ c = ch.parent in
    omega (arith, up, lt, par)

-- who runs a node's children claimed it, and it has started
pub runs_is : (p : PlanParts) (n : ℕ) (st : Stage) (o : ℕ) → runner_of (picture p n st).below ≡ Some o → ((picture p n st).word ≡ Claimed o) × ((picture p n st).mark ≡ Begun)
runs_is p n (OpenedBy w (Admitting c)) o q = (ap Claimed (same_Some w o q), refl)
runs_is p n (OpenedBy w Guarding) o q = (ap Claimed (same_Some w o q), refl)
runs_is p n (OpenedBy w (Beginning true)) o q = absurd (none-some o q)
runs_is p n (OpenedBy w (Beginning false)) o q = absurd (none-some o q)
runs_is p n (InHand w) o q = (ap Claimed (same_Some w o q), refl)
runs_is p n (Waiting c r) o q = (ap Claimed (same_Some c o q), refl)
runs_is p n (ClosedBy w c d how) o q = absurd (closed p n c d how q)
  where
    none : (how : How) (o : ℕ) → runner_of (below_of how) ≡ Some o → ⊥
    none Gave o q = none-some o q
    none Kept o q = none-some o q
    none Skips o q = none-some o q

    closed : (p : PlanParts) (n c : ℕ) (d : Closing) (how : How) → runner_of (closing_picture p n c d how).below ≡ Some o → ⊥
    closed p n c AwaitingAfter how q = none how o q
    closed p n c (Ending s) how q = none how o q
    closed p n c (FinishedAt i s) how q = none how o q
    closed p n c (SkippedAt i) how q = none how o q
    closed p n c Raising how q = none how o q
    closed p n c (Giving i) how q = none how o q
    closed p n c Settling how q = none how o q
    closed p n c (Looking m) how q = none how o q
    closed p n c (Passing m o2) how q = none how o q
    closed p n c CountingOff how q = none how o q
runs_is p n (Over Gave) o q = absurd (none-some o q)
runs_is p n (Over Kept) o q = absurd (none-some o q)
runs_is p n (Over Skips) o q = absurd (none-some o q)
runs_is p n _ o q = absurd (none-some o q)

past_passed : (d : Closing) → closing_past d ≡ false → closing_passed d ≡ false
past_passed CountingOff q = q
past_passed _ q = refl

module _ (p : PlanParts) (core : IsCorePlan p) (replies : ℕ → List Reply) (s : State) (g : ℕ → Stage) (h : Holds p replies s g) (w : ℕ) (seat : Seat) (is : slice_get s.seats w ≡ Some seat) where
  pub mine : SeatOk p g s.published w seat
  mine = h.seats w seat is

  pub still_about : (x : ℕ) → subject seat.task ≡ Some x → (t : Task) (n : ℕ) → n ≢ x → subject seat.task ≡ Some n → t ≡ seat.task
  still_about x e t n ne q = absurd (ne (same_Some n x (sym q ∙ e)))

  pub same_shown : ShownOk s s.shown
  same_shown = (h.shown_len, λ i q. q)

  pub shown_set : (i : ℕ) → ShownOk s (set s.shown i true)
  shown_set i = (length-set s.shown i true ∙ h.shown_len, λ j q. go s.shown i j q)
    where
      go : (l : List Bool) (i j : ℕ) → slice_get l j ≡ Some true → slice_get (set l i true) j ≡ Some true
      go [] i j q = q
      go (z ∷ l) zero zero q = refl
      go (z ∷ l) zero (suc j) q = q
      go (z ∷ l) (suc i) zero q = q
      go (z ∷ l) (suc i) (suc j) q = go l i j q

  -- the worker goes on about a node that it opens
  pub turn : (x : ℕ) (d d2 : Opening) (locks : List LockWord) (shown : List Bool) → seat.task ≡ Opens x d → (picture p x (OpenedBy w d)).word ≡ (picture p x (OpenedBy w d2)).word → LockList p locks (upd g x (OpenedBy w d2)) → ShownOk s shown
      → (picture p x (OpenedBy w d)).mark ≡ (picture p x (OpenedBy w d2)).mark → (picture p x (OpenedBy w d)).below ≡ (picture p x (OpenedBy w d2)).below → (picture p x (OpenedBy w d)).guard ≡ (picture p x (OpenedBy w d2)).guard
      → (opening_offered d2 ≡ true → opening_offered d ≡ true) → (brings d2 ≡ true → (brings d ≡ true) × (d2 ≡ Registering → ⊥)) → OpeningOk p replies s.published x d2 → QuitStep p s.published w (Opens x d) (Opens x d2)
      → IsKept p replies (record s { locks = locks; seats = set s.seats w (with_task seat (Opens x d2)); shown = shown })
  turn x d d2 locks shown e word locks_ok shown_ok mark below guard offered brought ok quit =
      let task : TaskOk p g w (Opens x d) = subst (TaskOk p g w) e mine.task in
      let at : g x ≡ OpenedBy w d = task.1 in (
        upd g x (OpenedBy w d2),
        alike p core.plan replies s g h w seat is x (OpenedBy w d) (OpenedBy w d2) (with_task seat (Opens x d2)) s.statuses locks s.cancel shown (record {
          inside = task.0;
          at = at;
          alone = λ v q. sym (same_Some w v q);
          still = still_about x (ap subject e) (Opens x d2);
          held = (with_task seat (Opens x d2), get_set_same s.seats w (with_task seat (Opens x d2)) seat is, refl);
          seat_ok = seat_goes p g s.published w seat x (OpenedBy w d) (OpenedBy w d2) (Opens x d2) mine at (λ q. opened_hand w d w q) offered (task.0, upd_same g x (OpenedBy w d2) x refl)
              (λ b. (let b2 = brought b in let old : BringsOk p (Opens x d) seat.hand = subst (λ t. BringsOk p t seat.hand) e mine.brought in let o = old b2.0 in
              record { held = o.held; is = o.is; parent = o.parent; child = o.child; waits = o.waits; next = λ q. absurd (b2.1 q) }))
              (λ q. absurd (false≢true q)) (subst (λ t. QuitStep p s.published w t (Opens x d2)) (sym e) quit);
          statuses_ok = words_keep p s.statuses g x (OpenedBy w d) (OpenedBy w d2) at word (h.statuses_len, h.words);
          locks_ok = locks_ok;
          not_waiting = λ c r q. opened_waits w d2 c r q;
          mark = mark;
          same_starter = ap (λ m. starter_by m (picture p x (OpenedBy w d2)).word) (sym mark) ∙ ap (starter_by (picture p x (OpenedBy w d)).mark) (sym word);
          guard = guard;
          same_below = below;
          pends = refl;
          live = refl;
          owned = λ c ch same o from r q. q;
          raising = λ ff. ap (λ t. s.cancel + bit (raises t)) (sym e);
          shown_ok = shown_ok;
          shape = ok;
          past = λ q. q;
          quiet = λ z q. inl (offered q);
        }),
      )
    where
      opened_hand : (w : ℕ) (d : Opening) (v : ℕ) → OpenedBy w d ≡ InHand v → ⊥
      opened_hand w d v q = cc

      opened_waits : (w : ℕ) (d : Opening) (c : ℕ) (r : Status) → OpenedBy w d ≡ Waiting c r → ⊥
      opened_waits w d c r q = cc

  -- and about one that it closes
  pub turn_closing_at : (x : ℕ) (d d2 : Closing) (locks : List LockWord) (cancel : ℕ) (shown : List Bool) → seat.task ≡ Closes x d
      → ((c : ℕ) (how : How) → (picture p x (ClosedBy w c d how)).word ≡ (picture p x (ClosedBy w c d2 how)).word) → ((c : ℕ) (how : How) → g x ≡ ClosedBy w c d how → LockList p locks (upd g x (ClosedBy w c d2 how))) → ShownOk s shown
      → ((c : ℕ) (how : How) → (picture p x (ClosedBy w c d how)).mark ≡ (picture p x (ClosedBy w c d2 how)).mark) → ((c : ℕ) (how : How) → (picture p x (ClosedBy w c d how)).below ≡ (picture p x (ClosedBy w c d2 how)).below)
      → ((c : ℕ) (how : How) → (picture p x (ClosedBy w c d how)).guard ≡ (picture p x (ClosedBy w c d2 how)).guard)
      → closing_past d2 ≡ closing_past d → (closing_passed d ≡ true → closing_passed d2 ≡ true) → ((c : ℕ) → IsChild p.tree c x → (o from : ℕ) → (picture p c (g c)).below ≡ Runs o from → passes_to o d ≡ true → passes_to o d2 ≡ true)
      → ((c : ℕ) (how : How) → ClosingOk p replies s.published x d how → ClosingOk p replies s.published x d2 how)
      → (p.fail_fast ≡ true → cancel + bit (raises (Closes x d2)) ≡ s.cancel + bit (raises (Closes x d))) → (raises (Closes x d2) ≡ true → raises (Closes x d) ≡ true) → QuitStep p s.published w (Closes x d) (Closes x d2)
      → (c : ℕ) × (how : How) × (g x ≡ ClosedBy w c d how) × Holds p replies (record s { locks = locks; cancel = cancel; seats = set s.seats w (with_task seat (Closes x d2)); shown = shown }) (upd g x (ClosedBy w c d2 how))
  turn_closing_at x d d2 locks cancel shown e word locks_ok shown_ok mark below guard past passed owned ok even raise quit =
      let task : TaskOk p g w (Closes x d) = subst (TaskOk p g w) e mine.task in
      go task.1.0 task.1.1 task.0 task.1.2
    where
      closed_hand : (w c : ℕ) (d : Closing) (how : How) (v : ℕ) → ClosedBy w c d how ≡ InHand v → ⊥
      closed_hand w c d how v q = cc

      closed_waits : (w e : ℕ) (d : Closing) (how : How) (c : ℕ) (r : Status) → ClosedBy w e d how ≡ Waiting c r → ⊥
      closed_waits w e d how c r q = cc

      go : (c : ℕ) (how : How) → x < size p.tree → g x ≡ ClosedBy w c d how → (c : ℕ) × (how : How) × (g x ≡ ClosedBy w c d how) × Holds p replies (record s { locks = locks; cancel = cancel; seats = set s.seats w (with_task seat (Closes x d2)); shown = shown }) (upd g x (ClosedBy w c d2 how))
      go c how inside at = (
        c,
        how,
        at,
        alike p core.plan replies s g h w seat is x (ClosedBy w c d how) (ClosedBy w c d2 how) (with_task seat (Closes x d2)) s.statuses locks cancel shown (record {
          inside = inside;
          at = at;
          alone = λ v q. sym (same_Some w v q);
          still = still_about x (ap subject e) (Closes x d2);
          held = (with_task seat (Closes x d2), get_set_same s.seats w (with_task seat (Closes x d2)) seat is, refl);
          seat_ok = seat_goes p g s.published w seat x (ClosedBy w c d how) (ClosedBy w c d2 how) (Closes x d2) mine at (λ q. closed_hand w c d how w q) (λ q. ap not (sym past) ∙ q) (inside, (c, how, upd_same g x (ClosedBy w c d2 how) x refl)) tt
              (λ q. ap raises e ∙ raise q) (subst (λ t. QuitStep p s.published w t (Closes x d2)) (sym e) quit);
          statuses_ok = words_keep p s.statuses g x (ClosedBy w c d how) (ClosedBy w c d2 how) at (word c how) (h.statuses_len, h.words);
          locks_ok = locks_ok c how at;
          not_waiting = λ v r q. closed_waits w c d2 how v r q;
          mark = mark c how;
          same_starter = ap (λ m. starter_by m (picture p x (ClosedBy w c d2 how)).word) (sym (mark c how)) ∙ ap (starter_by (picture p x (ClosedBy w c d how)).mark) (sym (word c how));
          guard = guard c how;
          same_below = below c how;
          pends = refl;
          live = refl;
          owned = λ v ch same o from r q. owned v ch o from r q;
          raising = λ ff. even ff ∙ ap (λ t. s.cancel + bit (raises t)) (sym e);
          shown_ok = shown_ok;
          shape = ok c how (subst (ShapeOk p replies s.published x) at (h.shapes x inside));
          past = passed;
          quiet = λ z q. inl (ap not (sym past) ∙ q);
        }),
      )

  pub turn_closing : (x : ℕ) (d d2 : Closing) (locks : List LockWord) (cancel : ℕ) (shown : List Bool) → seat.task ≡ Closes x d
      → ((c : ℕ) (how : How) → (picture p x (ClosedBy w c d how)).word ≡ (picture p x (ClosedBy w c d2 how)).word) → ((c : ℕ) (how : How) → g x ≡ ClosedBy w c d how → LockList p locks (upd g x (ClosedBy w c d2 how))) → ShownOk s shown
      → ((c : ℕ) (how : How) → (picture p x (ClosedBy w c d how)).mark ≡ (picture p x (ClosedBy w c d2 how)).mark) → ((c : ℕ) (how : How) → (picture p x (ClosedBy w c d how)).below ≡ (picture p x (ClosedBy w c d2 how)).below)
      → ((c : ℕ) (how : How) → (picture p x (ClosedBy w c d how)).guard ≡ (picture p x (ClosedBy w c d2 how)).guard)
      → closing_past d2 ≡ closing_past d → (closing_passed d ≡ true → closing_passed d2 ≡ true) → ((c : ℕ) → IsChild p.tree c x → (o from : ℕ) → (picture p c (g c)).below ≡ Runs o from → passes_to o d ≡ true → passes_to o d2 ≡ true)
      → ((c : ℕ) (how : How) → ClosingOk p replies s.published x d how → ClosingOk p replies s.published x d2 how)
      → (p.fail_fast ≡ true → cancel + bit (raises (Closes x d2)) ≡ s.cancel + bit (raises (Closes x d))) → (raises (Closes x d2) ≡ true → raises (Closes x d) ≡ true) → QuitStep p s.published w (Closes x d) (Closes x d2)
      → IsKept p replies (record s { locks = locks; cancel = cancel; seats = set s.seats w (with_task seat (Closes x d2)); shown = shown })
  turn_closing x d d2 locks cancel shown e word locks_ok shown_ok mark below guard past passed owned ok even raise quit =
      let r = turn_closing_at x d d2 locks cancel shown e word locks_ok shown_ok mark below guard past passed owned ok even raise quit in (upd g x (ClosedBy w r.0 d2 r.1), r.3)

  -- keys that stay as they are
  keys_stay : (x : ℕ) (a b : Stage) → x < size p.tree → g x ≡ a → (picture p x a).keys ≡ (picture p x b).keys → LockList p s.locks (upd g x b)
  keys_stay x a b inside at same = locks_keep p s.locks g x a b inside at same h.locks

  opening_at : (x : ℕ) (d : Opening) → seat.task ≡ Opens x d → (x < size p.tree) × (g x ≡ OpenedBy w d)
  opening_at x d e = subst (TaskOk p g w) e mine.task

  opening_shape : (x : ℕ) (d : Opening) → seat.task ≡ Opens x d → OpeningOk p replies s.published x d
  opening_shape x d e = (let t = opening_at x d e in subst (ShapeOk p replies s.published x) t.1 (h.shapes x t.0))

  -- the worker goes on with the next key, or begins
  locks_on : (x i : ℕ) (d : Opening) (locks : List LockWord) → seat.task ≡ Opens x d → (picture p x (OpenedBy w d)).word ≡ Claimed w → (picture p x (OpenedBy w d)).mark ≡ (picture p x (OpenedBy w (Locking i))).mark → (picture p x (OpenedBy w d)).below ≡ Shut → (picture p x (OpenedBy w d)).guard ≡ 1
      → opening_offered d ≡ true → is_disabled p.tree x ≡ false → i ≤ keys_count p x → QuitStep p s.published w (Opens x d) (Opens x (Beginning false))
      → ((b : Opening) → (picture p x (OpenedBy w b)).keys ≡ i → LockList p locks (upd g x (OpenedBy w b)))
      → IsKept p replies (record s { locks = locks; seats = goes_to s w (with_task seat (Opens x (lock_from p x i))) })
  locks_on x i d locks e word mark below guard offered enabled le quit locks_ok =
      by_cond (λ d2. IsKept p replies (record s { locks = locks; seats = goes_to s w (with_task seat (Opens x d2)) })) (nat_lt i (keys_count p x)) (Locking i) (Beginning false)
      (λ q. turn x d (Locking i) locks s.shown e word (locks_ok (Locking i) refl) same_shown mark below guard (λ _. offered) (λ b. absurd (false≢true b)) (ltb-true i (keys_count p x) q, enabled) quit)
      (λ q. (let ge = ltb-false i (keys_count p x) q in turn x d (Beginning false) locks s.shown e word (locks_ok (Beginning false) (omega (arith, le, ge))) same_shown mark below guard (λ _. offered) (λ b. absurd (false≢true b)) enabled quit))

  pub notice_keeps : (t0 : Task) → seat.task ≡ t0 → (t : State) → notice_row p s w seat t0 ≡ Some t → IsKept p replies t
  notice_keeps (Opens x Noticing) e t q =
      let ok = opening_shape x Noticing e in
      let at = opening_at x Noticing e in
      kept_some p replies (goes s w seat (Opens x (begins p x (is_cancelled p s)))) t
      (by_cond (λ d2. IsKept p replies (goes s w seat (Opens x d2))) (is_cancelled p s) (Beginning true) (lock_from p x 0)
      (λ c. turn x Noticing (Beginning true) s.locks s.shown e refl (keys_stay x (OpenedBy w Noticing) (OpenedBy w (Beginning true)) at.0 at.1 refl) same_shown refl refl refl (λ r. r) (λ b. absurd (false≢true b)) (ok.1, inr (ok.0, over ok.0 c))
      (quit_calm p s.published w (Opens x Noticing) (Opens x (Beginning true)) refl))
      (λ c. locks_on x 0 Noticing s.locks e refl refl refl refl refl ok.2 (omega arith) (λ ff old bold. under ff c) (λ b kb. keys_stay x (OpenedBy w Noticing) (OpenedBy w b) at.0 at.1 (sym kb))))
      q
    where
      over : p.fail_fast ≡ true → is_cancelled p s ≡ true → p.tolerated < failures s.published
      over ff c = (let few : s.cancel ≤ failures s.published = raised_few p replies s g h ff in let more = ltb-true p.tolerated s.cancel c in omega (arith, few, more))

      under : p.fail_fast ≡ true → is_cancelled p s ≡ false → known (w + 1) (up_to (w + 1) s.published) ≤ p.tolerated
      under ff c =
          let few : known (w + 1) (up_to (w + 1) s.published) ≤ s.cancel = knows_few p replies s g h ff w seat is (ap raises e) in
          let more = ltb-false p.tolerated s.cancel c in
          omega (arith, few, more)
  notice_keeps _ e t q = absurd (none-some t q)

  pub weigh_keeps : (t0 : Task) → seat.task ≡ t0 → (t : State) → weigh_row p s w seat t0 ≡ Some t → IsKept p replies t
  weigh_keeps (Opens x (Locking i)) e t q =
      let ok = opening_shape x (Locking i) e in
      let at = opening_at x (Locking i) e in
      let word = lock_at s (key_at p x i) in
      kept_some p replies (goes s w seat (Opens x (weighed p x i (lock_at s (key_at p x i))))) t
      (by_cond (λ d2. IsKept p replies (goes s w seat (Opens x d2))) (admits_at p x i (lock_at s (key_at p x i))) (Weighed i (lock_at s (key_at p x i))) (Backing i)
      (λ c. turn x (Locking i) (Weighed i (lock_at s (key_at p x i))) s.locks s.shown e refl (keys_stay x (OpenedBy w (Locking i)) (OpenedBy w (Weighed i (lock_at s (key_at p x i)))) at.0 at.1 refl) same_shown refl refl refl (λ r. r) (λ b. absurd (false≢true b)) (ok.0, ok.1, c)
      (quit_same p s.published w (Opens x (Locking i)) (Opens x (Weighed i (lock_at s (key_at p x i)))) refl))
      (λ c. turn x (Locking i) (Backing i) s.locks s.shown e refl (keys_stay x (OpenedBy w (Locking i)) (OpenedBy w (Backing i)) at.0 at.1 refl) same_shown refl refl refl (λ r. r) (λ b. absurd (false≢true b)) (let lt = ok.0 in omega (arith, lt))
      (quit_same p s.published w (Opens x (Locking i)) (Opens x (Backing i)) refl)))
      q
  weigh_keeps _ e t q = absurd (none-some t q)

  pub take_keeps : (t0 : Task) → seat.task ≡ t0 → (t : State) → take_row p s w seat t0 ≡ Some t → IsKept p replies t
  take_keeps (Opens x (Weighed i v)) e t q = go (slice_get s.locks (key_at p x i)) refl q
    where
      ok : (i < keys_count p x) × (is_disabled p.tree x ≡ false) × (admits_at p x i v ≡ true)
      ok = opening_shape x (Weighed i v) e

      at : (x < size p.tree) × (g x ≡ OpenedBy w (Weighed i v))
      at = opening_at x (Weighed i v) e

      same : (a b : LockWord) → same_word a b ≡ true → a ≡ b
      same (Readers a) (Readers b) r = ap Readers (eqb-true a b r)
      same Written Written r = refl
      same (Readers a) Written r = absurd (false≢true r)
      same Written (Readers b) r = absurd (false≢true r)

      go : (found : Option LockWord) → slice_get s.locks (key_at p x i) ≡ found → take_found p s w seat x i v found ≡ Some t → IsKept p replies t
      go None f r = absurd (none-some t r)
      go (Some word) f r =
          by_cond (λ o. o ≡ Some t → IsKept p replies t) (same_word word v) (Some (puts_word s w seat (Opens x (lock_from p x (suc i))) (key_at p x i) (taken (mode_at p x i) word))) (Some (goes s w seat (Opens x (Locking i))))
          (λ c. (let admit : admits_at p x i word ≡ true = ap (admits_at p x i) (same word v c) ∙ ok.2 in
          let lt = ok.0 in
          kept_some p replies (puts_word s w seat (Opens x (lock_from p x (suc i))) (key_at p x i) (taken (mode_at p x i) word)) t
          (locks_on x (suc i) (Weighed i v) (set s.locks (key_at p x i) (taken (mode_at p x i) word)) e refl refl refl refl refl ok.1 (omega (arith, lt)) (quit_same p s.published w (Opens x (Weighed i v)) (Opens x (Beginning false)) refl)
          (λ b kb. locks_take p s.locks g x i (OpenedBy w (Weighed i v)) (OpenedBy w b) word at.0 at.1 refl kb f admit h.locks))))
          (λ c. kept_some p replies (goes s w seat (Opens x (Locking i))) t
          (turn x (Weighed i v) (Locking i) s.locks s.shown e refl (keys_stay x (OpenedBy w (Weighed i v)) (OpenedBy w (Locking i)) at.0 at.1 refl) same_shown refl refl refl (λ u. u) (λ b. absurd (false≢true b)) (ok.0, ok.1)
          (quit_same p s.published w (Opens x (Weighed i v)) (Opens x (Locking i)) refl)))
          r
  take_keeps _ e t q = absurd (none-some t q)

  closing_at : (x : ℕ) (d : Closing) → seat.task ≡ Closes x d → TaskOk p g w (Closes x d)
  closing_at x d e = subst (TaskOk p g w) e mine.task

  pub closing_shape : (x : ℕ) (d : Closing) → seat.task ≡ Closes x d → (c : ℕ) × (how : How) × ClosingOk p replies s.published x d how
  closing_shape x d e = (let t = closing_at x d e in (t.1.0, t.1.1, subst (ShapeOk p replies s.published x) t.1.2 (h.shapes x t.0)))

  -- the worker goes on where k keys are left to give back
  gives_on : (x k : ℕ) (d : Closing) (locks : List LockWord) (cancel : ℕ) (shown : List Bool) → seat.task ≡ Closes x d → ((c : ℕ) (how : How) → (picture p x (ClosedBy w c d how)).word ≡ Claimed c)
      → ((c : ℕ) (how : How) → (picture p x (ClosedBy w c d how)).mark ≡ (picture p x (ClosedBy w c Settling how)).mark) → ((c : ℕ) (how : How) → (picture p x (ClosedBy w c d how)).below ≡ (picture p x (ClosedBy w c Settling how)).below)
      → ((c : ℕ) (how : How) → (picture p x (ClosedBy w c d how)).guard ≡ (picture p x (ClosedBy w c Settling how)).guard) → closing_past d ≡ false → ShownOk s shown
      → (p.fail_fast ≡ true → cancel + 0 ≡ s.cancel + bit (raises (Closes x d))) → ((d2 : Closing) → is_bold (Closes x d2) ≡ false → QuitStep p s.published w (Closes x d) (Closes x d2))
      → ((c : ℕ) (how : How) (d2 : Closing) → g x ≡ ClosedBy w c d how → (picture p x (ClosedBy w c d2 how)).keys ≡ k → LockList p locks (upd g x (ClosedBy w c d2 how))) → k ≤ keys_count p x
      → IsKept p replies (record s { locks = locks; cancel = cancel; seats = set s.seats w (with_task seat (Closes x (giving k))); shown = shown })
  gives_on x zero d locks cancel shown e word mark below guard past shown_ok even quit locks_ok le =
      turn_closing x d Settling locks cancel shown e word (λ c how at. locks_ok c how Settling at refl) shown_ok mark below guard (sym past) (λ u. absurd (both_ways (closing_passed d) (past_passed d past) u)) (λ c ch o from r u. refl) (λ c how u. tt) even (λ u. absurd (false≢true u)) (quit Settling refl)
  gives_on x (suc i) d locks cancel shown e word mark below guard past shown_ok even quit locks_ok le =
      turn_closing x d (Giving (suc i)) locks cancel shown e word (λ c how at. locks_ok c how (Giving (suc i)) at refl) shown_ok mark below guard (sym past) (λ u. absurd (both_ways (closing_passed d) (past_passed d past) u)) (λ c ch o from r u. refl) (λ c how u. le) even (λ u. absurd (false≢true u)) (quit (Giving (suc i)) refl)

  pub give_keeps : (t0 : Task) → seat.task ≡ t0 → (t : State) → give_row p s w seat t0 ≡ Some t → IsKept p replies t
  give_keeps (Opens x (Backing (suc i))) e t q = go (slice_get s.locks (key_at p x i)) refl q
    where
      at : (x < size p.tree) × (g x ≡ OpenedBy w (Backing (suc i)))
      at = opening_at x (Backing (suc i)) e

      less : (i : ℕ) → suc i ≤ keys_count p x → i ≤ keys_count p x
      less i le = omega (arith, le)

      go : (found : Option LockWord) → slice_get s.locks (key_at p x i) ≡ found → gives_key p s w seat (Opens x (Backing i)) x i found ≡ Some t → IsKept p replies t
      go None f r = absurd (none-some t r)
      go (Some word) f r = kept_some p replies (puts_word s w seat (Opens x (Backing i)) (key_at p x i) (given_back (mode_at p x i) word)) t
          (turn x (Backing (suc i)) (Backing i) (set s.locks (key_at p x i) (given_back (mode_at p x i) word)) s.shown e refl (locks_give p s.locks g x i (OpenedBy w (Backing (suc i))) (OpenedBy w (Backing i)) word at.0 at.1 refl refl f h.locks) same_shown refl refl refl (λ u. u) (λ b. absurd (false≢true b)) (less i (opening_shape x (Backing (suc i)) e))
          (quit_same p s.published w (Opens x (Backing (suc i))) (Opens x (Backing i)) refl))
          r
  give_keeps (Closes x (Giving (suc i))) e t q = go (slice_get s.locks (key_at p x i)) refl q
    where
      less : suc i ≤ keys_count p x → i ≤ keys_count p x
      less le = omega (arith, le)

      go : (found : Option LockWord) → slice_get s.locks (key_at p x i) ≡ found → gives_key p s w seat (Closes x (giving i)) x i found ≡ Some t → IsKept p replies t
      go None f r = absurd (none-some t r)
      go (Some word) f r = kept_some p replies (puts_word s w seat (Closes x (giving i)) (key_at p x i) (given_back (mode_at p x i) word)) t
          (gives_on x i (Giving (suc i)) (set s.locks (key_at p x i) (given_back (mode_at p x i) word)) s.cancel s.shown e (λ c how. refl) (λ c how. refl) (λ c how. refl) (λ c how. refl) refl same_shown (λ ff. refl) (λ d2 b. quit_calm p s.published w (Closes x (Giving (suc i))) (Closes x d2) b)
          (λ c how d2 at kb. locks_give p s.locks g x i (ClosedBy w c (Giving (suc i)) how) (ClosedBy w c d2 how) word (closing_at x (Giving (suc i)) e).0 at refl kb f h.locks) (less (closing_shape x (Giving (suc i)) e).2))
          r
  give_keeps _ e t q = absurd (none-some t q)

  pub raise_keeps : (t0 : Task) → seat.task ≡ t0 → (t : State) → raise_row p s w seat t0 ≡ Some t → IsKept p replies t
  raise_keeps (Closes x Raising) e t q = kept_some p replies (raised p s w seat x) t
      (gives_on x (keys_count p x) Raising s.locks (s.cancel + 1) s.shown e (λ c how. refl) (λ c how. refl) (λ c how. refl) (λ c how. refl) refl same_shown (λ ff. omega arith)
      (λ d2 b. quit_calm p s.published w (Closes x Raising) (Closes x d2) b)
      (λ c how d2 at kb. keys_stay x (ClosedBy w c Raising how) (ClosedBy w c d2 how) (closing_at x Raising e).0 at (sym kb)) (le_refl (keys_count p x)))
      q
  raise_keeps _ e t q = absurd (none-some t q)

  pub show_closing_keeps : (x i : ℕ) (status : Status) → seat.task ≡ Closes x (FinishedAt i status) → IsKept p replies (shows s w (with_task seat (Closes x (after_finish p x status))) i)
  show_closing_keeps x i status e =
      by_cond (λ d2. IsKept p replies (shows s w (with_task seat (Closes x d2)) i)) (p.fail_fast && is_failed_or (Some status)) Raising (giving (keys_count p x))
      (λ c. turn_closing x (FinishedAt i status) Raising s.locks s.cancel (set s.shown i true) e (λ v how. refl) (λ v how at. keys_stay x (ClosedBy w v (FinishedAt i status) how) (ClosedBy w v Raising how) (closing_at x (FinishedAt i status) e).0 at refl) (shown_set i)
      (λ v how. refl) (λ v how. refl) (λ v how. refl) refl (λ u. absurd (false≢true u)) (λ v ch o from r u. refl) (λ v how u. (and_parts p.fail_fast (is_failed_or (Some status)) c).0) (λ ff. ap (λ (b : Bool). s.cancel + bit b) (sym (and_parts p.fail_fast (is_failed_or (Some status)) c).1)) (λ u. (and_parts p.fail_fast (is_failed_or (Some status)) c).1) (quit_calm p s.published w (Closes x (FinishedAt i status)) (Closes x Raising) refl))
      (λ c. gives_on x (keys_count p x) (FinishedAt i status) s.locks s.cancel (set s.shown i true) e (λ v how. refl) (λ v how. refl) (λ v how. refl) (λ v how. refl) refl (shown_set i) (λ ff. ap (λ (b : Bool). s.cancel + bit b) (sym (false_from_ne_true (is_failed_or (Some status)) (λ y. both_ways (p.fail_fast && is_failed_or (Some status)) c (and_from p.fail_fast (is_failed_or (Some status)) ff y)))))
      (λ d2 b. quit_calm p s.published w (Closes x (FinishedAt i status)) (Closes x d2) b)
      (λ v how d2 at kb. keys_stay x (ClosedBy w v (FinishedAt i status) how) (ClosedBy w v d2 how) (closing_at x (FinishedAt i status) e).0 at (sym kb)) (le_refl (keys_count p x)))

  pub show_skipped_keeps : (x i : ℕ) → seat.task ≡ Closes x (SkippedAt i) → IsKept p replies (shows s w (with_task seat (Closes x Settling)) i)
  show_skipped_keeps x i e =
      turn_closing x (SkippedAt i) Settling s.locks s.cancel (set s.shown i true) e (λ v how. refl) (λ v how at. keys_stay x (ClosedBy w v (SkippedAt i) how) (ClosedBy w v Settling how) (closing_at x (SkippedAt i) e).0 at refl) (shown_set i)
      (λ v how. refl) (λ v how. refl) (λ v how. refl) refl (λ u. absurd (false≢true u)) (λ v ch o from r u. refl) (λ v how u. tt) (λ ff. refl) (λ u. absurd (false≢true u)) (quit_calm p s.published w (Closes x (SkippedAt i)) (Closes x Settling) refl)

  pub show_registered_keeps : (x i : ℕ) → seat.task ≡ Opens x (RegisteredAt i) → IsKept p replies (shows s w (with_task seat (Opens x Offering)) i)
  show_registered_keeps x i e =
      let at = opening_at x (RegisteredAt i) e in
      turn x (RegisteredAt i) Offering s.locks (set s.shown i true) e refl (keys_stay x (OpenedBy w (RegisteredAt i)) (OpenedBy w Offering) at.0 at.1 refl) (shown_set i) refl refl refl (λ u. u) (λ b. (refl, λ r. not_registering r)) tt
      (quit_calm p s.published w (Opens x (RegisteredAt i)) (Opens x Offering) refl)
    where
      not_registering : Offering ≡ Registering → ⊥
      not_registering r = cc

  pub show_started_keeps : (x i : ℕ) → seat.task ≡ Opens x (StartedAt i) → pulls_job p x ≡ false → IsKept p replies (shows s w (with_task seat (Opens x Awaiting)) i)
  show_started_keeps x i e no' =
      let at = opening_at x (StartedAt i) e in
      turn x (StartedAt i) Awaiting s.locks (set s.shown i true) e refl (keys_stay x (OpenedBy w (StartedAt i)) (OpenedBy w Awaiting) at.0 at.1 refl) (shown_set i) refl refl refl (λ u. u) (λ b. absurd (false≢true b)) no'
      (quit_calm p s.published w (Opens x (StartedAt i)) (Opens x Awaiting) refl)

  -- look: the claimer of the parent is the one that the sibling is passed to
  pub look_keeps : (t0 : Task) → seat.task ≡ t0 → (t : State) → look_row p s w seat t0 ≡ Some t → IsKept p replies t
  look_keeps Free e t q = kept_some p replies s t (g, h) q
  look_keeps (Closes x (Looking m)) e t q = go (status_at s (parent_of p.tree x)) refl q
    where
      go : (status : NodeStatus) → status_at s (parent_of p.tree x) ≡ status → look_found s w seat x m status ≡ Some t → IsKept p replies t
      go (Claimed o) is_it r = kept_some p replies (goes s w seat (Closes x (Passing m o))) t
          (turn_closing x (Looking m) (Passing m o) s.locks s.cancel s.shown e (λ v how. refl) (λ v how at. keys_stay x (ClosedBy w v (Looking m) how) (ClosedBy w v (Passing m o) how) (closing_at x (Looking m) e).0 at refl) same_shown
          (λ v how. refl) (λ v how. refl) (λ v how. refl) refl (λ u. absurd (false≢true u))
          (λ c ch other from runs u. same_claim o other (sym is_it ∙ ap (status_at s) ch.parent ∙ h.words c (parent_inside p core.plan c x ch) ∙ (runs_is p c (g c) other (ap runner_of runs)).0))
          (λ v how u. u) (λ ff. refl) (λ u. absurd (false≢true u)) (quit_calm p s.published w (Closes x (Looking m)) (Closes x (Passing m o)) refl))
          r
        where
          same_claim : (a b : ℕ) → Claimed a ≡ Claimed b → (a == b) ≡ true
          same_claim a b q = eq-eqb a b (claim_number a b q)
      go Hidden is_it r = absurd (none-some t r)
      go (Ready o) is_it r = absurd (none-some t r)
      go Settled is_it r = absurd (none-some t r)
  look_keeps _ e t q = absurd (none-some t q)
