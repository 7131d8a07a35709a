-- The rows done, of a child that is counted off, and add_child.
use Rattle.std.specs.Option.{is_some}
use Rattle.std.proofs.Common.{◌≡◌, ◌≢◌, ℕ, ◌+◌, ◌-◌, ◌<◌, ◌≤◌, true, false, ◌&&◌, ◌==◌, not, nat_lt, List, length, set, get_or, Option, Some, None, slice_get, slice_set, ◌⊎◌, inl, inr, refl, sym, ap, ◌∙◌, subst, arith}
use Rattle.std.proofs.lemmas.Option.{same_Some, none-some}
use Rattle.std.proofs.lemmas.Grind.{get_or-set_at}
use Rattle.std.proofs.lemmas.Bool.{cases_eq, cases_Bool, false≢true, both_ways, and_parts, and_from, eqb-true, eq-eqb}
use Rattle.std.proofs.Math.Seq.{take-length}
use Rattle.descriptor.specs.Nodes.{size, parent_of, IsChild, is_child, is_spare_at, body_of, count_below, bit}
use Rattle.plan_events.specs.declared.status.Status.{Status}
use Rattle.plan_events.specs.declared.event.EventKind.TheVariants.{Registered}
use Rattle.plan_events.specs.declared.event.Event.{Event}
use Rattle.plan_events.specs.declared.outcome.Reply.{Reply}
use Rattle.plan_events.specs.declared.status.Status.TheVariants.{Successful}
use Rattle.resource_locks.specs.Plans.{PlanParts}
use Rattle.event_history.specs.Plans.{Sort, Leaf, Holder, Maker, IsElder, is_same, is_spare_of, sort_of, pulls_job, rank}
use Rattle.event_history.specs.Places.{has}
use Rattle.event_history.specs.Order.{goes_first}
use Rattle.event_history.specs.Inside.Following.{registered_in}
use Rattle.event_history.specs.History.{registered_before}
use Rattle.event_history.proofs.Spares.{is_maker, pulls_sort}
use Rattle.event_history.proofs.Trees.{is_child_test}
use Rattle.event_history.proofs.Places.{has_before}
use Rattle.event_history.proofs.Counting.{rank_less}
use Rattle.scheduling.specs.declared.status.NodeStatus.TheVariants.{Settled}
use Rattle.scheduling.specs.declared.task.Opening.{Opening}
use Rattle.scheduling.specs.declared.task.Opening.TheVariants.{Registering, RegisteredAt, Offering, Beginning, Guarding}
use Rattle.scheduling.specs.declared.task.Closing.{Closing}
use Rattle.scheduling.specs.declared.task.Closing.TheVariants.{AwaitingAfter, Ending, FinishedAt, SkippedAt, Raising, Giving, Settling, Looking, Passing, CountingOff}
use Rattle.scheduling.specs.declared.task.Task.{Task}
use Rattle.scheduling.specs.declared.task.Task.TheVariants.{Free, Opens, Closes}
use Rattle.scheduling.specs.declared.seat.Hand.{Hand}
use Rattle.scheduling.specs.declared.seat.Seat.{Seat}
use Rattle.scheduling.specs.State.{State, counter_at, result_at, subject}
use Rattle.scheduling.specs.Choices.{ending, is_pulled, pulled_result, is_spare_ranked, next_spare}
use Rattle.scheduling.specs.Rows.{with_task, goes_to, child_added, add_by_hand, add_child_hand, add_child_row, guard_given, counted_off, done_by_hand, done_hand, done_row}
use Rattle.scheduling.specs.Inside.Stages.{How, Gave, Kept, Skips, Stage, Unseen, Offered, OpenedBy, InHand, Waiting, ClosedBy, Over, has_mark, picture, closing_picture, mark_of, runner_of, is_unseen, is_pending, is_past, is_unsettled, brings, raises}
use Rattle.scheduling.specs.Inside.Invariant.{IsCorePlan, IsNextSame, ShapeOk, Fits, TaskOk, HandOk, IsInHand, IsBrought, BringsOk, SeatOk, HeldBy, Holds, IsKept}
use Rattle.scheduling.proofs.Basics.{upd, upd_same, upd_other, get_set_same, set_twice, IsFirst, first_some}
use Rattle.scheduling.proofs.StageMove.{hand_apart}
use Rattle.scheduling.proofs.Parts.{words_keep, locks_keep, counters_child, pending_change, fits_live, fits_runs, QuitStep, quit_calm}
use Rattle.scheduling.proofs.Silent.{silent, seat_goes}
use Rattle.scheduling.proofs.RowsOne.{by_cond, kept_some, still_about, same_shown, parent_inside}
use Rattle.scheduling.proofs.RowsWord.{ended_starter}
use Rattle.scheduling.proofs.RowsBelow.{results_keep}
use Rattle.scheduling.proofs.RowsTwo.{ends_last, over_waits, opened_waits, closed_hand}
use Rattle.scheduling.proofs.Spares.{elder_is_registered}
use Rattle.scheduling.proofs.RowsEnd.{waiting_is, done_guard, done_of_hand}

-- a spare that is not registered is unseen, or to be registered
blank_is : (p : PlanParts) (n : ℕ) (st : Stage) → has_mark true Registered (picture p n st).mark ≡ false → (st ≡ Unseen) ⊎ ((v : ℕ) × (st ≡ OpenedBy v Registering))
blank_is p n Unseen q = inl refl
blank_is p n (OpenedBy v Registering) q = inr (v, refl)
blank_is p n (OpenedBy v (Beginning true)) q = absurd (false≢true (sym q))
blank_is p n (OpenedBy v (Beginning false)) q = absurd (false≢true (sym q))
blank_is p n (ClosedBy w c d how) q = absurd (closed d how q)
  where
    ended : (how : How) → has_mark true Registered (mark_of how) ≡ false → ⊥
    ended Gave q = false≢true (sym q)
    ended Kept q = false≢true (sym q)
    ended Skips q = false≢true (sym q)

    closed : (d : Closing) (how : How) → has_mark true Registered (closing_picture p n c d how).mark ≡ false → ⊥
    closed AwaitingAfter how q = false≢true (sym q)
    closed (Ending s) how q = false≢true (sym q)
    closed (FinishedAt i s) how q = ended how q
    closed (SkippedAt i) how q = ended how q
    closed Raising how q = ended how q
    closed (Giving i) how q = ended how q
    closed Settling how q = ended how q
    closed (Looking m) how q = ended how q
    closed (Passing m o) how q = ended how q
    closed CountingOff how q = ended how q
blank_is p n (Over Gave) q = absurd (false≢true (sym q))
blank_is p n (Over Kept) q = absurd (false≢true (sym q))
blank_is p n (Over Skips) q = absurd (false≢true (sym q))
blank_is p n _ q = absurd (false≢true (sym q))

-- a registered spare that nobody brings in, and that is not unsettled, is past
past_if : (p : PlanParts) (n : ℕ) (st : Stage) → has_mark true Registered (picture p n st).mark ≡ true → is_unsettled st ≡ false → ((v : ℕ) (d : Opening) → st ≡ OpenedBy v d → brings d ≡ true → ⊥)
    → ((v c m : ℕ) (how : How) → st ≡ ClosedBy v c (Looking m) how → ⊥) → ((v c m o : ℕ) (how : How) → st ≡ ClosedBy v c (Passing m o) how → ⊥) → is_past st ≡ true
past_if p n Unseen q u a b c = absurd (false≢true q)
past_if p n (Offered o) q u a b c = absurd (false≢true (sym u))
past_if p n (OpenedBy v Registering) q u a b c = absurd (a v Registering refl refl)
past_if p n (OpenedBy v (RegisteredAt i)) q u a b c = absurd (a v (RegisteredAt i) refl refl)
past_if p n (OpenedBy v Offering) q u a b c = absurd (a v Offering refl refl)
past_if p n (OpenedBy v _) q u a b c = absurd (false≢true (sym u))
past_if p n (InHand v) q u a b c = absurd (false≢true (sym u))
past_if p n (Waiting v r) q u a b c = absurd (false≢true (sym u))
past_if p n (ClosedBy v e (Looking m) how) q u a b c = absurd (b v e m how refl)
past_if p n (ClosedBy v e (Passing m o) how) q u a b c = absurd (c v e m o how refl)
past_if p n (ClosedBy v e CountingOff how) q u a b c = refl
past_if p n (ClosedBy v e _ how) q u a b c = absurd (false≢true (sym u))
past_if p n (Over how) q u a b c = refl

pub maker_is : (sort : Sort) (body : Option ℕ) → (is_maker sort && is_some body) ≡ true → sort ≡ Maker
maker_is Maker body q = refl
maker_is Leaf body q = absurd (false≢true q)
maker_is Holder body q = absurd (false≢true q)

module _ (p : PlanParts) (core : IsCorePlan p) (replies : ℕ → List Reply) (s : State) (g : ℕ → Stage) (h : Holds p replies s g) (w : ℕ) (seat : Seat) (is : slice_get s.seats w ≡ Some seat) where
  seated : SeatOk p g s.published w seat
  seated = h.seats w seat is

  done_up : (x : ℕ) → seat.task ≡ Closes x CountingOff → IsKept p replies (counted_off p s w seat (parent_of p.tree x))
  done_up x e = (let task : TaskOk p g w (Closes x CountingOff) = subst (TaskOk p g w) e seated.task in go task.1.0 task.1.1 task.0 task.1.2)
    where
      go : (c : ℕ) (how : How) → x < size p.tree → g x ≡ ClosedBy w c CountingOff how → IsKept p replies (counted_off p s w seat (parent_of p.tree x))
      go c how inside at =
          by_cond (λ t. IsKept p replies (record s { counters = slice_set s.counters a (counter_at s a - 1); seats = goes_to s w (with_task seat t) })) (counter_at s a == 1) (Closes a (ending p a (result_at s a))) Free
          (λ one. last (eqb-true (counter_at s a) 1 one)) (λ other. (upd g x (Over how), first))
        where
          a : ℕ
          a = parent_of p.tree x

          pos : 0 < x
          pos = subst (ShapeOk p replies s.published x) at (h.shapes x inside)

          ch : IsChild p.tree a x
          ch = record { above_zero = pos; inside = inside; parent = refl }

          a_inside : a < size p.tree
          a_inside = parent_inside p core.plan a x ch

          some : 1 ≤ counter_at s a
          some =
              let o = h.counters a a_inside in
              let c' = pending_change p g x (Over how) a ch in
              let u : bit (is_pending (is_spare_at p.tree x) (g x)) ≡ 1 = ap (λ st. bit (is_pending (is_spare_at p.tree x) st)) at in
              omega (arith, o, c', u)

          first : Holds p replies (record s { counters = slice_set s.counters a (counter_at s a - 1); seats = set s.seats w (with_task seat Free) }) (upd g x (Over how))
          first = silent p core.plan replies s g h w seat is x (ClosedBy w c CountingOff how) (Over how) (with_task seat Free) s.statuses (set s.counters a (counter_at s a - 1)) s.results s.locks s.cancel s.shown (record {
            inside = inside;
            at = at;
            alone = λ v q. sym (same_Some w v q);
            still = still_about p core replies s g h w seat is x (ap subject e) Free;
            held = tt;
            seat_ok = seat_goes p g s.published w seat x (ClosedBy w c CountingOff how) (Over how) Free seated at (λ q. closed_hand w c CountingOff how w q) (λ q. absurd (false≢true q)) tt tt (λ q. absurd (false≢true q))
                (subst (λ t. QuitStep p s.published w t Free) (sym e) (quit_calm p s.published w (Closes x CountingOff) Free refl));
            statuses_ok = words_keep p s.statuses g x (ClosedBy w c CountingOff how) (Over how) at refl (h.statuses_len, h.words);
            counters_ok = counters_child p s.counters g a x (counter_at s a - 1) (ClosedBy w c CountingOff how) (Over how) core.plan a_inside ch at refl (omega (arith, some)) (h.counters_len, h.counters);
            results_ok = results_keep p core replies s g h w seat is x (Over how) (λ v r q. over_waits how v r q);
            locks_ok = locks_keep p s.locks g x (ClosedBy w c CountingOff how) (Over how) inside at refl h.locks;
            mark = λ k. refl;
            starter = λ v q. absurd (none-some v (sym (ended_starter how Settled) ∙ q));
            raising = λ ff. ap (λ t. s.cancel + bit (raises t)) (sym e);
            shown_ok = same_shown p core replies s g h w seat is;
            shape = tt;
            above = λ k chk. fits_live p (picture p k (g k)).below k x (ClosedBy w c CountingOff how) (Over how) refl (λ same o from r q. refl) (subst (λ st. Fits p (picture p k (g k)).below k x st) at (h.edges k x chk));
            below = λ k chk. subst (λ st. Fits p (picture p x st).below x k (g k)) at (h.edges x k chk);
            past = λ q. refl;
            elders = λ k elder goes seen. h.elders k x elder goes (ap is_unseen at);
            quiet = λ z q. absurd (false≢true q);
          })

          last : counter_at s a ≡ 1 → IsKept p replies (record s { counters = slice_set s.counters a (counter_at s a - 1); seats = goes_to s w (with_task seat (Closes a (ending p a (result_at s a)))) })
          last is_one =
              let len = h.counters_len in
              let now : get_or (set s.counters a (counter_at s a - 1)) a 0 ≡ counter_at s a - 1 = get_or-set_at s.counters a a (counter_at s a - 1) 0 refl (omega (arith, len, a_inside)) in
              let o = first.counters a a_inside in
              let up : a < x = core.plan.rooted.up x pos inside in
              let ne : a ≢ x = λ q. omega (arith, q, up) in
              let fits : Fits p (picture p a (g a)).below a x (ClosedBy w c CountingOff how) = subst (λ st. Fits p (picture p a (g a)).below a x st) at (h.edges a x ch) in
              let runs = fits_runs p (picture p a (g a)).below a x (ClosedBy w c CountingOff how) refl fits in
              let wait = waiting_is p a (upd g x (Over how) a) runs.0 (ap (λ st. runner_of (picture p a st).below) (upd_other g x (Over how) a ne) ∙ ap runner_of runs.2) (omega (arith, o, now, is_one)) in
              finish wait.0 wait.1 wait.2 (omega (arith, now, is_one))
            where
              finish : (c2 : ℕ) (r : Status) → upd g x (Over how) a ≡ Waiting c2 r → get_or (set s.counters a (counter_at s a - 1)) a 0 ≡ 0 → IsKept p replies (record s { counters = slice_set s.counters a (counter_at s a - 1); seats = goes_to s w (with_task seat (Closes a (ending p a (result_at s a)))) })
              finish c2 r waits zero' =
                  let fin = ends_last p core replies (record s { counters = slice_set s.counters a (counter_at s a - 1); seats = set s.seats w (with_task seat Free) }) (upd g x (Over how)) first w (with_task seat Free) (get_set_same s.seats w (with_task seat Free) seat is) a c2 r refl a_inside waits zero' in
                  subst (λ q. IsKept p replies (record s { counters = slice_set s.counters a (counter_at s a - 1); seats = goes_to s w (with_task seat (Closes a (ending p a q))) })) (sym (first.results a c2 r a_inside waits))
                  (subst (λ l. IsKept p replies (record s { counters = slice_set s.counters a (counter_at s a - 1); seats = l })) (set_twice s.seats w (with_task seat Free) (with_task seat (Closes a (ending p a r)))) fin)

  pub done_keeps : (reply : Reply) → ((hand : Hand) (job : ℕ) → seat.task ≡ Free → seat.hand ≡ Some hand → body_of p.tree hand.factory ≡ Some job → (i : ℕ) × (slice_get (replies job) i ≡ Some reply)) → (t0 : Task) → seat.task ≡ t0 → (t : State) → done_row p s w seat reply t0 ≡ Some t → IsKept p replies t
  done_keeps reply given (Opens x Guarding) e t q = kept_some p replies (guard_given p s w seat.hand x Successful) t (done_guard p core replies s g h w seat is x e) q
  done_keeps reply given (Closes x CountingOff) e t q = kept_some p replies (counted_off p s w seat (parent_of p.tree x)) t (done_up x e) q
  done_keeps reply given Free e t q = by_hand seat.hand refl q
    where
      by_waiting : (hand : Hand) → seat.hand ≡ Some hand → (waiting : Option ℕ) → done_by_hand p s w reply hand.factory hand.registered waiting ≡ Some t → IsKept p replies t
      by_waiting hand is_hand (Some c) r = absurd (none-some t r)
      by_waiting hand is_hand None r =
          let ok : IsInHand p g s.published w hand = subst (HandOk p g s.published w) is_hand seated.hand in
          by_cond (λ o. o ≡ Some t → IsKept p replies t) (is_pulled p hand.factory hand.registered reply) (Some (guard_given p s w None hand.factory (pulled_result hand.registered reply))) None
          (λ pulled. kept_some p replies (guard_given p s w None hand.factory (pulled_result hand.registered reply)) t (done_of_hand p core replies s g h w seat is hand.factory hand.registered reply e ok.inside ok.at ok.count (λ job j. given hand job e is_hand j) pulled))
          (λ not' z. absurd (none-some t z)) r

      by_hand : (hand : Option Hand) → seat.hand ≡ hand → done_hand p s w reply hand ≡ Some t → IsKept p replies t
      by_hand None is_hand r = absurd (none-some t r)
      by_hand (Some hand) is_hand r = by_waiting hand is_hand hand.waiting r
  done_keeps reply given _ e t q = absurd (none-some t q)

  -- add_child: of the factory in hand, while nothing is waited for
  module _ (hand : Hand) (e : seat.task ≡ Free) (is_hand : seat.hand ≡ Some hand) (idle : hand.waiting ≡ None) (c : ℕ) (first : IsFirst (is_spare_ranked p hand.factory hand.registered) 0 (size p.tree) c) where
    ok : IsInHand p g s.published w hand
    ok = subst (HandOk p g s.published w) is_hand seated.hand

    at_spare : (is_spare_of p hand.factory c ≡ true) × (rank p c ≡ hand.registered)
    at_spare = (let a = and_parts (is_spare_of p hand.factory c) (rank p c == hand.registered) first.passes in (a.0, eqb-true (rank p c) hand.registered a.1))

    ch : IsChild p.tree hand.factory c
    ch = is_child_test p.tree hand.factory c first.high (and_parts (is_child p.tree hand.factory c) (is_spare_at p.tree c) at_spare.0).0

    spare : is_spare_at p.tree c ≡ true
    spare = (and_parts (is_child p.tree hand.factory c) (is_spare_at p.tree c) at_spare.0).1

    pulls : pulls_job p hand.factory ≡ true
    pulls = subst (ShapeOk p replies s.published hand.factory) ok.at (h.shapes hand.factory ok.inside)

    -- nobody brings a child of the factory in
    not_brought : (a : ℕ) → IsChild p.tree hand.factory a → (v : ℕ) (d : Opening) → g a ≡ OpenedBy v d → brings d ≡ true → ⊥
    not_brought a cha v d at b =
        let held : HeldBy s.seats a (OpenedBy v d) = subst (HeldBy s.seats a) at (h.held a cha.inside) in
        let other = h.seats v held.0 held.1 in
        let o : BringsOk p (Opens a d) held.0.hand = subst (λ t. BringsOk p t held.0.hand) held.2 other.brought in
        let brought : IsBrought p a d held.0.hand = o b in
        let theirs : IsInHand p g s.published v brought.held = subst (HandOk p g s.published v) brought.is other.hand in
        let same : InHand v ≡ InHand w = sym theirs.at ∙ ap g (sym brought.parent ∙ cha.parent) ∙ ok.at in
        elim (cases_eq v w) [
          | inl q ↦ free_not a d (sym (sym held.2 ∙ ap (λ (x : Seat). x.task) (same_Some held.0 seat (sym held.1 ∙ ap (slice_get s.seats) q ∙ is)) ∙ e))
          | inr ne ↦ hand_apart v w ne same
        ]
      where
        free_not : (a : ℕ) (d : Opening) → Free ≡ Opens a d → ⊥
        free_not a d q = cc

    c_unseen : g c ≡ Unseen
    c_unseen =
        elim (cases_Bool (has Registered c s.published)) [
          | inl t ↦ absurd (let b = has_before Registered c s.published t in
              let less = rank_less p replies (length s.seats) s.published h.published.legal hand.factory (length s.published) c spare ch b in
              let same : registered_before p s.published (length s.published) hand.factory ≡ registered_in p s.published hand.factory = ap (λ (l : List Event). count_below (λ x. is_spare_of p hand.factory x && has Registered x l) (size p.tree)) (take-length s.published) in
              let r = at_spare.1 in
              let k = ok.count in
              omega (arith, less, same, r, k))
          | inr f ↦ elim (blank_is p c (g c) (ap (λ b. has_mark b Registered (picture p c (g c)).mark) (sym spare) ∙ sym (h.flags Registered c first.high) ∙ f)) [
            | inl u ↦ u
            | inr v ↦ absurd (not_brought c ch v.0 Registering v.1 refl)
          ]
        ]

    elders_past : (a : ℕ) → IsElder p.tree a c → goes_first p a c ≡ true → is_past (g a) ≡ true
    elders_past a elder goes =
        let par : elder.parent ≡ hand.factory = sym elder.younger.parent ∙ ch.parent in
        let cha : IsChild p.tree hand.factory a = subst (λ k. IsChild p.tree k a) par elder.elder in
        let spare_a : is_spare_at p.tree a ≡ true = core.makers hand.factory a cha (maker_is (sort_of p.tree hand.factory) (body_of p.tree hand.factory) (sym (pulls_sort p core.plan hand.factory) ∙ pulls)) in
        let same_a : is_same p a ≡ true = (and_parts (is_same p a) _ goes).0 in
        let registered : has Registered a s.published ≡ true = elder_is_registered p replies (length s.seats) s.published h.published.legal hand.factory a c elder.before cha ch spare_a (at_spare.1 ∙ sym ok.count) in
        past_if p a (g a) (ap (λ b. has_mark b Registered (picture p a (g a)).mark) (sym spare_a) ∙ sym (h.flags Registered a cha.inside) ∙ registered)
        (calm a cha spare_a same_a (cases_Bool (is_unsettled (g a))))
        (not_brought a cha)
        (λ v b m how at. both_ways (is_spare_at p.tree a) (let n : IsNextSame p a m = subst (ShapeOk p replies s.published a) at (h.shapes a cha.inside) in n.plain) spare_a)
        (λ v b m o how at. both_ways (is_spare_at p.tree a) (let n : IsNextSame p a m = subst (ShapeOk p replies s.published a) at (h.shapes a cha.inside) in n.plain) spare_a)
      where
        calm : (a : ℕ) → IsChild p.tree hand.factory a → is_spare_at p.tree a ≡ true → is_same p a ≡ true → (is_unsettled (g a) ≡ true) ⊎ (is_unsettled (g a) ≡ false) → is_unsettled (g a) ≡ false
        calm a cha spare_a same_a (inl u) = absurd (none-some a (sym idle ∙ ok.waits a cha (and_from (is_spare_at p.tree a) (is_same p a) spare_a same_a) u))
        calm a cha spare_a same_a (inr u) = u

    pub adds : IsKept p replies (record s { counters = slice_set s.counters hand.factory (counter_at s hand.factory + 1); seats = goes_to s w (with_task seat (Opens c Registering)) })
    adds = (
      upd g c (OpenedBy w Registering),
      silent p core.plan replies s g h w seat is c Unseen (OpenedBy w Registering) (with_task seat (Opens c Registering)) s.statuses (set s.counters hand.factory (counter_at s hand.factory + 1)) s.results s.locks s.cancel s.shown (record {
        inside = first.high;
        at = c_unseen;
        alone = λ v q. absurd (none-some v q);
        still = λ n ne q. absurd (none-some n (sym (ap subject e) ∙ q));
        held = (with_task seat (Opens c Registering), get_set_same s.seats w (with_task seat (Opens c Registering)) seat is, refl);
        seat_ok = seat_goes p g s.published w seat c Unseen (OpenedBy w Registering) (Opens c Registering) seated c_unseen (λ q. unseen_hand w q) (λ q. absurd (false≢true q)) (first.high, upd_same g c (OpenedBy w Registering) c refl)
            (λ b. record { held = hand; is = is_hand; parent = ch.parent; child = ch.above_zero; waits = inl idle; next = λ q. at_spare.1 }) (λ q. absurd (false≢true q))
            (subst (λ t. QuitStep p s.published w t (Opens c Registering)) (sym e) (quit_calm p s.published w Free (Opens c Registering) refl));
        statuses_ok = words_keep p s.statuses g c Unseen (OpenedBy w Registering) c_unseen refl (h.statuses_len, h.words);
        counters_ok = counters_child p s.counters g hand.factory c (counter_at s hand.factory + 1) Unseen (OpenedBy w Registering) core.plan ok.inside ch c_unseen refl (let z : bit (not (is_spare_at p.tree c)) ≡ 0 = ap (λ b. bit (not b)) spare in omega (arith, z)) (h.counters_len, h.counters);
        results_ok = results_keep p core replies s g h w seat is c (OpenedBy w Registering) (λ d r q. opened_waits w Registering d r q);
        locks_ok = locks_keep p s.locks g c Unseen (OpenedBy w Registering) first.high c_unseen refl h.locks;
        mark = λ k. refl;
        starter = λ v q. absurd (none-some v q);
        raising = λ ff. ap (λ t. s.cancel + bit (raises t)) (sym e);
        shown_ok = same_shown p core replies s g h w seat is;
        shape = and_from (is_spare_at p.tree c) (pulls_job p (parent_of p.tree c)) spare (subst (λ k. pulls_job p k ≡ true) (sym ch.parent) pulls);
        above = λ a cha. above a (sym cha.parent ∙ ch.parent);
        below = λ d chd. subst (λ st. Fits p (picture p c st).below c d (g d)) c_unseen (h.edges c d chd);
        past = λ q. absurd (false≢true q);
        elders = λ a elder goes seen. elders_past a elder goes;
        quiet = λ z q. absurd (false≢true q);
      }),
    )
      where
        unseen_hand : (v : ℕ) → Unseen ≡ InHand v → ⊥
        unseen_hand v q = cc

        above : (a : ℕ) → a ≡ hand.factory → Fits p (picture p a (g a)).below a c (OpenedBy w Registering)
        above a q =
            let in_hand : g a ≡ InHand w = ap g q ∙ ok.at in
            let lt : c < size p.tree = first.high in
            subst (λ st. Fits p (picture p a st).below a c (OpenedBy w Registering)) (sym in_hand) (record { rest = λ b le. absurd (omega (arith, lt, le)); owned = λ same. eq-eqb w w refl })

  pub add_child_keeps : (reply : Reply) (t0 : Task) → seat.task ≡ t0 → (t : State) → add_child_row p s w seat reply t0 ≡ Some t → IsKept p replies t
  add_child_keeps reply Free e t q = by_hand seat.hand refl q
    where
      by_found : (hand : Hand) → seat.hand ≡ Some hand → hand.waiting ≡ None → (found : Option ℕ) → next_spare p hand.factory hand.registered ≡ found → child_added s w seat hand.factory found ≡ Some t → IsKept p replies t
      by_found hand is_hand idle None f r = absurd (none-some t r)
      by_found hand is_hand idle (Some c) f r =
          kept_some p replies (record s { counters = slice_set s.counters hand.factory (counter_at s hand.factory + 1); seats = goes_to s w (with_task seat (Opens c Registering)) }) t
          (adds hand e is_hand idle c (first_some (is_spare_ranked p hand.factory hand.registered) 0 (size p.tree) c f)) r

      by_waiting : (hand : Hand) → seat.hand ≡ Some hand → (waiting : Option ℕ) → hand.waiting ≡ waiting → add_by_hand p s w seat reply hand.factory hand.registered waiting ≡ Some t → IsKept p replies t
      by_waiting hand is_hand (Some c) idle r = absurd (none-some t r)
      by_waiting hand is_hand None idle r =
          by_cond (λ o. o ≡ Some t → IsKept p replies t) (nat_lt hand.registered reply.pulls) (child_added s w seat hand.factory (next_spare p hand.factory hand.registered)) None
          (λ more z. by_found hand is_hand idle (next_spare p hand.factory hand.registered) refl z) (λ less z. absurd (none-some t z)) r

      by_hand : (hand : Option Hand) → seat.hand ≡ hand → add_child_hand p s w seat reply hand ≡ Some t → IsKept p replies t
      by_hand None is_hand r = absurd (none-some t r)
      by_hand (Some hand) is_hand r = by_waiting hand is_hand hand.waiting refl r
  add_child_keeps reply _ e t q = absurd (none-some t q)
