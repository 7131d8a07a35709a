-- The rows admit, done and add_child, from the moves of one node each.
use Rattle.std.specs.Option.{is_some}
use Rattle.std.proofs.Common.{◌≡◌, ◌≢◌, ℕ, suc, ◌-◌, ◌<◌, ◌≤◌, Bool, true, false, ◌&&◌, ◌||◌, ◌==◌, not, nat_lt, List, set, get_or, Option, Some, None, slice_get, slice_set, inl, inr, refl, sym, ap, ◌∙◌, subst, arith}
use Rattle.std.proofs.lemmas.Option.{same_Some, none-some}
use Rattle.std.proofs.lemmas.Grind.{get_or-set_at}
use Rattle.std.proofs.lemmas.Bool.{cases_Bool, cases_lt, false≢true, both_ways, and_parts, and_from, or_cases, or_left, eqb-true, ltb-true, cond-true, cond-false, eq-eqb}
use Rattle.descriptor.specs.Nodes.{size, parent_of, IsChild, is_child, is_spare_at, body_of, count_below}
use Rattle.plan_events.specs.declared.outcome.Reply.{Reply}
use Rattle.plan_events.specs.declared.status.Status.{Status}
use Rattle.plan_events.specs.declared.status.Status.TheVariants.{Successful, Failed}
use Rattle.resource_locks.specs.Plans.{PlanParts}
use Rattle.event_history.specs.Plans.{Sort, Leaf, Holder, Maker, IsElder, is_same, sort_of, pulls_job, spare_count}
use Rattle.event_history.specs.Results.{Pulled, jobs_of, jobs_by, after_run, EndsLast, too_many}
use Rattle.event_history.specs.Order.{goes_first}
use Rattle.event_history.specs.Inside.Following.{registered_in}
use Rattle.event_history.proofs.Spares.{is_maker, pulls_sort}
use Rattle.event_history.proofs.Trees.{is_child_test}
use Rattle.scheduling.specs.declared.status.NodeStatus.TheVariants.{Ready}
use Rattle.scheduling.specs.declared.task.Opening.{Opening}
use Rattle.scheduling.specs.declared.task.Opening.TheVariants.{Offering, Beginning, Admitting, Guarding}
use Rattle.scheduling.specs.declared.task.Closing.{Closing}
use Rattle.scheduling.specs.declared.task.Closing.TheVariants.{AwaitingAfter, Ending, FinishedAt, SkippedAt, Raising, Giving, Settling, Looking, Passing, CountingOff}
use Rattle.scheduling.specs.declared.task.Task.{Task}
use Rattle.scheduling.specs.declared.task.Task.TheVariants.{Free, Opens, Closes}
use Rattle.scheduling.specs.declared.seat.Hand.{Hand}
use Rattle.scheduling.specs.declared.seat.Seat.{Seat}
use Rattle.scheduling.specs.State.{State, counter_at, subject}
use Rattle.scheduling.specs.Choices.{in_batch, first_from, admit_next, admit_from, offered_to, ending_by, ending, is_pulled, pulled_result}
use Rattle.scheduling.specs.Rows.{with_task, goes_to, offers, admit_row, waits_for, guard_given}
use Rattle.scheduling.specs.Inside.Stages.{How, Gave, Kept, Skips, Stage, Unseen, Offered, OpenedBy, InHand, Waiting, ClosedBy, Over, picture, closing_picture, below_of, runner_of, is_unseen, is_offer_to, is_past, raises}
use Rattle.scheduling.specs.Inside.Invariant.{IsCorePlan, GoesOn, IsNextSame, OpeningOk, ClosingOk, ShapeOk, RunsSo, Fits, TaskOk, SeatOk, Holds, IsKept}
use Rattle.scheduling.proofs.Basics.{upd, upd_same, upd_other, upd_all, get_set_same, set_twice, first_some}
use Rattle.scheduling.proofs.Parts.{locks_keep, fits_runs, own_hand, quit_calm}
use Rattle.scheduling.proofs.RowsOne.{by_cond, kept_some, same_shown, turn_closing_at}
use Rattle.scheduling.proofs.RowsWord.{offering_keeps}
use Rattle.scheduling.proofs.RowsBelow.{admits_on, waits_so}
use Rattle.scheduling.proofs.RowsTwo.{unseen_is, offer_unseen, ends_last, guard_goes, batch_first, opened_hand}

le_self : (n : ℕ) → n ≤ n
le_self n = omega arith

pub not_true : (b : Bool) → not b ≡ true → b ≡ false
not_true true q = absurd (false≢true q)
not_true false q = refl

in_hand_alike : (w : ℕ) (d : Opening) → OpenedBy w d ≡ Unseen → ⊥
in_hand_alike w d q = cc

-- who gave up the guard of a node whose children run waits
pub waiting_is : (p : PlanParts) (n : ℕ) (st : Stage) (o : ℕ) → runner_of (picture p n st).below ≡ Some o → (picture p n st).guard ≡ 0 → (c : ℕ) × (r : Status) × (st ≡ Waiting c r)
waiting_is p n (Waiting c r) o q z = (c, r, refl)
waiting_is p n (OpenedBy w (Admitting c)) o q z = absurd (omega (arith, z))
waiting_is p n (OpenedBy w Guarding) o q z = absurd (omega (arith, z))
waiting_is p n (OpenedBy w (Beginning true)) o q z = absurd (none-some o q)
waiting_is p n (OpenedBy w (Beginning false)) o q z = absurd (none-some o q)
waiting_is p n (InHand w) o q z = absurd (omega (arith, z))
waiting_is p n (ClosedBy w c d how) o q z = absurd (closed d how q)
  where
    none : (how : How) (o : ℕ) → runner_of (below_of how) ≡ Some o → ⊥
    none Gave o q = none-some o q
    none Kept o q = none-some o q
    none Skips o q = none-some o q

    closed : (d : Closing) (how : How) → runner_of (closing_picture p n c d how).below ≡ Some o → ⊥
    closed AwaitingAfter how q = none how o q
    closed (Ending s) how q = none how o q
    closed (FinishedAt i s) how q = none how o q
    closed (SkippedAt i) how q = none how o q
    closed Raising how q = none how o q
    closed (Giving i) how q = none how o q
    closed Settling how q = none how o q
    closed (Looking m) how q = none how o q
    closed (Passing m o2) how q = none how o q
    closed CountingOff how q = none how o q
waiting_is p n (Over Gave) o q z = absurd (none-some o q)
waiting_is p n (Over Kept) o q z = absurd (none-some o q)
waiting_is p n (Over Skips) o q z = absurd (none-some o q)
waiting_is p n _ o q z = absurd (none-some o q)

module _ (p : PlanParts) (core : IsCorePlan p) (replies : ℕ → List Reply) (s : State) (g : ℕ → Stage) (h : Holds p replies s g) (w : ℕ) (seat : Seat) (is : slice_get s.seats w ≡ Some seat) where
  mine' : SeatOk p g s.published w seat
  mine' = h.seats w seat is

  -- admit: a child of the batch
  admit_child : (x c : ℕ) → seat.task ≡ Opens x (Admitting c) → IsKept p replies (offers s w (with_task seat (Opens x (admit_from p x (suc c)))) c (offered_to p w c))
  admit_child x c e =
      let task : TaskOk p g w (Opens x (Admitting c)) = subst (TaskOk p g w) e mine'.task in
      let ok : OpeningOk p replies s.published x (Admitting c) = subst (ShapeOk p replies s.published x) task.1 (h.shapes x task.0) in
      let lt : c < size p.tree = ok.1 in
      let b = and_parts (is_child p.tree x c) (not (is_spare_at p.tree c) && (not (is_same p c) || (count_below (λ d. is_child p.tree x d && is_same p d) c == 0))) ok.2 in
      let ch : IsChild p.tree x c = is_child_test p.tree x c lt b.0 in
      let plain : is_spare_at p.tree c ≡ false = not_true (is_spare_at p.tree c) (and_parts (not (is_spare_at p.tree c)) _ b.1).0 in
      let kids : (k : ℕ) → IsChild p.tree x k → RunsSo p x k w c (g k) = λ k chk. subst (λ st. Fits p (picture p x st).below x k (g k)) task.1 (h.edges x k chk) in
      let first = admits_on p core replies s g h w seat is x (suc c) (Admitting c) e refl refl refl refl refl ok.0 (λ k chk. (let r = kids k chk in record { rest = λ q le. r.rest q (omega (arith, le)); owned = r.owned })) in
      let up : parent_of p.tree c < c = core.plan.rooted.up c ch.above_zero lt in
      let par : parent_of p.tree c ≡ x = ch.parent in
      let ne : c ≢ x = λ q. omega (arith, up, par, q) in
      let unseen : g c ≡ Unseen = unseen_is (g c) ((kids c ch).rest ok.2 (le_self c)) in
      let second = offer_unseen p core replies (record s { seats = set s.seats w (with_task seat (Opens x (admit_from p x (suc c)))) }) (upd g x (OpenedBy w (admit_from p x (suc c)))) first w (with_task seat (Opens x (admit_from p x (suc c)))) (get_set_same s.seats w (with_task seat (Opens x (admit_from p x (suc c)))) seat is)
      c (offered_to p w c) lt (upd_other g x (OpenedBy w (admit_from p x (suc c))) c ne ∙ unseen) plain (above x c lt ch) (λ a elder goes. absurd (batch_first p x a c ok.2 ch elder goes)) in (
        upd (upd g x (OpenedBy w (admit_from p x (suc c)))) c (Offered (offered_to p w c)),
        subst (λ l. Holds p replies (record s { statuses = slice_set s.statuses c (Ready (offered_to p w c)); seats = l }) (upd (upd g x (OpenedBy w (admit_from p x (suc c)))) c (Offered (offered_to p w c)))) (set_twice s.seats w (with_task seat (Opens x (admit_from p x (suc c)))) (with_task seat (Opens x (admit_from p x (suc c))))) second,
      )
    where
      later : (x c : ℕ) → c < size p.tree → (found : Option ℕ) → first_from (in_batch p x) (suc c) (size p.tree) ≡ found → IsChild p.tree x c → Fits p (picture p x (OpenedBy w (admit_next found))).below x c (Offered (offered_to p w c))
      later x c lt None f ch = record { rest = λ q le. absurd (omega (arith, lt, le)); owned = λ same. subst (λ o. is_offer_to w o ≡ true) (sym (cond-true (is_same p c) (Some w) None same)) (eq-eqb w w refl) }
      later x c lt (Some m) f ch =
          let low = (first_some (in_batch p x) (suc c) (size p.tree) m f).low in
          record { rest = λ q le. absurd (omega (arith, low, le)); owned = λ same. subst (λ o. is_offer_to w o ≡ true) (sym (cond-true (is_same p c) (Some w) None same)) (eq-eqb w w refl) }

      above : (x c : ℕ) → c < size p.tree → IsChild p.tree x c → (a : ℕ) → IsChild p.tree a c → Fits p (picture p a (upd g x (OpenedBy w (admit_from p x (suc c))) a)).below a c (Offered (offered_to p w c))
      above x c lt ch a cha =
          upd_all (λ j st. Fits p (picture p j st).below j c (Offered (offered_to p w c))) g x (OpenedBy w (admit_from p x (suc c))) a
          (λ e. subst (λ j. Fits p (picture p j (OpenedBy w (admit_from p x (suc c)))).below j c (Offered (offered_to p w c))) (sym e) (later x c lt (first_from (in_batch p x) (suc c) (size p.tree)) refl ch))
          (λ ne. absurd (ne (sym cha.parent ∙ ch.parent)))

  -- admit: the next sibling
  admit_sibling : (x m o : ℕ) → seat.task ≡ Closes x (Passing m o) → IsKept p replies (offers s w (with_task seat (Closes x CountingOff)) m (Some o))
  admit_sibling x m o e =
      let task : TaskOk p g w (Closes x (Passing m o)) = subst (TaskOk p g w) e mine'.task in
      let first = turn_closing_at p core replies s g h w seat is x (Passing m o) CountingOff s.locks s.cancel s.shown e (λ c how. refl) (λ c how at. locks_keep p s.locks g x (ClosedBy w c (Passing m o) how) (ClosedBy w c CountingOff how) task.0 at refl h.locks) (same_shown p core replies s g h w seat is)
      (λ c how. refl) (λ c how. refl) (λ c how. refl) refl (λ q. refl) (λ c ch v from r q. refl) (λ c how ok. next_above ok) (λ ff. refl) (λ q. absurd (false≢true q)) (quit_calm p s.published w (Closes x (Passing m o)) (Closes x CountingOff) refl) in
      go first.0 first.1 task.0 first.2 first.3
    where
      next_above : IsNextSame p x m → 0 < x
      next_above ok = ok.elder.elder.above_zero

      passing_seen : (c : ℕ) (how : How) → is_past (ClosedBy w c (Passing m o) how) ≡ false
      passing_seen c how = refl

      go : (c : ℕ) (how : How) → x < size p.tree → g x ≡ ClosedBy w c (Passing m o) how → Holds p replies (record s { seats = set s.seats w (with_task seat (Closes x CountingOff)) }) (upd g x (ClosedBy w c CountingOff how)) → IsKept p replies (offers s w (with_task seat (Closes x CountingOff)) m (Some o))
      go c how inside at first =
          let next : IsNextSame p x m = subst (ShapeOk p replies s.published x) at (h.shapes x inside) in
          let before : x < m = next.elder.before in
          let ne : m ≢ x = λ q. omega (arith, q, before) in
          let first_goes : goes_first p x m ≡ true = and_from (is_same p x) _ next.same (or_left (is_same p m) _ next.next_same) in
          let unseen : g m ≡ Unseen = elim (cases_Bool (is_unseen (g m))) [
            | inl q ↦ unseen_is (g m) q
            | inr q ↦ absurd (both_ways (is_past (g x)) (ap is_past at) (h.elders x m next.elder first_goes q))
          ] in
          let b : Stage = ClosedBy w c CountingOff how in
          let second = offer_unseen p core replies (record s { seats = set s.seats w (with_task seat (Closes x CountingOff)) }) (upd g x (ClosedBy w c CountingOff how)) first w (with_task seat (Closes x CountingOff)) (get_set_same s.seats w (with_task seat (Closes x CountingOff)) seat is)
          m (Some o) next.elder.younger.inside (upd_other g x (ClosedBy w c CountingOff how) m ne ∙ unseen) next.next_plain (above next)
          (λ a elder goes. upd_all (λ k st. is_past st ≡ true) g x (ClosedBy w c CountingOff how) a (λ q. refl) (λ na. elders_past next a elder goes na)) in (
            upd (upd g x (ClosedBy w c CountingOff how)) m (Offered (Some o)),
            subst (λ l. Holds p replies (record s { statuses = slice_set s.statuses m (Ready (Some o)); seats = l }) (upd (upd g x (ClosedBy w c CountingOff how)) m (Offered (Some o)))) (set_twice s.seats w (with_task seat (Closes x CountingOff)) (with_task seat (Closes x CountingOff))) second,
          )
        where
          x_seen : is_unseen (g x) ≡ false
          x_seen = ap is_unseen at

          elders_past : IsNextSame p x m → (a : ℕ) → IsElder p.tree a m → goes_first p a m ≡ true → a ≢ x → is_past (g a) ≡ true
          elders_past next a elder goes na =
              let same_a : is_same p a ≡ true = (and_parts (is_same p a) _ goes).0 in
              let lt_a : a < m = elder.before in
              elim (cases_lt a x) [
                | inl lt ↦ (let same_parent : elder.parent ≡ next.elder.parent = sym elder.younger.parent ∙ next.elder.younger.parent in
                    let el : IsElder p.tree a x = record { parent = next.elder.parent; elder = subst (λ k. IsChild p.tree k a) same_parent elder.elder; younger = next.elder.elder; before = lt } in
                    h.elders a x el (and_from (is_same p a) _ same_a (or_left (is_same p x) _ next.same)) x_seen)
                | inr ge ↦ absurd (next.between a (omega (arith, ge, na)) lt_a elder same_a)
              ]

          above : IsNextSame p x m → (a : ℕ) → IsChild p.tree a m → Fits p (picture p a (upd g x (ClosedBy w c CountingOff how) a)).below a m (Offered (Some o))
          above next a cham =
              let same_parent : a ≡ next.elder.parent = sym cham.parent ∙ next.elder.younger.parent in
              let chx : IsChild p.tree a x = subst (λ k. IsChild p.tree k x) (sym same_parent) next.elder.elder in
              let up : parent_of p.tree x < x = core.plan.rooted.up x chx.above_zero chx.inside in
              let par : parent_of p.tree x ≡ a = chx.parent in
              let na : a ≢ x = λ q. omega (arith, q, up, par) in
              let fits : Fits p (picture p a (g a)).below a x (ClosedBy w c (Passing m o) how) = subst (λ st. Fits p (picture p a (g a)).below a x st) at (h.edges a x chx) in
              let runs = fits_runs p (picture p a (g a)).below a x (ClosedBy w c (Passing m o) how) refl fits in
              let so : RunsSo p a x runs.0 runs.1 (ClosedBy w c (Passing m o) how) = subst (λ y. Fits p y a x (ClosedBy w c (Passing m o) how)) runs.2 fits in
              let to : (o == runs.0) ≡ true = so.owned next.same in
              subst (λ st. Fits p (picture p a st).below a m (Offered (Some o))) (sym (upd_other g x (ClosedBy w c CountingOff how) a na))
              (subst (λ y. Fits p y a m (Offered (Some o))) (sym runs.2) (record { rest = λ q le. absurd (batch_first p a x m q cham (next_elder a chx cham) (and_from (is_same p x) _ next.same (or_left (is_same p m) _ next.next_same))); owned = λ same. to }))
            where
              next_elder : (a : ℕ) → IsChild p.tree a x → IsChild p.tree a m → IsElder p.tree x m
              next_elder a chx cham = next.elder

  pub admit_keeps : (t0 : Task) → seat.task ≡ t0 → (t : State) → admit_row p s w seat t0 ≡ Some t → IsKept p replies t
  admit_keeps (Opens x (Admitting c)) e t q = kept_some p replies (offers s w (with_task seat (Opens x (admit_from p x (suc c)))) c (offered_to p w c)) t (admit_child x c e) q
  admit_keeps (Opens c Offering) e t q = kept_some p replies (offers s w (record { task = Free; hand = waits_for p c seat.hand }) c (offered_to p w c)) t (offering_keeps p core replies s g h w seat is c e) q
  admit_keeps (Closes x (Passing m o)) e t q = kept_some p replies (offers s w (with_task seat (Closes x CountingOff)) m (Some o)) t (admit_sibling x m o e) q
  admit_keeps _ e t q = absurd (none-some t q)

  -- the worker is free, and ends the node where nothing is outstanding
  guard_ends : (x : ℕ) (r : Status) (hand : Option Hand) → x < size p.tree
      → Holds p replies (record s { counters = slice_set s.counters x (counter_at s x - 1); results = slice_set s.results x r; seats = goes_to s w (record { task = Free; hand = hand }) }) (upd g x (Waiting w r)) → IsKept p replies (guard_given p s w hand x r)
  guard_ends x r hand inside first =
      by_cond (λ t. IsKept p replies (record s { counters = slice_set s.counters x (counter_at s x - 1); results = slice_set s.results x r; seats = goes_to s w (record { task = t; hand = hand }) })) (counter_at s x == 1) (Closes x (ending p x r)) Free
      (λ one. (let len = h.counters_len in
      let is_one : counter_at s x ≡ 1 = eqb-true (counter_at s x) 1 one in
      let now : get_or (set s.counters x (counter_at s x - 1)) x 0 ≡ counter_at s x - 1 = get_or-set_at s.counters x x (counter_at s x - 1) 0 refl (omega (arith, len, inside)) in
      let last = ends_last p core replies (record s { counters = slice_set s.counters x (counter_at s x - 1); results = slice_set s.results x r; seats = goes_to s w (record { task = Free; hand = hand }) }) (upd g x (Waiting w r)) first w (record { task = Free; hand = hand })
      (get_set_same s.seats w (record { task = Free; hand = hand }) seat is) x w r refl inside (upd_same g x (Waiting w r) x refl) (omega (arith, now, is_one)) in
      subst (λ l. IsKept p replies (record s { counters = slice_set s.counters x (counter_at s x - 1); results = slice_set s.results x r; seats = l })) (set_twice s.seats w (record { task = Free; hand = hand }) (record { task = Closes x (ending p x r); hand = hand })) last))
      (λ other. (upd g x (Waiting w r), first))

  pub done_guard : (x : ℕ) → seat.task ≡ Opens x Guarding → IsKept p replies (guard_given p s w seat.hand x Successful)
  done_guard x e =
      let task : TaskOk p g w (Opens x Guarding) = subst (TaskOk p g w) e mine'.task in
      let on : GoesOn replies (jobs_of p x) = subst (ShapeOk p replies s.published x) task.1 (h.shapes x task.0) in
      guard_ends x Successful seat.hand task.0 (guard_goes p core replies s g h w seat is x (OpenedBy w Guarding) Successful seat.hand task.0 task.1 refl (λ n ne q. ne (same_Some n x (sym q ∙ ap subject e))) (ap raises e) refl refl refl refl refl refl refl refl refl
      (waits_so p replies s.published x (jobs_of p x) refl on)
      (record {
        task = tt;
        hand = own_hand p g s.published w x (OpenedBy w Guarding) (Waiting w Successful) seat.hand task.1 (λ q. opened_hand w Guarding w q) (λ q. refl) mine'.hand;
        brought = tt;
        failed = λ q. absurd (false≢true q);
        quits = λ ff bold. absurd (false≢true bold);
      }))

  pub done_of_hand : (f k : ℕ) (reply : Reply) → seat.task ≡ Free → f < size p.tree → g f ≡ InHand w → registered_in p s.published f ≡ k → ((job : ℕ) → body_of p.tree f ≡ Some job → (i : ℕ) × (slice_get (replies job) i ≡ Some reply)) → is_pulled p f k reply ≡ true → IsKept p replies (guard_given p s w None f (pulled_result k reply))
  done_of_hand f k reply e inside at count is_reply pulled =
      let pulls : pulls_job p f ≡ true = subst (ShapeOk p replies s.published f) at (h.shapes f inside) in
      guard_ends f (pulled_result k reply) None inside (guard_goes p core replies s g h w seat is f (InHand w) (pulled_result k reply) None inside at refl (λ n ne q. none-some n (sym (ap subject e) ∙ q)) (ap raises e) refl refl refl refl refl refl refl refl refl
      (by_jobs (sort_of p.tree f) (body_of p.tree f) refl refl (sym (pulls_sort p core.plan f) ∙ pulls))
      (record {
        task = tt;
        hand = tt;
        brought = tt;
        failed = λ q. absurd (false≢true q);
        quits = λ ff bold. absurd (false≢true bold);
      }))
    where
      lawful : (job : ℕ) → body_of p.tree f ≡ Some job → (text : Option (List ℕ)) × EndsLast replies (Pulled job (spare_count p f)) (registered_in p s.published f) (pulled_result k reply) text
      lawful job is_job =
          let r = is_reply job is_job in
          elim (cases_Bool (nat_lt k reply.pulls)) [
            | inl more ↦ (let lt = ltb-true k reply.pulls more in
                let all : k ≡ spare_count p f = elim (or_cases (reply.pulls == k) ((k == spare_count p f) && nat_lt k reply.pulls) pulled) [
                  | inl q ↦ absurd (let z : reply.pulls ≡ k = eqb-true reply.pulls k q in omega (arith, z, lt))
                  | inr q ↦ eqb-true k (spare_count p f) (and_parts (k == spare_count p f) (nat_lt k reply.pulls) q).0
                ] in
                (Some too_many, inr (record { all = count ∙ all; place = r.0; reply = reply; stands = r.1; more = omega (arith, lt, all); status_is = cond-true (nat_lt k reply.pulls) Failed reply.outcome.status more; text_is = refl })))
            | inr less ↦ (let same : reply.pulls ≡ k = elim (or_cases (reply.pulls == k) ((k == spare_count p f) && nat_lt k reply.pulls) pulled) [
              | inl q ↦ eqb-true reply.pulls k q
              | inr q ↦ absurd (both_ways (nat_lt k reply.pulls) less (and_parts (k == spare_count p f) (nat_lt k reply.pulls) q).1)
            ] in
                (Some reply.outcome.text, inl (record { place = r.0; reply = reply; stands = r.1; pulls = same ∙ sym count; status_is = cond-false (nat_lt k reply.pulls) Failed reply.outcome.status less; text_is = refl })))
          ]

      by_jobs : (sort : Sort) (body : Option ℕ) → sort_of p.tree f ≡ sort → body_of p.tree f ≡ body → (is_maker sort && is_some body) ≡ true → ClosingOk p replies s.published f (ending p f (pulled_result k reply)) Gave
      by_jobs Maker (Some job) is_sort is_body pulls =
          let jobs : jobs_of p f ≡ Pulled job (spare_count p f) = ap (λ z. jobs_by z (body_of p.tree f) (after_run p f) (spare_count p f)) is_sort ∙ ap (λ z. jobs_by Maker z (after_run p f) (spare_count p f)) is_body in
          let l = lawful job is_body in
          subst (λ j. ClosingOk p replies s.published f (ending_by j (pulled_result k reply)) Gave) (sym jobs) (record { stopped = false; so = tt; text = l.0; lawful = subst (λ j. EndsLast replies j (registered_in p s.published f) (pulled_result k reply) l.0) (sym jobs) l.1 })
      by_jobs Maker None is_sort is_body pulls = absurd (false≢true pulls)
      by_jobs Leaf body is_sort is_body pulls = absurd (false≢true pulls)
      by_jobs Holder body is_sort is_body pulls = absurd (false≢true pulls)
