-- Rows that change what may be below a node: the reply's decision, the show of a factory's start, admit, done.
use Rattle.std.specs.Option.{is_some}
use Rattle.std.proofs.Common.{◌≡◌, ◌≢◌, ℕ, ◌+◌, ◌<◌, ◌≤◌, Bool, true, false, ◌&&◌, ◌||◌, not, List, set, Option, Some, None, slice_get, slice_index_or, ◌⊎◌, inl, refl, sym, ap, ◌∙◌, subst, arith}
use Rattle.std.proofs.lemmas.Option.{same_Some}
use Rattle.std.proofs.lemmas.Bool.{false≢true, both_ways}
use Rattle.descriptor.specs.Nodes.{size, IsChild, is_spare_at, body_of, bit}
use Rattle.plan_events.specs.declared.event.Event.{Event}
use Rattle.plan_events.specs.declared.outcome.Reply.{Reply}
use Rattle.plan_events.specs.declared.status.Status.{Status}
use Rattle.plan_events.specs.declared.status.Status.TheVariants.{Successful, Failed, Aborted}
use Rattle.plan_events.specs.Statuses.{is_successful}
use Rattle.resource_locks.specs.Plans.{PlanParts}
use Rattle.event_history.specs.Plans.{IsPlanTree, Sort, Leaf, Holder, Maker, sort_of, pulls_job, spare_count}
use Rattle.event_history.specs.Results.{Jobs, NoJob, Alone, Pulled, Around, jobs_of, jobs_by, after_run, HasReply, Ends, EndsLast}
use Rattle.event_history.specs.Inside.Following.{registered_in}
use Rattle.event_history.proofs.Spares.{is_maker, pulls_sort}
use Rattle.scheduling.specs.declared.status.NodeStatus.TheVariants.{Claimed}
use Rattle.scheduling.specs.declared.task.Opening.{Opening}
use Rattle.scheduling.specs.declared.task.Opening.TheVariants.{Awaiting, Admitting, Guarding}
use Rattle.scheduling.specs.declared.task.Closing.{Closing}
use Rattle.scheduling.specs.declared.task.Closing.TheVariants.{AwaitingAfter, Ending}
use Rattle.scheduling.specs.declared.task.Task.{Task}
use Rattle.scheduling.specs.declared.task.Task.TheVariants.{Opens, Closes}
use Rattle.scheduling.specs.declared.seat.Seat.{Seat}
use Rattle.scheduling.specs.State.{State, subject}
use Rattle.scheduling.specs.Choices.{keys_count, in_batch, first_from, admit_next, admit_from, is_leaf, status_by, answered, decided, awaited, ending_by, after_job}
use Rattle.scheduling.specs.Rows.{with_task, goes_to, decided_seat}
use Rattle.scheduling.specs.Inside.Stages.{How, Gave, Kept, Stage, Unseen, OpenedBy, InHand, Waiting, ClosedBy, Begun, has_mark, picture, starter_of, starter_by, who, is_unseen, is_live, is_owned, is_past, is_unsettled, opening_offered, raises, is_bold, brings}
use Rattle.scheduling.specs.Inside.Invariant.{IsCorePlan, GoesOn, EndsSo, IsEnding, IsAfter, OpeningOk, ClosingOk, ShapeOk, RunsSo, Fits, TaskOk, SeatOk, HeldBy, Holds, IsKept}
use Rattle.scheduling.proofs.Basics.{upd, upd_same, upd_all, get_set_same, set_get, first_some}
use Rattle.scheduling.proofs.Parts.{CounterList, words_keep, locks_keep, counters_keep, fits_live, live_seen, QuitStep, quit_calm}
use Rattle.scheduling.proofs.Silent.{ResultList, ShownOk, silent, seat_goes}
use Rattle.scheduling.proofs.RowsOne.{by_cond, still_about, same_shown, turn_closing}

-- What a move says where the status word, the keys, the marks and the cancel word stay.
pub record Wide (p : PlanParts) (replies : ℕ → List Reply) (s : State) (g : ℕ → Stage) (w : ℕ) (seat : Seat) (x : ℕ) (a b : Stage) (seat2 : Seat) (counters : List ℕ) (results : List Status) (shown : List Bool) : Type 0 where
  pub inside : x < size p.tree
  pub at : g x ≡ a
  pub alone : (v : ℕ) → who a ≡ Some v → v ≡ w
  pub still : (n : ℕ) → n ≢ x → subject seat.task ≡ Some n → seat2.task ≡ seat.task
  pub held : HeldBy (set s.seats w seat2) x b
  pub seat_ok : SeatOk p (upd g x b) s.published w seat2
  pub raises_so : raises seat2.task ≡ raises seat.task
  pub word : (picture p x a).word ≡ (picture p x b).word
  pub mark : (picture p x a).mark ≡ (picture p x b).mark
  pub keys : (picture p x a).keys ≡ (picture p x b).keys
  pub counters_ok : CounterList p counters (upd g x b)
  pub results_ok : ResultList p results (upd g x b)
  pub live : is_live a ≡ true
  pub owned : (o : ℕ) → is_owned o a ≡ true → is_owned o b ≡ true
  pub shown_ok : ShownOk s shown
  pub shape : ShapeOk p replies s.published x b
  pub below : (c : ℕ) → IsChild p.tree x c → Fits p (picture p x b).below x c (g c)
  pub past : is_past a ≡ false
  pub quiet : is_unsettled b ≡ true → is_unsettled a ≡ true

pub wide : (p : PlanParts) → IsPlanTree p.tree → (replies : ℕ → List Reply) (s : State) (g : ℕ → Stage) → Holds p replies s g → (w : ℕ) (seat : Seat) → slice_get s.seats w ≡ Some seat → (x : ℕ) (a b : Stage) (seat2 : Seat) (counters : List ℕ) (results : List Status) (shown : List Bool)
    → Wide p replies s g w seat x a b seat2 counters results shown
    → Holds p replies (record s { counters = counters; results = results; seats = set s.seats w seat2; shown = shown }) (upd g x b)
wide p plan replies s g h w seat is x a b seat2 counters results shown m =
    silent p plan replies s g h w seat is x a b seat2 s.statuses counters results s.locks s.cancel shown (record {
      inside = m.inside;
      at = m.at;
      alone = m.alone;
      still = m.still;
      held = m.held;
      seat_ok = m.seat_ok;
      statuses_ok = words_keep p s.statuses g x a b m.at m.word (h.statuses_len, h.words);
      counters_ok = m.counters_ok;
      results_ok = m.results_ok;
      locks_ok = locks_keep p s.locks g x a b m.inside m.at m.keys h.locks;
      mark = λ k. ap (has_mark (is_spare_at p.tree x) k) m.mark;
      starter = λ c q. h.starters x c m.inside (ap (λ st. starter_of (picture p x st)) m.at ∙ ap (λ k. starter_by k (picture p x a).word) m.mark ∙ ap (starter_by (picture p x b).mark) m.word ∙ q);
      raising = λ ff. ap (λ (b : Bool). s.cancel + bit b) m.raises_so;
      shown_ok = m.shown_ok;
      shape = m.shape;
      above = λ c ch. fits_live p (picture p c (g c)).below c x a b m.live (λ same o from r q. m.owned o q) (subst (λ (st : Stage). Fits p (picture p c (g c)).below c x st) m.at (h.edges c x ch));
      below = m.below;
      past = λ q. absurd (both_ways (is_past a) m.past q);
      elders = λ c elder first seen. h.elders c x elder first (ap is_unseen m.at ∙ live_seen a m.live);
      quiet = λ z q. inl (m.quiet q);
    })

-- What a reply decides, on plain values: sort and jobs of a node that is no factory with a job.
abbrev pub ReplyIs : (ℕ → List Reply) → Option ℕ → Reply → Type 0
ReplyIs replies job reply = (k : ℕ) → job ≡ Some k → (i : ℕ) × (slice_get (replies k) i ≡ Some reply)

reply_has : (replies : ℕ → List Reply) (job : ℕ) (reply : Reply) (status : Status) → ReplyIs replies (Some job) reply → status ≡ reply.outcome.status → HasReply replies job status (Some reply.outcome.text)
reply_has replies job reply status is e = (let r = is job refl in record { place = r.0; reply = reply; stands = r.1; status_is = e; text_is = refl })

success_is : (st : Status) → is_successful st ≡ true → Successful ≡ st
success_is Successful q = refl
success_is Aborted q = absurd (false≢true q)
success_is Failed q = absurd (false≢true q)

pub not_false : (b : Bool) → not b ≡ false → b ≡ true
not_false true q = refl
not_false false q = absurd (false≢true (sym q))

not_true : (b : Bool) → not b ≡ true → b ≡ false
not_true true q = absurd (false≢true q)
not_true false q = refl

-- it ends, with its guard kept
ends_kept : (replies : ℕ → List Reply) (sort : Sort) (body after : Option ℕ) (spares count : ℕ) (reply : Reply) → (is_maker sort && is_some body) ≡ false → (is_leaf sort || not (is_successful (status_by body reply))) ≡ true → ReplyIs replies body reply
    → (stopped : Bool) × (stopped ≡ false → sort ≡ Leaf) × (text : Option (List ℕ)) × Ends replies (jobs_by sort body after spares) stopped count (status_by body reply) text
ends_kept replies Leaf None after spares count reply pulls q is = (false, (λ _. refl), None, (refl, refl))
ends_kept replies Leaf (Some job) after spares count reply pulls q is = (false, (λ _. refl), Some reply.outcome.text, reply_has replies job reply reply.outcome.status is refl)
ends_kept replies Maker None after spares count reply pulls q is = absurd (false≢true q)
ends_kept replies Maker (Some job) after spares count reply pulls q is = absurd (false≢true (sym pulls))
ends_kept replies Holder None after spares count reply pulls q is = absurd (false≢true q)
ends_kept replies Holder (Some job) after spares count reply pulls q is =
    (true, (λ r. absurd (false≢true (sym r))), Some reply.outcome.text, record { answer = reply_has replies job reply reply.outcome.status is refl; unsuccessful = not_true (is_successful reply.outcome.status) q })

-- or goes on
goes_on : (replies : ℕ → List Reply) (sort : Sort) (body after : Option ℕ) (spares : ℕ) (reply : Reply) → (is_maker sort && is_some body) ≡ false → (is_leaf sort || not (is_successful (status_by body reply))) ≡ false → ReplyIs replies body reply → GoesOn replies (jobs_by sort body after spares)
goes_on replies Leaf body after spares reply pulls q is = absurd (false≢true (sym q))
goes_on replies Maker None after spares reply pulls q is = tt
goes_on replies Maker (Some job) after spares reply pulls q is = absurd (false≢true (sym pulls))
goes_on replies Holder None after spares reply pulls q is = (None, (refl, refl))
goes_on replies Holder (Some job) after spares reply pulls q is = (Some reply.outcome.text, reply_has replies job reply Successful is (success_is reply.outcome.status (not_false (is_successful reply.outcome.status) q)))

-- a node that waits for what is outstanding, and went on
pub waits_so : (p : PlanParts) (replies : ℕ → List Reply) (h : List Event) (x : ℕ) (jobs : Jobs) → jobs_of p x ≡ jobs → GoesOn replies jobs → ClosingOk p replies h x (ending_by jobs Successful) Gave
waits_so p replies h x NoJob e on = record { stopped = false; so = tt; text = None; lawful = subst (λ j. EndsLast replies j (registered_in p h x) Successful None) (sym e) (refl, refl) }
waits_so p replies h x (Alone body) e on = absurd on
waits_so p replies h x (Pulled body spares) e on = absurd on
waits_so p replies h x (Around body None) e on = record { stopped = false; so = tt; text = on.0; lawful = subst (λ j. EndsLast replies j (registered_in p h x) Successful on.0) (sym e) (refl, on.1) }
waits_so p replies h x (Around body (Some after)) e on = record { gave = refl; body = body; after = after; jobs = e; text = on.0; answers = on.1 }

-- a choice by the jobs
pub ending_is : (P : Closing → Type 0) → P AwaitingAfter → ((r : Status) → P (Ending r)) → (jobs : Jobs) (r : Status) → P (ending_by jobs r)
ending_is P a b NoJob r = b r
ending_is P a b (Alone body) r = b r
ending_is P a b (Pulled body spares) r = b r
ending_is P a b (Around body None) r = b r
ending_is P a b (Around body (Some after)) r = a

module _ (p : PlanParts) (core : IsCorePlan p) (replies : ℕ → List Reply) (s : State) (g : ℕ → Stage) (h : Holds p replies s g) (w : ℕ) (seat : Seat) (is : slice_get s.seats w ≡ Some seat) where
  pub our : SeatOk p g s.published w seat
  our = h.seats w seat is

  pub results_keep : (x : ℕ) (b : Stage) → ((c : ℕ) (r : Status) → b ≡ Waiting c r → ⊥) → ResultList p s.results (upd g x b)
  results_keep x b not' = (h.results_len, λ n c r lt. upd_all (λ k st. st ≡ Waiting c r → slice_index_or s.results k Successful ≡ r) g x b n (λ e q. absurd (not' c r q)) (λ _. h.results n c r lt))

  opened_hand : (w : ℕ) (d : Opening) (v : ℕ) → OpenedBy w d ≡ InHand v → ⊥
  opened_hand w d v q = cc

  opened_waits : (w : ℕ) (d : Opening) (c : ℕ) (r : Status) → OpenedBy w d ≡ Waiting c r → ⊥
  opened_waits w d c r q = cc

  closed_waits : (w e : ℕ) (d : Closing) (how : How) (c : ℕ) (r : Status) → ClosedBy w e d how ≡ Waiting c r → ⊥
  closed_waits w e d how c r q = cc

  opening_task : (x : ℕ) (d : Opening) → seat.task ≡ Opens x d → (x < size p.tree) × (g x ≡ OpenedBy w d)
  opening_task x d e = subst (TaskOk p g w) e our.task

  -- the children of a node that goes on are unseen from number k on, and its SAME_THREAD children are the worker's
  abbrev KidsOk : ℕ → ℕ → Type 0
  KidsOk x k = (c : ℕ) → IsChild p.tree x c → RunsSo p x c w k (g c)

  pub admits_on : (x k : ℕ) (d : Opening) → seat.task ≡ Opens x d → (picture p x (OpenedBy w d)).word ≡ Claimed w → (picture p x (OpenedBy w d)).mark ≡ Begun → (picture p x (OpenedBy w d)).keys ≡ keys_count p x → (picture p x (OpenedBy w d)).guard ≡ 1 → opening_offered d ≡ true
      → GoesOn replies (jobs_of p x) → KidsOk x k → Holds p replies (record s { seats = set s.seats w (with_task seat (Opens x (admit_from p x k))) }) (upd g x (OpenedBy w (admit_from p x k)))
  admits_on x k d e word mark keys guard offered on kids = go (first_from (in_batch p x) k (size p.tree)) refl
    where
      one : (d2 : Opening) → (picture p x (OpenedBy w d2)).word ≡ Claimed w → (picture p x (OpenedBy w d2)).mark ≡ Begun → (picture p x (OpenedBy w d2)).keys ≡ keys_count p x → (picture p x (OpenedBy w d2)).guard ≡ 1 → brings d2 ≡ false → is_bold (Opens x d2) ≡ false
          → OpeningOk p replies s.published x d2 → ((c : ℕ) → IsChild p.tree x c → Fits p (picture p x (OpenedBy w d2)).below x c (g c)) → Holds p replies (record s { seats = set s.seats w (with_task seat (Opens x d2)) }) (upd g x (OpenedBy w d2))
      one d2 word2 mark2 keys2 guard2 brought bold ok below =
          let at = opening_task x d e in
          wide p core.plan replies s g h w seat is x (OpenedBy w d) (OpenedBy w d2) (with_task seat (Opens x d2)) s.counters s.results s.shown (record {
            inside = at.0;
            at = at.1;
            alone = λ v q. sym (same_Some w v q);
            still = still_about p core replies s g h w seat is x (ap subject e) (Opens x d2);
            held = (with_task seat (Opens x d2), get_set_same s.seats w (with_task seat (Opens x d2)) seat is, refl);
            seat_ok = seat_goes p g s.published w seat x (OpenedBy w d) (OpenedBy w d2) (Opens x d2) our at.1 (λ q. opened_hand w d w q) (λ q. offered) (at.0, upd_same g x (OpenedBy w d2) x refl) (λ b. absurd (both_ways (brings d2) brought b)) (λ q. absurd (false≢true q))
                (subst (λ t. QuitStep p s.published w t (Opens x d2)) (sym e) (quit_calm p s.published w (Opens x d) (Opens x d2) bold));
            raises_so = ap raises (sym e);
            word = word ∙ sym word2;
            mark = mark ∙ sym mark2;
            keys = keys ∙ sym keys2;
            counters_ok = counters_keep p s.counters g x (OpenedBy w d) (OpenedBy w d2) at.1 (guard ∙ sym guard2) refl (h.counters_len, h.counters);
            results_ok = results_keep x (OpenedBy w d2) (λ c r q. opened_waits w d2 c r q);
            live = refl;
            owned = λ o q. q;
            shown_ok = same_shown p core replies s g h w seat is;
            shape = ok;
            below = below;
            past = refl;
            quiet = λ q. offered;
          })

      go : (found : Option ℕ) → first_from (in_batch p x) k (size p.tree) ≡ found → Holds p replies (record s { seats = set s.seats w (with_task seat (Opens x (admit_next found))) }) (upd g x (OpenedBy w (admit_next found)))
      go None f = one Guarding refl refl refl refl refl refl on (λ c ch. (let r = kids c ch in record { rest = λ b le. absurd (let lt : c < size p.tree = ch.inside in omega (arith, lt, le)); owned = r.owned }))
      go (Some m) f = (let first = first_some (in_batch p x) k (size p.tree) m f in
          one (Admitting m) refl refl refl refl refl refl (on, first.high, first.passes)
          (λ c ch. (let r = kids c ch in let low : k ≤ m = first.low in record { rest = λ b le. r.rest b (omega (arith, low, le)); owned = r.owned })))

  -- the reply's decision
  stays : (t0 : Task) → seat.task ≡ t0 → IsKept p replies (record s { seats = goes_to s w (with_task seat t0) })
  stays t0 e = (g, subst (λ l. Holds p replies (record s { seats = l }) g) (sym (ap (λ t. set s.seats w (with_task seat t)) (sym e) ∙ set_get s.seats w seat is)) h)

  pub decide_keeps : (reply : Reply) → ReplyIs replies (awaited p seat seat.task) reply → IsKept p replies (record s { seats = goes_to s w (decided_seat p reply seat) })
  decide_keeps reply given = go seat.task refl
    where
      awaits : (x : ℕ) → seat.task ≡ Opens x Awaiting → IsKept p replies (record s { seats = goes_to s w (with_task seat (answered p x reply)) })
      awaits x e =
          let at = opening_task x Awaiting e in
          let pulls : pulls_job p x ≡ false = subst (ShapeOk p replies s.published x) at.1 (h.shapes x at.0) in
          let body : ReplyIs replies (body_of p.tree x) reply = subst (λ t. ReplyIs replies (awaited p seat t) reply) e given in
          by_cond (λ t. IsKept p replies (record s { seats = goes_to s w (with_task seat t) })) (is_leaf (sort_of p.tree x) || not (is_successful (status_by (body_of p.tree x) reply))) (Closes x (Ending (status_by (body_of p.tree x) reply))) (Opens x (admit_from p x 0))
          (λ c. (let r = ends_kept replies (sort_of p.tree x) (body_of p.tree x) (after_run p x) (spare_count p x) (registered_in p s.published x) reply (sym (pulls_sort p core.plan x) ∙ pulls) c body in ends x at.0 at.1 e (status_by (body_of p.tree x) reply) (record { stopped = r.0; so = so x r.0 r.1; text = r.2; lawful = r.3 })))
          (λ c. (
            upd g x (OpenedBy w (admit_from p x 0)),
            admits_on x 0 Awaiting e refl refl refl refl refl (goes_on replies (sort_of p.tree x) (body_of p.tree x) (after_run p x) (spare_count p x) reply (sym (pulls_sort p core.plan x) ∙ pulls) c body)
                (λ k ch. (let unseen : is_unseen (g k) ≡ true = subst (λ st. Fits p (picture p x st).below x k (g k)) at.1 (h.edges x k ch) in record { rest = λ b le. unseen; owned = λ same. owned_unseen (g k) unseen })),
          ))
        where
          so : (x : ℕ) (stopped : Bool) → (stopped ≡ false → sort_of p.tree x ≡ Leaf) → EndsSo p x Kept stopped
          so x true f = tt
          so x false f = f refl

          owned_unseen : (st : Stage) → is_unseen st ≡ true → is_owned w st ≡ true
          owned_unseen Unseen q = refl
          owned_unseen _ q = absurd (false≢true q)

          ends : (x : ℕ) → x < size p.tree → g x ≡ OpenedBy w Awaiting → seat.task ≡ Opens x Awaiting → (st : Status) → IsEnding p replies s.published x Kept st → IsKept p replies (record s { seats = goes_to s w (with_task seat (Closes x (Ending st))) })
          ends x inside at e st ok = (
            upd g x (ClosedBy w w (Ending st) Kept),
            wide p core.plan replies s g h w seat is x (OpenedBy w Awaiting) (ClosedBy w w (Ending st) Kept) (with_task seat (Closes x (Ending st))) s.counters s.results s.shown (record {
              inside = inside;
              at = at;
              alone = λ v q. sym (same_Some w v q);
              still = still_about p core replies s g h w seat is x (ap subject e) (Closes x (Ending st));
              held = (with_task seat (Closes x (Ending st)), get_set_same s.seats w (with_task seat (Closes x (Ending st))) seat is, refl);
              seat_ok = seat_goes p g s.published w seat x (OpenedBy w Awaiting) (ClosedBy w w (Ending st) Kept) (Closes x (Ending st)) our at (λ q. opened_hand w Awaiting w q) (λ q. refl) (inside, (w, Kept, upd_same g x (ClosedBy w w (Ending st) Kept) x refl)) tt (λ q. absurd (false≢true q))
                  (subst (λ t. QuitStep p s.published w t (Closes x (Ending st))) (sym e) (quit_calm p s.published w (Opens x Awaiting) (Closes x (Ending st)) refl));
              raises_so = ap raises (sym e);
              word = refl;
              mark = refl;
              keys = refl;
              counters_ok = counters_keep p s.counters g x (OpenedBy w Awaiting) (ClosedBy w w (Ending st) Kept) at refl refl (h.counters_len, h.counters);
              results_ok = results_keep x (ClosedBy w w (Ending st) Kept) (λ c r q. closed_waits w w (Ending st) Kept c r q);
              live = refl;
              owned = λ o q. refl;
              shown_ok = same_shown p core replies s g h w seat is;
              shape = ok;
              below = λ c ch. subst (λ k. Fits p (picture p x k).below x c (g c)) at (h.edges x c ch);
              past = refl;
              quiet = λ q. refl;
            }),
          )

      awaits_after : (x : ℕ) → seat.task ≡ Closes x AwaitingAfter → IsKept p replies (record s { seats = goes_to s w (with_task seat (Closes x (Ending reply.outcome.status))) })
      awaits_after x e =
          let task : TaskOk p g w (Closes x AwaitingAfter) = subst (TaskOk p g w) e our.task in
          let job : ReplyIs replies (after_job (jobs_of p x)) reply = subst (λ t. ReplyIs replies (awaited p seat t) reply) e given in
          turn_closing p core replies s g h w seat is x AwaitingAfter (Ending reply.outcome.status) s.locks s.cancel s.shown e (λ c how. refl) (λ c how at. locks_keep p s.locks g x (ClosedBy w c AwaitingAfter how) (ClosedBy w c (Ending reply.outcome.status) how) task.0 at refl h.locks) (same_shown p core replies s g h w seat is)
          (λ c how. refl) (λ c how. refl) (λ c how. refl) refl (λ q. absurd (false≢true q)) (λ c ch o from r q. refl) (λ c how ok. ended how ok job) (λ ff. refl) (λ q. absurd (false≢true q)) (quit_calm p s.published w (Closes x AwaitingAfter) (Closes x (Ending reply.outcome.status)) refl)
        where
          ended : (how : How) → IsAfter p replies x how → ReplyIs replies (after_job (jobs_of p x)) reply → IsEnding p replies s.published x how reply.outcome.status
          ended how ok job =
              let r : HasReply replies ok.after reply.outcome.status (Some reply.outcome.text) = reply_has replies ok.after reply reply.outcome.status (subst (λ j. ReplyIs replies (after_job j) reply) ok.jobs job) refl in
              subst (λ k. IsEnding p replies s.published x k reply.outcome.status) (sym ok.gave) (record { stopped = false; so = tt; text = Some reply.outcome.text; lawful = subst (λ j. EndsLast replies j (registered_in p s.published x) reply.outcome.status (Some reply.outcome.text)) (sym ok.jobs) ((ok.text, ok.answers), r) })

      go : (t0 : Task) → seat.task ≡ t0 → IsKept p replies (record s { seats = goes_to s w (with_task seat (decided p reply t0)) })
      go (Opens x Awaiting) e = awaits x e
      go (Closes x AwaitingAfter) e = awaits_after x e
      go t0 e = stays t0 e
