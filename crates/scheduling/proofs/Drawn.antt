-- Why a drawn event may follow: what the stages say of its node, its parent, its children, its elders and its keys.
use Rattle.std.proofs.Common.{◌≡◌, ◌≢◌, ℕ, ◌+◌, ◌<◌, ◌≤◌, Bool, true, false, cond, ◌&&◌, ◌||◌, ◌==◌, not, nat_le, List, [], length, Option, Some, None, slice_get, ◌⊎◌, inl, inr, refl, sym, ap, ◌∙◌, subst, arith}
use Rattle.std.proofs.lemmas.Option.{slice_get_within, get_or_from_slice_get}
use Rattle.std.proofs.lemmas.Bool.{cases_eq, cases_Bool, false≢true, both_ways, and_parts, and_from, or_left, or_right, eqb-true, eq-eqb, ne_eqb, le-leb}
use Rattle.descriptor.specs.declared.lock_mode.LockMode.{LockMode}
use Rattle.descriptor.specs.declared.lock_mode.LockMode.TheVariants.{Read, ReadWrite}
use Rattle.descriptor.specs.declared.lock.Lock.{Lock}
use Rattle.descriptor.specs.Nodes.{size, parent_of, IsChild, is_spare_at, body_of}
use Rattle.plan_events.specs.declared.event.EventKind.{EventKind}
use Rattle.plan_events.specs.declared.event.EventKind.TheVariants.{Started, Finished, Skipped, Registered}
use Rattle.plan_events.specs.declared.outcome.Reply.{Reply}
use Rattle.plan_events.specs.declared.status.Status.{Status}
use Rattle.plan_events.specs.declared.status.Status.TheVariants.{Successful}
use Rattle.plan_events.specs.Words.{is_lawful, fits_status, plan_may}
use Rattle.resource_locks.specs.Wants.{HasLock}
use Rattle.resource_locks.specs.Plans.{PlanParts, held_of}
use Rattle.event_history.specs.Plans.{IsElder, is_same, sort_of, pulls_job, has_child, rank}
use Rattle.event_history.specs.Places.{has}
use Rattle.event_history.specs.Results.{jobs_of, Ends, EndsAfter}
use Rattle.event_history.specs.Order.{goes_first}
use Rattle.event_history.specs.Exclusion.{HeldConflict}
use Rattle.event_history.specs.Inside.Following.{started_by, registered_in, IsParentOpen, IsUnopened, ChildrenOk, MayHold, MayBeDrawn}
use Rattle.event_history.proofs.Spares.{pulls_sort}
use Rattle.event_history.proofs.Places.{has_stands}
use Rattle.scheduling.specs.declared.lock_word.LockWord.{LockWord}
use Rattle.scheduling.specs.declared.lock_word.LockWord.TheVariants.{Readers, Written}
use Rattle.scheduling.specs.declared.task.Opening.{Opening}
use Rattle.scheduling.specs.declared.task.Opening.TheVariants.{Registering, Beginning, StartedAt, Awaiting, Admitting, Guarding}
use Rattle.scheduling.specs.declared.task.Closing.{Closing}
use Rattle.scheduling.specs.declared.task.Closing.TheVariants.{Ending, AwaitingAfter, Looking, Passing, CountingOff, FinishedAt, SkippedAt, Raising, Giving, Settling}
use Rattle.scheduling.specs.declared.task.Task.TheVariants.{Opens}
use Rattle.scheduling.specs.declared.seat.Seat.{Seat}
use Rattle.scheduling.specs.State.{State, lock_at}
use Rattle.scheduling.specs.Choices.{key_place, keys_count, event_of}
use Rattle.scheduling.specs.Inside.Stages.{How, Gave, Kept, Skips, Stage, Unseen, OpenedBy, InHand, Waiting, ClosedBy, Over, Runs, Mark, Blank, Known, Begun, Ended, Passed, has_mark, picture, closing_picture, mark_of, runner_of, starter_by, is_unseen, is_live, is_past, is_over, raises, is_bold}
use Rattle.scheduling.specs.Inside.Invariant.{IsCorePlan, same_mode, is_key, keys_in, holders, holders_by, EndsSo, IsEnding, OpeningOk, ShapeOk, RunsSo, Fits, HandOk, IsInHand, IsBrought, SeatOk, Holds}
use Rattle.scheduling.proofs.Basics.{count_some, sum_one, sum_two}
use Rattle.scheduling.proofs.Holding.{begun_keys, holds_one, word_apart, mark_any, started_not, finished_not, running_keys, may_join}
use Rattle.scheduling.proofs.Parts.{fits_runs}
use Rattle.scheduling.proofs.RowsOne.{parent_inside, runs_is}
use Rattle.scheduling.proofs.RowsUp.{maker_is}
use Rattle.scheduling.proofs.RowsTwo.{unseen_is}
use Rattle.scheduling.proofs.Spares.{elder_is_registered}

-- a settled node is finished or skipped
past_settled : (p : PlanParts) (n : ℕ) (st : Stage) → is_past st ≡ true → (has_mark true Finished (picture p n st).mark || has_mark true Skipped (picture p n st).mark) ≡ true
past_settled p n (ClosedBy w c CountingOff Gave) q = refl
past_settled p n (ClosedBy w c CountingOff Kept) q = refl
past_settled p n (ClosedBy w c CountingOff Skips) q = refl
past_settled p n (Over Gave) q = refl
past_settled p n (Over Kept) q = refl
past_settled p n (Over Skips) q = refl
past_settled p n (ClosedBy w c _ how) q = absurd (false≢true q)
past_settled p n _ q = absurd (false≢true q)

-- the plan's node ends successfully
root_success : (p : PlanParts) (replies : ℕ → List Reply) (stopped : Bool) (count : ℕ) (status : Status) (text : Option (List ℕ)) → Ends replies (jobs_of p 0) stopped count status text → status ≡ Successful
root_success p replies true count status text lawful = absurd lawful
root_success p replies false count status text lawful = go (has_child p 0) lawful
  where
    go : (b : Bool) → EndsAfter replies None (cond b None None) status text → status ≡ Successful
    go true l = l.0
    go false l = l.0

pub blank_none : (spare : Bool) (k : EventKind) → has_mark spare k Blank ≡ false
blank_none spare Started = refl
blank_none spare Finished = refl
blank_none spare Skipped = refl
blank_none spare Registered = refl

skipped_not : Skipped ≡ Registered → ⊥
skipped_not q = cc

module _ (p : PlanParts) (core : IsCorePlan p) (replies : ℕ → List Reply) (s : State) (g : ℕ → Stage) (h : Holds p replies s g) (w : ℕ) (seat : Seat) (is : slice_get s.seats w ≡ Some seat) (x : ℕ) (inside : x < size p.tree) where
  seat_of : SeatOk p g s.published w seat
  seat_of = h.seats w seat is

  flag_is : (k : EventKind) (st : Stage) → g x ≡ st → has k x s.published ≡ has_mark (is_spare_at p.tree x) k (picture p x st).mark
  flag_is k st at = h.flags k x inside ∙ ap (λ z. has_mark (is_spare_at p.tree x) k (picture p x z).mark) at

  -- above a live node
  record IsUp (st : Stage) : Type 0 where
    owner : ℕ
    from : ℕ
    runs : (picture p (parent_of p.tree x) (g (parent_of p.tree x))).below ≡ Runs owner from
    so : RunsSo p (parent_of p.tree x) x owner from st

  up : (st : Stage) → g x ≡ st → is_live st ≡ true → 0 < x → IsUp st
  up st at live pos =
      let ch : IsChild p.tree (parent_of p.tree x) x = record { above_zero = pos; inside = inside; parent = refl } in
      let fits : Fits p (picture p (parent_of p.tree x) (g (parent_of p.tree x))).below (parent_of p.tree x) x st = subst (λ z. Fits p (picture p (parent_of p.tree x) (g (parent_of p.tree x))).below (parent_of p.tree x) x z) at (h.edges (parent_of p.tree x) x ch) in
      let r = fits_runs p (picture p (parent_of p.tree x) (g (parent_of p.tree x))).below (parent_of p.tree x) x st live fits in
      record { owner = r.0; from = r.1; runs = r.2; so = subst (λ y. Fits p y (parent_of p.tree x) x st) r.2 fits }

  par_inside : 0 < x → parent_of p.tree x < size p.tree
  par_inside pos = parent_inside p core.plan (parent_of p.tree x) x (record { above_zero = pos; inside = inside; parent = refl })

  open_parent : (st : Stage) → g x ≡ st → is_live st ≡ true → IsParentOpen p s.published x
  open_parent st at live = record {
    parent_started = λ pos. (let u = up st at live pos in h.flags Started (parent_of p.tree x) (par_inside pos) ∙ ap (has_mark (is_spare_at p.tree (parent_of p.tree x)) Started) (runs_is p (parent_of p.tree x) (g (parent_of p.tree x)) u.owner (ap runner_of u.runs)).1);
    parent_open = λ pos. (let u = up st at live pos in h.flags Finished (parent_of p.tree x) (par_inside pos) ∙ ap (has_mark (is_spare_at p.tree (parent_of p.tree x)) Finished) (runs_is p (parent_of p.tree x) (g (parent_of p.tree x)) u.owner (ap runner_of u.runs)).1);
  }

  by_starter : (d : Opening) → g x ≡ OpenedBy w d → 0 < x → is_same p x ≡ true → started_by (parent_of p.tree x) (w + 1) s.published ≡ true
  by_starter d at pos same =
      let u = up (OpenedBy w d) at refl pos in
      let r = runs_is p (parent_of p.tree x) (g (parent_of p.tree x)) u.owner (ap runner_of u.runs) in
      let mine : w ≡ u.owner = eqb-true w u.owner (u.so.owned same) in
      let started = h.starters (parent_of p.tree x) u.owner (par_inside pos) (ap (λ m. starter_by m (picture p (parent_of p.tree x) (g (parent_of p.tree x))).word) r.1 ∙ ap (starter_by Begun) r.0) in
      subst (λ v. started_by (parent_of p.tree x) (v + 1) s.published ≡ true) (sym mine) started

  elders_settled : (st : Stage) → g x ≡ st → is_unseen st ≡ false → (a : ℕ) → IsElder p.tree a x → goes_first p a x ≡ true → (has Finished a s.published || has Skipped a s.published) ≡ true
  elders_settled st at seen a elder goes =
      let past = h.elders a x elder goes (ap is_unseen at ∙ seen) in
      let f = h.flags Finished a elder.elder.inside ∙ mark_any (is_spare_at p.tree a) true Finished (picture p a (g a)).mark finished_not in
      let k = h.flags Skipped a elder.elder.inside ∙ mark_any (is_spare_at p.tree a) true Skipped (picture p a (g a)).mark skipped_not in
      ap (λ b. b || has Skipped a s.published) f ∙ ap (λ b. has_mark true Finished (picture p a (g a)).mark || b) k ∙ past_settled p a (g a) past

  unopened : (d : Opening) → g x ≡ OpenedBy w d → (picture p x (OpenedBy w d)).mark ≡ Known → IsUnopened p s.published x
  unopened d at mark = record {
    unstarted = flag_is Started (OpenedBy w d) at ∙ ap (has_mark (is_spare_at p.tree x) Started) mark;
    unskipped = flag_is Skipped (OpenedBy w d) at ∙ ap (has_mark (is_spare_at p.tree x) Skipped) mark;
    registered = λ spare. flag_is Registered (OpenedBy w d) at ∙ ap (has_mark (is_spare_at p.tree x) Registered) mark ∙ spare;
    parent = open_parent (OpenedBy w d) at refl;
  }

  within : w + 1 ≤ length s.seats
  within = (let lt = slice_get_within s.seats w seat is in omega (arith, lt))

  above_one : nat_le 1 (w + 1) ≡ true
  above_one = le-leb 1 (w + 1) (omega arith)

  worker_few : nat_le (w + 1) 64 ≡ true
  worker_few = (let few = h.workers_few in le-leb (w + 1) 64 (omega (arith, within, few)))

  node_few : nat_le x 16383 ≡ true
  node_few = (let few = core.few in le-leb x 16383 (omega (arith, inside, few)))

  lawful : (k : EventKind) (status : Option Status) → fits_status k status ≡ true → (x ≡ 0 → plan_may k status ≡ true) → is_lawful (event_of k x status w) ≡ true
  lawful k status fits root =
      and_from (fits_status k status && (nat_le 1 (w + 1) && nat_le (w + 1) 64) && nat_le x 16383) (not (x == 0) || plan_may k status)
      (and_from (fits_status k status && (nat_le 1 (w + 1) && nat_le (w + 1) 64)) (nat_le x 16383)
      (and_from (fits_status k status) (nat_le 1 (w + 1) && nat_le (w + 1) 64) fits (and_from (nat_le 1 (w + 1)) (nat_le (w + 1) 64) above_one worker_few)) node_few)
      (elim (cases_eq x 0) [ inl z ↦ or_right (not (x == 0)) (plan_may k status) (root z) | inr ne ↦ or_left (not (x == 0)) (plan_may k status) (ap not (ne_eqb x 0 ne)) ])

  -- no running node holds what conflicts with the node's own keys
  holders_one : (k : ℕ) (mode : LockMode) (a : ℕ) → a < size p.tree → keys_in p k mode a (picture p a (g a)).keys ≤ holders p g k mode
  unfolding holders
  holders_one k mode a ia = sum_one (λ n. keys_in p k mode n (picture p n (g n)).keys) a (size p.tree) ia

  holders_two : (k : ℕ) (mode : LockMode) (a b : ℕ) → a < size p.tree → b < size p.tree → a ≢ b → keys_in p k mode a (picture p a (g a)).keys + keys_in p k mode b (picture p b (g b)).keys ≤ holders p g k mode
  unfolding holders
  holders_two k mode a b ia ib ne = sum_two (λ n. keys_in p k mode n (picture p n (g n)).keys) a b (size p.tree) ia ib ne

  -- a writer and any other
  writes : (k a b : ℕ) (mode other : LockMode) → a < size p.tree → b < size p.tree → mode ≡ ReadWrite → 1 ≤ keys_in p k mode a (picture p a (g a)).keys → 1 ≤ keys_in p k other b (picture p b (g b)).keys → a ≢ b → ⊥
  writes k a b mode Read ia ib q ka kb ne =
      let kw : 1 ≤ keys_in p k ReadWrite a (picture p a (g a)).keys = subst (λ m. 1 ≤ keys_in p k m a (picture p a (g a)).keys) q ka in
      let one = holders_one k ReadWrite a ia in
      let two = holders_one k Read b ib in
      let lw = h.locks.counted k ReadWrite in
      let lr = h.locks.counted k Read in
      let apart = word_apart (lock_at s k) (omega (arith, kw, one, lw)) in
      let z = apart.0 in
      omega (arith, kb, two, lr, z)
  writes k a b mode ReadWrite ia ib q ka kb ne =
      let kw : 1 ≤ keys_in p k ReadWrite a (picture p a (g a)).keys = subst (λ m. 1 ≤ keys_in p k m a (picture p a (g a)).keys) q ka in
      let two = holders_two k ReadWrite a b ia ib ne in
      let lw = h.locks.counted k ReadWrite in
      let apart = word_apart (lock_at s k) (omega (arith, kw, two, lw)) in
      let z = apart.1 in
      omega (arith, kw, kb, two, lw, z)

  may_hold : g x ≡ OpenedBy w (Beginning false) → (m : ℕ) → has Started m s.published ≡ true → has Finished m s.published ≡ false → HeldConflict p m x → ⊥
  may_hold at m started unfinished c =
      elim (cases_eq m x) [
        | inl q ↦ both_ways (has Started x s.published) (flag_is Started (OpenedBy w (Beginning false)) at) (subst (λ k. has Started k s.published ≡ true) q started)
        | inr ne ↦ elim c.writes [
          | inl a ↦ writes (key_place p c.key) m x c.mode c.other_mode m_running.0 inside a (at_m c.mode c.here) (at_x c.other_mode c.there) ne
          | inr b ↦ writes (key_place p c.key) x m c.other_mode c.mode inside m_running.0 b (at_x c.other_mode c.there) (at_m c.mode c.here) (λ q. ne (sym q))
        ]
      ]
    where
      m_running : (m < size p.tree) × ((picture p m (g m)).keys ≡ keys_count p m)
      m_running = running_keys p replies s g h m started unfinished

      at_m : (mode : LockMode) → HasLock (held_of p m) c.key mode → 1 ≤ keys_in p (key_place p c.key) mode m (picture p m (g m)).keys
      at_m mode lock = subst (λ n. 1 ≤ keys_in p (key_place p c.key) mode m n) (sym m_running.1) (holds_one p m c.key mode lock)

      at_x : (mode : LockMode) → HasLock (held_of p x) c.key mode → 1 ≤ keys_in p (key_place p c.key) mode x (picture p x (g x)).keys
      at_x mode lock = subst (λ st. 1 ≤ keys_in p (key_place p c.key) mode x (picture p x st).keys) (sym at) (holds_one p x c.key mode lock)

  no_key : (k : EventKind) → (k ≡ Started → ⊥) → (n : ℕ) (status : Option Status) → MayHold p s.published (event_of k n status w)
  no_key k ne n status q = absurd (ne q)

  -- The events that may be drawn
  pub draws_start : g x ≡ OpenedBy w (Beginning false) → seat.task ≡ Opens x (Beginning false) → MayBeDrawn p replies (length s.seats) s.published (event_of Started x None w)
  draws_start at e = record {
    follows = record {
      lawful = lawful Started None refl (λ _. refl);
      inside = inside;
      by_worker = within;
      by_kind = record { unopened = unopened (Beginning false) at refl; enabled = subst (ShapeOk p replies s.published x) at (h.shapes x inside); unknown = λ ff. seat_of.quits ff (ap is_bold e) };
    };
    next = record { elders = λ _. elders_settled (OpenedBy w (Beginning false)) at refl; by_parent = λ _ pos same. by_starter (Beginning false) at pos same };
    holds = λ _. may_hold at;
    joins = λ _. may_join p replies s g h x (ap (λ st. (picture p x st).keys) at);
  }

  pub draws_skip : g x ≡ OpenedBy w (Beginning true) → MayBeDrawn p replies (length s.seats) s.published (event_of Skipped x None w)
  draws_skip at =
      let shape : OpeningOk p replies s.published x (Beginning true) = subst (ShapeOk p replies s.published x) at (h.shapes x inside) in
      let pos = shape.0 in
      record {
        follows = record {
          lawful = lawful Skipped None refl (λ z. absurd (omega (arith, pos, z)));
          inside = inside;
          by_worker = within;
          by_kind = record { unopened = unopened (Beginning true) at refl; reason = shape.1 };
        };
        next = record { elders = λ _. elders_settled (OpenedBy w (Beginning true)) at refl; by_parent = λ _ above same. by_starter (Beginning true) at above same };
        holds = λ q. absurd (skipped_start q);
        joins = λ q. absurd (skipped_start q);
      }
    where
      skipped_start : Skipped ≡ Started → ⊥
      skipped_start q = cc

  pub draws_register : g x ≡ OpenedBy w Registering → IsBrought p x Registering seat.hand → MayBeDrawn p replies (length s.seats) s.published (event_of Registered x None w)
  draws_register at brought =
      let shape : (is_spare_at p.tree x && pulls_job p (parent_of p.tree x)) ≡ true = subst (ShapeOk p replies s.published x) at (h.shapes x inside) in
      let parts = and_parts (is_spare_at p.tree x) (pulls_job p (parent_of p.tree x)) shape in
      let hand : IsInHand p g s.published w brought.held = subst (HandOk p g s.published w) brought.is seat_of.hand in
      let ch : IsChild p.tree (parent_of p.tree x) x = record { above_zero = brought.child; inside = inside; parent = refl } in
      let pos = brought.child in
      let next_one : rank p x ≡ registered_in p s.published (parent_of p.tree x) = brought.next refl ∙ sym hand.count ∙ ap (registered_in p s.published) (sym brought.parent) in
      record {
        follows = record {
          lawful = lawful Registered None refl (λ z. absurd (omega (arith, pos, z)));
          inside = inside;
          by_worker = within;
          by_kind = record {
            spare = shape;
            fresh = flag_is Registered (OpenedBy w Registering) at;
            elders = λ a elder. elder_registered ch parts.1 next_one a elder;
            parent = open_parent (OpenedBy w Registering) at refl;
          };
        };
        next = record { elders = λ _. elders_settled (OpenedBy w Registering) at refl; by_parent = λ _ above same. by_starter Registering at above same };
        holds = λ q. absurd (registered_start q);
        joins = λ q. absurd (registered_start q);
      }
    where
      registered_start : Registered ≡ Started → ⊥
      registered_start q = cc

      elder_registered : IsChild p.tree (parent_of p.tree x) x → pulls_job p (parent_of p.tree x) ≡ true → rank p x ≡ registered_in p s.published (parent_of p.tree x) → (a : ℕ) → IsElder p.tree a x → has Registered a s.published ≡ true
      elder_registered ch pulls next_one a elder =
          let cha : IsChild p.tree (parent_of p.tree x) a = subst (λ k. IsChild p.tree k a) (sym elder.younger.parent) elder.elder in
          elder_is_registered p replies (length s.seats) s.published h.published.legal (parent_of p.tree x) a x elder.before cha ch (core.makers (parent_of p.tree x) a cha (maker_is (sort_of p.tree (parent_of p.tree x)) (body_of p.tree (parent_of p.tree x)) (sym (pulls_sort p core.plan (parent_of p.tree x)) ∙ pulls))) next_one

  pub draws_finish : (c : ℕ) (how : How) (status : Status) → g x ≡ ClosedBy w c (Ending status) how → MayBeDrawn p replies (length s.seats) s.published (event_of Finished x (Some status) w)
  draws_finish c how status at =
      let ok : IsEnding p replies s.published x how status = subst (ShapeOk p replies s.published x) at (h.shapes x inside) in
      record {
        follows = record {
          lawful = lawful Finished (Some status) refl (λ z. root z status (success z ok));
          inside = inside;
          by_worker = within;
          by_kind = record { started = flag_is Started (ClosedBy w c (Ending status) how) at; unfinished = flag_is Finished (ClosedBy w c (Ending status) how) at; status = status; here = refl; stopped = ok.stopped; children = children how ok.stopped ok.so at; text = ok.text; lawful = ok.lawful };
        };
        next = record { elders = λ q. absurd (false≢true q); by_parent = λ q. absurd (false≢true q) };
        holds = λ q. absurd (finished_start q);
        joins = λ q. absurd (finished_start q);
      }
    where
      finished_start : Finished ≡ Started → ⊥
      finished_start q = cc

      success : x ≡ 0 → IsEnding p replies s.published x how status → status ≡ Successful
      success z ok = root_success p replies ok.stopped (registered_in p s.published x) status ok.text (subst (λ n. Ends replies (jobs_of p n) ok.stopped (registered_in p s.published x) status ok.text) z ok.lawful)

      root : x ≡ 0 → (st : Status) → st ≡ Successful → plan_may Finished (Some st) ≡ true
      root z st q = ap (λ y. plan_may Finished (Some y)) q

      over : (a : ℕ) → IsChild p.tree x a → (st : Stage) → g a ≡ st → is_over (is_spare_at p.tree a) st ≡ true → ((has Finished a s.published || has Skipped a s.published) ≡ true) ⊎ ((is_spare_at p.tree a ≡ true) × (has Registered a s.published ≡ false))
      over a ch Unseen q r = inr (r, h.flags Registered a ch.inside ∙ ap (λ z. has_mark (is_spare_at p.tree a) Registered (picture p a z).mark) q)
      over a ch (Over Gave) q r = inl (or_left (has Finished a s.published) (has Skipped a s.published) (h.flags Finished a ch.inside ∙ ap (λ z. has_mark (is_spare_at p.tree a) Finished (picture p a z).mark) q))
      over a ch (Over Kept) q r = inl (or_left (has Finished a s.published) (has Skipped a s.published) (h.flags Finished a ch.inside ∙ ap (λ z. has_mark (is_spare_at p.tree a) Finished (picture p a z).mark) q))
      over a ch (Over Skips) q r = inl (or_right (has Finished a s.published) (has Skipped a s.published) (h.flags Skipped a ch.inside ∙ ap (λ z. has_mark (is_spare_at p.tree a) Skipped (picture p a z).mark) q))
      over a ch _ q r = absurd (false≢true r)

      children : (how : How) (stopped : Bool) → EndsSo p x how stopped → g x ≡ ClosedBy w c (Ending status) how → ChildrenOk p s.published x stopped
      children Gave false so at = λ a ch. over a ch (g a) refl (subst (λ z. Fits p (picture p x z).below x a (g a)) at (h.edges x a ch))
      children Gave true so at = absurd so
      children Kept false so at = λ a ch. absurd (core.plan.leaf x a ch so)
      children Kept true so at = λ a ch k. h.flags k a ch.inside ∙ ap (λ z. has_mark (is_spare_at p.tree a) k (picture p a z).mark) (unseen_is (g a) (subst (λ z. Fits p (picture p x z).below x a (g a)) at (h.edges x a ch))) ∙ blank_none (is_spare_at p.tree a) k
      children Skips stopped so at = absurd so
