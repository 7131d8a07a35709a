-- Moves that publish nothing: node x goes from stage a to stage b, and worker w from its seat to the next.
use Rattle.std.proofs.Common.{◌≡◌, ◌≢◌, ℕ, ◌+◌, ◌<◌, Bool, true, false, List, length, set, Some, slice_get, slice_index_or, ◌⊎◌, arith, inl, inr, refl, sym, ap, ◌∙◌, subst}
use Rattle.descriptor.specs.Nodes.{size, parent_of, IsChild, is_spare_at, bit}
use Rattle.plan_events.specs.declared.event.EventKind.{EventKind}
use Rattle.plan_events.specs.declared.event.Event.{Event}
use Rattle.plan_events.specs.declared.outcome.Reply.{Reply}
use Rattle.plan_events.specs.declared.status.Status.{Status}
use Rattle.plan_events.specs.declared.status.Status.TheVariants.{Successful}
use Rattle.resource_locks.specs.Plans.{PlanParts}
use Rattle.event_history.specs.Plans.{IsPlanTree, IsElder, is_same}
use Rattle.event_history.specs.Order.{goes_first}
use Rattle.event_history.specs.Places.{has}
use Rattle.event_history.specs.Inside.Following.{started_by}
use Rattle.scheduling.specs.declared.status.NodeStatus.{NodeStatus}
use Rattle.scheduling.specs.declared.lock_word.LockWord.{LockWord}
use Rattle.scheduling.specs.declared.task.Task.{Task}
use Rattle.scheduling.specs.declared.seat.Seat.{Seat}
use Rattle.scheduling.specs.State.{State, subject}
use Rattle.scheduling.specs.Rows.{with_task}
use Rattle.scheduling.specs.Inside.Stages.{Stage, InHand, Waiting, Below, Runs, picture, has_mark, starter_of, who, is_unseen, is_live, is_owned, is_pending, is_past, is_unsettled, raises}
use Rattle.scheduling.specs.Inside.Invariant.{ShapeOk, Fits, TaskOk, BringsOk, SeatOk, HeldBy, Holds}
use Rattle.scheduling.proofs.Basics.{upd, upd_all}
use Rattle.scheduling.proofs.StageMove.{moved}
use Rattle.scheduling.proofs.Parts.{StatusList, CounterList, LockList, counters_keep, fits_live, live_seen, own_hand, QuitStep}

abbrev pub ResultList : PlanParts → List Status → (ℕ → Stage) → Type 0
ResultList p l g = (length l ≡ size p.tree) × ((n c : ℕ) (r : Status) → n < size p.tree → g n ≡ Waiting c r → slice_index_or l n Successful ≡ r)

abbrev pub ShownOk : State → List Bool → Type 0
ShownOk s shown = (length shown ≡ length s.published) × ((i : ℕ) → slice_get s.shown i ≡ Some true → slice_get shown i ≡ Some true)

pub record Silent (p : PlanParts) (replies : ℕ → List Reply) (s : State) (g : ℕ → Stage) (w : ℕ) (seat : Seat) (x : ℕ) (a b : Stage) (seat2 : Seat) (statuses : List NodeStatus) (counters : List ℕ) (results : List Status) (locks : List LockWord) (cancel : ℕ) (shown : List Bool) : Type 0 where
  pub inside : x < size p.tree
  pub at : g x ≡ a
  pub alone : (v : ℕ) → who a ≡ Some v → v ≡ w
  pub still : (n : ℕ) → n ≢ x → subject seat.task ≡ Some n → seat2.task ≡ seat.task
  pub held : HeldBy (set s.seats w seat2) x b
  pub seat_ok : SeatOk p (upd g x b) s.published w seat2
  pub statuses_ok : StatusList p statuses (upd g x b)
  pub counters_ok : CounterList p counters (upd g x b)
  pub results_ok : ResultList p results (upd g x b)
  pub locks_ok : LockList p locks (upd g x b)
  pub mark : (k : EventKind) → has_mark (is_spare_at p.tree x) k (picture p x a).mark ≡ has_mark (is_spare_at p.tree x) k (picture p x b).mark
  pub starter : (c : ℕ) → starter_of (picture p x b) ≡ Some c → started_by x (c + 1) s.published ≡ true
  pub raising : p.fail_fast ≡ true → cancel + bit (raises seat2.task) ≡ s.cancel + bit (raises seat.task)
  pub shown_ok : ShownOk s shown
  pub shape : ShapeOk p replies s.published x b
  pub above : (c : ℕ) → IsChild p.tree c x → Fits p (picture p c (g c)).below c x b
  pub below : (c : ℕ) → IsChild p.tree x c → Fits p (picture p x b).below x c (g c)
  pub past : is_past a ≡ true → is_past b ≡ true
  pub elders : (c : ℕ) → IsElder p.tree c x → goes_first p c x ≡ true → is_unseen b ≡ false → is_past (g c) ≡ true
  pub quiet : is_spare_at p.tree x ≡ true → is_unsettled b ≡ true → (is_unsettled a ≡ true) ⊎ (g (parent_of p.tree x) ≡ InHand w)

pub silent : (p : PlanParts) → IsPlanTree p.tree → (replies : ℕ → List Reply) (s : State) (g : ℕ → Stage) → Holds p replies s g → (w : ℕ) (seat : Seat) → slice_get s.seats w ≡ Some seat → (x : ℕ) (a b : Stage) (seat2 : Seat) (statuses : List NodeStatus) (counters : List ℕ) (results : List Status) (locks : List LockWord) (cancel : ℕ) (shown : List Bool)
    → Silent p replies s g w seat x a b seat2 statuses counters results locks cancel shown
    → Holds p replies (record s { statuses = statuses; counters = counters; results = results; locks = locks; cancel = cancel; seats = set s.seats w seat2; shown = shown }) (upd g x b)
silent p plan replies s g h w seat is x a b seat2 statuses counters results locks cancel shown m =
    moved p plan replies s (record s { statuses = statuses; counters = counters; results = results; locks = locks; cancel = cancel; seats = set s.seats w seat2; shown = shown }) g w x b seat seat2 h (record {
      inside = m.inside;
      seat_is = is;
      seats = refl;
      alone = λ v q. m.alone v (ap who (sym m.at) ∙ q);
      still = m.still;
      held = m.held;
      seat_ok = m.seat_ok;
      statuses_len = m.statuses_ok.0;
      counters_len = m.counters_ok.0;
      results_len = m.results_ok.0;
      shown_len = m.shown_ok.0;
      words = m.statuses_ok.1;
      counters = m.counters_ok.1;
      results = m.results_ok.1;
      locks = m.locks_ok;
      flags = λ k n lt. upd_all (λ j st. has k j s.published ≡ has_mark (is_spare_at p.tree j) k (picture p j st).mark) g x b n
          (λ e. subst (λ (j : ℕ). has k j s.published ≡ has_mark (is_spare_at p.tree j) k (picture p j b).mark) (sym e) (h.flags k x m.inside ∙ (ap (λ (st : Stage). has_mark (is_spare_at p.tree x) k (picture p x st).mark) m.at ∙ m.mark k))) (λ _. h.flags k n lt);
      starters = λ n c lt. upd_all (λ j st. starter_of (picture p j st) ≡ Some c → started_by j (c + 1) s.published ≡ true) g x b n
          (λ e. subst (λ (j : ℕ). starter_of (picture p j b) ≡ Some c → started_by j (c + 1) s.published ≡ true) (sym e) (m.starter c)) (λ _. h.starters n c lt);
      others = λ v ne. (refl, refl);
      counts = λ f. inl refl;
      raising = λ ff. (let same : cancel + bit (raises seat2.task) ≡ s.cancel + bit (raises seat.task) = m.raising ff in omega (arith, same));
      published = h.published;
      given = record { rest = h.given.rest; front = h.given.front; shown = λ i lt. m.shown_ok.1 i (h.given.shown i lt) };
      shape = m.shape;
      shapes = λ n ne lt old. old;
      above = m.above;
      below = m.below;
      past = λ q. m.past (ap is_past (sym m.at) ∙ q);
      elders = m.elders;
      quiet = λ z q. elim (m.quiet z q) [ inl u ↦ inl (ap is_unsettled m.at ∙ u) | inr i ↦ inr i ];
    })

-- a seat whose worker goes on with task t2 and the same hand
pub seat_goes : (p : PlanParts) (g : ℕ → Stage) (h : List Event) (w : ℕ) (seat : Seat) (x : ℕ) (a b : Stage) (t2 : Task) → SeatOk p g h w seat → g x ≡ a → (a ≡ InHand w → ⊥) → (is_unsettled b ≡ true → is_unsettled a ≡ true)
    → TaskOk p (upd g x b) w t2 → BringsOk p t2 seat.hand → (raises t2 ≡ true → raises seat.task ≡ true) → QuitStep p h w seat.task t2 → SeatOk p (upd g x b) h w (with_task seat t2)
seat_goes p g h w seat x a b t2 old at not quiet task brought raise quit = record {
  task = task;
  hand = own_hand p g h w x a b seat.hand at not quiet old.hand;
  brought = brought;
  failed = λ r. old.failed (raise r);
  quits = λ ff bold. quit ff (old.quits ff) bold;
}

-- What a move says where the two stages look alike but for the word, the keys and the cancel word: the picture's mark, guard and
-- what is below are the same, and the node stays live.
pub record Alike (p : PlanParts) (replies : ℕ → List Reply) (s : State) (g : ℕ → Stage) (w : ℕ) (seat : Seat) (x : ℕ) (a b : Stage) (seat2 : Seat) (statuses : List NodeStatus) (locks : List LockWord) (cancel : ℕ) (shown : List Bool) : Type 0 where
  pub inside : x < size p.tree
  pub at : g x ≡ a
  pub alone : (v : ℕ) → who a ≡ Some v → v ≡ w
  pub still : (n : ℕ) → n ≢ x → subject seat.task ≡ Some n → seat2.task ≡ seat.task
  pub held : HeldBy (set s.seats w seat2) x b
  pub seat_ok : SeatOk p (upd g x b) s.published w seat2
  pub statuses_ok : StatusList p statuses (upd g x b)
  pub locks_ok : LockList p locks (upd g x b)
  pub not_waiting : (c : ℕ) (r : Status) → b ≡ Waiting c r → ⊥
  pub mark : (picture p x a).mark ≡ (picture p x b).mark
  pub same_starter : starter_of (picture p x b) ≡ starter_of (picture p x a)
  pub guard : (picture p x a).guard ≡ (picture p x b).guard
  pub same_below : (picture p x a).below ≡ (picture p x b).below
  pub pends : is_pending (is_spare_at p.tree x) a ≡ is_pending (is_spare_at p.tree x) b
  pub live : is_live a ≡ true
  pub owned : (c : ℕ) → IsChild p.tree c x → is_same p x ≡ true → (o from : ℕ) → (picture p c (g c)).below ≡ Runs o from → is_owned o a ≡ true → is_owned o b ≡ true
  pub raising : p.fail_fast ≡ true → cancel + bit (raises seat2.task) ≡ s.cancel + bit (raises seat.task)
  pub shown_ok : ShownOk s shown
  pub shape : ShapeOk p replies s.published x b
  pub past : is_past a ≡ true → is_past b ≡ true
  pub quiet : is_spare_at p.tree x ≡ true → is_unsettled b ≡ true → (is_unsettled a ≡ true) ⊎ (g (parent_of p.tree x) ≡ InHand w)

pub alike : (p : PlanParts) → IsPlanTree p.tree → (replies : ℕ → List Reply) (s : State) (g : ℕ → Stage) → Holds p replies s g → (w : ℕ) (seat : Seat) → slice_get s.seats w ≡ Some seat → (x : ℕ) (a b : Stage) (seat2 : Seat) (statuses : List NodeStatus) (locks : List LockWord) (cancel : ℕ) (shown : List Bool)
    → Alike p replies s g w seat x a b seat2 statuses locks cancel shown
    → Holds p replies (record s { statuses = statuses; locks = locks; cancel = cancel; seats = set s.seats w seat2; shown = shown }) (upd g x b)
alike p plan replies s g h w seat is x a b seat2 statuses locks cancel shown m =
    silent p plan replies s g h w seat is x a b seat2 statuses s.counters s.results locks cancel shown (record {
      inside = m.inside;
      at = m.at;
      alone = m.alone;
      still = m.still;
      held = m.held;
      seat_ok = m.seat_ok;
      statuses_ok = m.statuses_ok;
      counters_ok = counters_keep p s.counters g x a b m.at m.guard m.pends (h.counters_len, h.counters);
      results_ok = (h.results_len, λ n c r lt. upd_all (λ k st. st ≡ Waiting c r → slice_index_or s.results k Successful ≡ r) g x b n (λ e q. absurd (m.not_waiting c r q)) (λ _. h.results n c r lt));
      locks_ok = m.locks_ok;
      mark = λ k. ap (has_mark (is_spare_at p.tree x) k) m.mark;
      starter = λ c q. h.starters x c m.inside (ap (λ (st : Stage). starter_of (picture p x st)) m.at ∙ sym m.same_starter ∙ q);
      raising = m.raising;
      shown_ok = m.shown_ok;
      shape = m.shape;
      above = λ c ch. fits_live p (picture p c (g c)).below c x a b m.live (m.owned c ch) (subst (λ (st : Stage). Fits p (picture p c (g c)).below c x st) m.at (h.edges c x ch));
      below = λ c ch. subst (λ (y : Below). Fits p y x c (g c)) (ap (λ (st : Stage). (picture p x st).below) m.at ∙ m.same_below) (h.edges x c ch);
      past = m.past;
      elders = λ c elder first seen. h.elders c x elder first (ap is_unseen m.at ∙ live_seen a m.live);
      quiet = m.quiet;
    })
