-- What a step pays: its worker goes on to another task, or a status, a counter or the history changes.
use Rattle.std.proofs.Common.{◌≡◌, ℕ, ◌+◌, ◌*◌, ◌-◌, ◌<◌, ◌≤◌, Bool, true, false, List, [], ◌∷◌, ◌++◌, length, set, sum_by, Option, Some, None, slice_get, slice_index_or, refl, ap, subst, arith, length-append, get_or-set_other}
use Rattle.std.proofs.lemmas.Option.{none-some, same_Some, slice_get_within}
use Rattle.std.proofs.lemmas.Grind.{get_or-set_at}
use Rattle.descriptor.specs.Nodes.{size}
use Rattle.plan_events.specs.declared.event.Event.{Event}
use Rattle.plan_events.specs.declared.status.Status.{Status}
use Rattle.resource_locks.specs.Plans.{PlanParts, most_events}
use Rattle.scheduling.specs.declared.status.NodeStatus.{NodeStatus}
use Rattle.scheduling.specs.declared.status.NodeStatus.TheVariants.{Hidden}
use Rattle.scheduling.specs.declared.lock_word.LockWord.{LockWord}
use Rattle.scheduling.specs.declared.seat.Seat.{Seat}
use Rattle.scheduling.specs.Inside.Invariant.{sum_below}
use Rattle.scheduling.specs.Rows.{read_event, read_row}
use Rattle.scheduling.specs.State.{State, status_at, counter_at}
use Rattle.scheduling.proofs.Basics.{sum_change}
use Rattle.termination.specs.Inside.Accounts.{status_steps, counter_steps, statuses_left, counters_left, seat_steps, steps_left}
use Rattle.termination.proofs.Sums.{sum_moves}

-- a sum over a list's places, where one is changed
sum_set : {X : Type 0} (f : ℕ → X → ℕ) (l : List X) (n : ℕ) (v d : X) (m : ℕ) → n < m → n < length l
    → sum_below (λ k. f k (slice_index_or (set l n v) k d)) m + f n (slice_index_or l n d) ≡ sum_below (λ k. f k (slice_index_or l k d)) m + f n v
sum_set f l n v d m lt inside =
    let change = sum_change (λ k. f k (slice_index_or (set l n v) k d)) (λ k. f k (slice_index_or l k d)) n m lt (λ k ne. ap (f k) (get_or-set_other l n k v d ne)) in
    let here : f n (slice_index_or (set l n v) n d) ≡ f n v = ap (f n) (get_or-set_at l n n v d refl inside) in
    plain _ _ _ _ _ change here
  where
    plain : (new old was now is : ℕ) → new + was ≡ old + now → now ≡ is → new + was ≡ old + is
    plain new old was now is a b = omega (arith, a, b)

module _ (p : PlanParts) (s : State) (w : ℕ) (seat : Seat) (is : slice_get s.seats w ≡ Some seat) where
  ranks : (next : Seat) → sum_by (seat_steps p) (set s.seats w next) + seat_steps p seat ≡ sum_by (seat_steps p) s.seats + seat_steps p next
  ranks next = sum_moves (seat_steps p) s.seats w seat next is

  -- the worker goes on to another task
  pub task_moves : (locks : List LockWord) (cancel : ℕ) (shown : List Bool) (next : Seat) → steps_left p (record s { locks = locks; cancel = cancel; shown = shown; seats = set s.seats w next }) + seat_steps p seat ≡ steps_left p s + seat_steps p next
  task_moves locks cancel shown next = plain (statuses_left p s + counters_left p s + 4 * (most_events p - length s.published)) (length s.published - length s.given) _ _ (seat_steps p seat) (seat_steps p next) (ranks next)
    where
      plain : (m c sum new old next : ℕ) → new + old ≡ sum + next → (m + new + c) + old ≡ (m + sum + c) + next
      plain m c sum new old next e = omega (arith, e)

  -- and a node's status changes
  pub status_moves : (n : ℕ) (v : NodeStatus) (next : Seat) → n < size p.tree → length s.statuses ≡ size p.tree
      → steps_left p (record s { statuses = set s.statuses n v; seats = set s.seats w next }) + status_steps p n (status_at s n) + seat_steps p seat ≡ steps_left p s + status_steps p n v + seat_steps p next
  status_moves n v next inside len =
      let change = sum_set (status_steps p) s.statuses n v Hidden (size p.tree) inside (omega (arith, inside, len)) in
      plain _ _ (status_steps p n (status_at s n)) (status_steps p n v) (counters_left p s) (4 * (most_events p - length s.published)) (length s.published - length s.given) _ _ (seat_steps p seat) (seat_steps p next) change (ranks next)
    where
      plain : (here before was then b e c sum new old next : ℕ) → here + was ≡ before + then → new + old ≡ sum + next → (here + b + e + new + c) + was + old ≡ (before + b + e + sum + c) + then + next
      plain here before was then b e c sum new old next a d = omega (arith, a, d)

  -- or a counter
  pub counter_moves : (n c : ℕ) (results : List Status) (next : Seat) → n < size p.tree → length s.counters ≡ size p.tree
      → steps_left p (record s { counters = set s.counters n c; results = results; seats = set s.seats w next }) + counter_steps p n (counter_at s n) + seat_steps p seat ≡ steps_left p s + counter_steps p n c + seat_steps p next
  counter_moves n c results next inside len =
      let change = sum_set (counter_steps p) s.counters n c 0 (size p.tree) inside (omega (arith, inside, len)) in
      plain _ _ (counter_steps p n (counter_at s n)) (counter_steps p n c) (statuses_left p s) (4 * (most_events p - length s.published)) (length s.published - length s.given) _ _ (seat_steps p seat) (seat_steps p next) change (ranks next)
    where
      plain : (here before was then b e c sum new old next : ℕ) → here + was ≡ before + then → new + old ≡ sum + next → (b + here + e + new + c) + was + old ≡ (b + before + e + sum + c) + then + next
      plain here before was then b e c sum new old next a d = omega (arith, a, d)

  -- or an event is drawn, where there is room
  pub event_drawn : (e : Event) (next : Seat) → length s.published < most_events p → seat_steps p next < 3 + seat_steps p seat
      → steps_left p (record s { published = s.published ++ e ∷ []; shown = s.shown ++ false ∷ []; seats = set s.seats w next }) < steps_left p s
  event_drawn e next room less =
      plain (statuses_left p s + counters_left p s) (most_events p) (length s.published) (length (s.published ++ e ∷ [])) (length s.given) _ _ (seat_steps p seat) (seat_steps p next) (length-append s.published (e ∷ [])) room (ranks next) less
    where
      plain : (m most l k g sum new old next : ℕ) → k ≡ l + 1 → l < most → new + old ≡ sum + next → next < 3 + old → m + 4 * (most - k) + new + (k - g) < m + 4 * (most - l) + sum + (l - g)
      plain m most l k g sum new old next one room e less = omega (arith, one, room, e, less)

  -- no more is left where the next task takes no more
  pub task_no_higher : (next : Seat) → seat_steps p next ≤ seat_steps p seat → steps_left p (record s { seats = set s.seats w next }) ≤ steps_left p s
  task_no_higher next le = (let moves = task_moves s.locks s.cancel s.shown next in plain _ _ _ _ moves le)
    where
      plain : (after before old next : ℕ) → after + old ≡ before + next → next ≤ old → after ≤ before
      plain after before old next e le = omega (arith, e, le)

-- the dispatcher gives one more event
event_given : (p : PlanParts) (s : State) (e : Event) → length s.given < length s.published → steps_left p (record s { given = s.given ++ e ∷ [] }) < steps_left p s
event_given p s e some =
    plain (statuses_left p s + counters_left p s + 4 * (most_events p - length s.published) + sum_by (seat_steps p) s.seats) (length s.published) (length s.given) (length (s.given ++ e ∷ [])) (length-append s.given (e ∷ [])) some
  where
    plain : (m l g k : ℕ) → k ≡ g + 1 → g < l → m + (l - k) < m + (l - g)
    plain m l g k e some = omega (arith, e, some)

pub read_pays : (p : PlanParts) (s t : State) → read_row s ≡ Some t → steps_left p t < steps_left p s
read_pays p s t r = go (slice_index_or s.shown (length s.given) false) (slice_get s.published (length s.given)) refl r
  where
    go : (shown : Bool) (found : Option Event) → slice_get s.published (length s.given) ≡ found → read_event s shown found ≡ Some t → steps_left p t < steps_left p s
    go false found at r = absurd (none-some t r)
    go true None at r = absurd (none-some t r)
    go true (Some e) at r = subst (λ (x : State). steps_left p x < steps_left p s) (same_Some _ t r) (event_given p s e (slice_get_within s.published (length s.given) e at))
