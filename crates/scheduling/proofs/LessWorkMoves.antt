-- What lowers what is left: a task of a lower rank, or a change of a status, a counter or the history.
use Rattle.std.proofs.Common.{◌≡◌, ℕ, suc, ◌+◌, ◌*◌, ◌-◌, ◌<◌, ◌≤◌, Bool, false, List, [], ◌∷◌, ◌++◌, length, set, get_or, sum_by, Some, slice_get, sym, ap, ◌∙◌, arith, length-append}
use Rattle.std.proofs.lemmas.Option.{slice_get_within, get_or_from_slice_get}
use Rattle.std.proofs.lemmas.List.Sums.{sum_by-set}
use Rattle.std.proofs.Math.Nat.{suc-mul}
use Rattle.descriptor.specs.Nodes.{size}
use Rattle.plan_events.specs.declared.event.Event.{Event}
use Rattle.plan_events.specs.declared.status.Status.{Status}
use Rattle.resource_locks.specs.Plans.{PlanParts, most_events}
use Rattle.scheduling.specs.declared.status.NodeStatus.{NodeStatus}
use Rattle.scheduling.specs.declared.status.NodeStatus.TheVariants.{Hidden}
use Rattle.scheduling.specs.declared.lock_word.LockWord.{LockWord}
use Rattle.scheduling.specs.declared.seat.Seat.{Seat}
use Rattle.scheduling.specs.State.{State, status_at, counter_at}
use Rattle.scheduling.specs.Choices.{keys_count}
use Rattle.scheduling.specs.Inside.Work.{status_rank, changes_left, weight, seat_rank, work_left}
use Rattle.scheduling.proofs.Basics.{sum_one}

-- on plain numbers: a changes of weight w, ranks b, and c events that are not given
rank_lower : (m b x c : ℕ) → x < b → m + x + c < m + b + c
rank_lower m b x c less = omega (arith, less)

one_change : (w a d b x c y : ℕ) → suc d ≡ a → x + y < w + b + c → d * w + x + y < a * w + b + c
one_change w a d b x c y fewer less =
    let weighs : d * w + w ≡ a * w = sym (suc-mul d w) ∙ ap (λ (n : ℕ). n * w) fewer in
    plain (d * w) (a * w) weighs less
  where
    plain : (m n : ℕ) → m + w ≡ n → x + y < w + b + c → m + x + y < n + b + c
    plain m n e less = omega (arith, e, less)

more_change : (w a d b x c : ℕ) → suc a ≡ d → w + x < b → d * w + x + c < a * w + b + c
more_change w a d b x c more less =
    let weighs : a * w + w ≡ d * w = sym (suc-mul a w) ∙ ap (λ (n : ℕ). n * w) more in
    plain (d * w) (a * w) weighs less
  where
    plain : (m n : ℕ) → n + w ≡ m → w + x < b → m + x + c < n + b + c
    plain m n e less = omega (arith, e, less)

-- the ranks of the seats, where one changes, on plain numbers
ranks_lower : (sum new old next : ℕ) → new + old ≡ sum + next → next < old → new < sum
ranks_lower sum new old next e less = omega (arith, e, less)

-- one node's keys are among all
pub keys_few : (p : PlanParts) (n : ℕ) → n < size p.tree → keys_count p n + 8 ≤ weight p
unfolding weight
keys_few p n inside = (let a = sum_one (keys_count p) n (size p.tree) inside in omega (arith, a))

pub weight_least : (p : PlanParts) → 8 ≤ weight p
unfolding weight
weight_least p = omega arith

module _ (p : PlanParts) (s : State) (w : ℕ) (seat : Seat) (is : slice_get s.seats w ≡ Some seat) where
  ranks : (next : Seat) → sum_by (seat_rank p) (set s.seats w next) + seat_rank p seat ≡ sum_by (seat_rank p) s.seats + seat_rank p next
  ranks next =
      let change = sum_by-set (seat_rank p) s.seats w next seat (slice_get_within s.seats w seat is) in
      let was : seat_rank p (get_or s.seats w seat) ≡ seat_rank p seat = ap (seat_rank p) (get_or_from_slice_get s.seats w seat seat is) in
      omega (arith, change, was)

  -- the worker goes on to a task of a lower rank
  pub goes_lower : (locks : List LockWord) (cancel : ℕ) (shown : List Bool) (next : Seat) → seat_rank p next < seat_rank p seat → work_left p (record s { locks = locks; cancel = cancel; shown = shown; seats = set s.seats w next }) < work_left p s
  goes_lower locks cancel shown next less =
      rank_lower (changes_left p s * weight p) (sum_by (seat_rank p) s.seats) (sum_by (seat_rank p) (set s.seats w next)) (length s.published - length s.given) (ranks_lower _ _ (seat_rank p seat) (seat_rank p next) (ranks next) less)

  -- or to one that is no higher
  pub goes_no_higher : (next : Seat) → seat_rank p next ≤ seat_rank p seat → work_left p (record s { seats = set s.seats w next }) ≤ work_left p s
  goes_no_higher next less = plain (changes_left p s * weight p) (length s.published - length s.given) _ _ (seat_rank p seat) (seat_rank p next) (ranks next) less
    where
      plain : (m c sum new old next : ℕ) → new + old ≡ sum + next → next ≤ old → m + new + c ≤ m + sum + c
      plain m c sum new old next e less = omega (arith, e, less)

  -- the ranks where a change comes with the step
  weighed_ranks : (next : Seat) (c y : ℕ) → seat_rank p next + y < weight p + seat_rank p seat + c → sum_by (seat_rank p) (set s.seats w next) + y < weight p + sum_by (seat_rank p) s.seats + c
  weighed_ranks next c y less = plain _ _ (seat_rank p seat) (seat_rank p next) (weight p) (ranks next) less
    where
      plain : (sum new old next weight : ℕ) → new + old ≡ sum + next → next + y < weight + old + c → new + y < weight + sum + c
      plain sum new old next weight e less = omega (arith, e, less)

  -- a node's status goes to the next one
  pub status_lower : (n : ℕ) (v : NodeStatus) (next : Seat) → n < length s.statuses → suc (status_rank v) ≡ status_rank (status_at s n) → seat_rank p next < weight p + seat_rank p seat
      → work_left p (record s { statuses = set s.statuses n v; seats = set s.seats w next }) < work_left p s
  status_lower n v next inside later less =
      one_change (weight p) (changes_left p s) (changes_left p (record s { statuses = set s.statuses n v })) _ _ _ _
      (let a = sum_by-set status_rank s.statuses n v Hidden inside in fewer _ _ _ _ (sum_by (λ c. c) s.counters) (most_events p - length s.published) a later)
      (weighed_ranks next (length s.published - length s.given) (length s.published - length s.given) (add (length s.published - length s.given) less))
    where
      fewer : (sum new old next b c : ℕ) → new + old ≡ sum + next → suc next ≡ old → suc (new + b + c) ≡ sum + b + c
      fewer sum new old next b c e later = omega (arith, e, later)

      add : (c : ℕ) {a b : ℕ} → a < b → a + c < b + c
      add c less = omega (arith, less)

  -- a counter goes down
  pub counter_lower : (n : ℕ) (results : List Status) (next : Seat) → n < length s.counters → 0 < counter_at s n → seat_rank p next < weight p + seat_rank p seat
      → work_left p (record s { counters = set s.counters n (counter_at s n - 1); results = results; seats = set s.seats w next }) < work_left p s
  counter_lower n results next inside some less =
      one_change (weight p) (changes_left p s) (changes_left p (record s { counters = set s.counters n (counter_at s n - 1) })) _ _ _ _
      (let a = sum_by-set (λ (c : ℕ). c) s.counters n (counter_at s n - 1) 0 inside in fewer _ _ (counter_at s n) (sum_by status_rank s.statuses) (most_events p - length s.published) a some)
      (weighed_ranks next (length s.published - length s.given) (length s.published - length s.given) (add (length s.published - length s.given) less))
    where
      fewer : (sum new old b c : ℕ) → new + old ≡ sum + (old - 1) → 0 < old → suc (b + new + c) ≡ b + sum + c
      fewer sum new old b c e some = omega (arith, e, some)

      add : (c : ℕ) {a b : ℕ} → a < b → a + c < b + c
      add c less = omega (arith, less)

  -- a counter goes up
  pub counter_higher : (n : ℕ) (next : Seat) → n < length s.counters → weight p + seat_rank p next < seat_rank p seat
      → work_left p (record s { counters = set s.counters n (counter_at s n + 1); seats = set s.seats w next }) < work_left p s
  counter_higher n next inside less =
      more_change (weight p) (changes_left p s) (changes_left p (record s { counters = set s.counters n (counter_at s n + 1) })) (sum_by (seat_rank p) s.seats) (sum_by (seat_rank p) (set s.seats w next)) _
      (let a = sum_by-set (λ (c : ℕ). c) s.counters n (counter_at s n + 1) 0 inside in more _ _ (counter_at s n) (sum_by status_rank s.statuses) (most_events p - length s.published) a)
      (plain _ _ (seat_rank p seat) (seat_rank p next) (weight p) (ranks next) less)
    where
      more : (sum new old b c : ℕ) → new + old ≡ sum + (old + 1) → suc (b + sum + c) ≡ b + new + c
      more sum new old b c e = omega (arith, e)

      plain : (sum new old next weight : ℕ) → new + old ≡ sum + next → weight + next < old → weight + new < sum
      plain sum new old next weight e less = omega (arith, e, less)

  -- an event is drawn, where there is room
  pub draw_lower : (e : Event) (next : Seat) → length s.published < most_events p → seat_rank p next + 1 < weight p + seat_rank p seat
      → work_left p (record s { published = s.published ++ e ∷ []; shown = s.shown ++ false ∷ []; seats = set s.seats w next }) < work_left p s
  draw_lower e next room less =
      one_change (weight p) (changes_left p s) (changes_left p (record s { published = s.published ++ e ∷ [] })) (sum_by (seat_rank p) s.seats) (sum_by (seat_rank p) (set s.seats w next)) (length s.published - length s.given) (length (s.published ++ e ∷ []) - length s.given)
      (fewer (length s.published) (length (s.published ++ e ∷ [])) (most_events p) (sum_by status_rank s.statuses) (sum_by (λ (c : ℕ). c) s.counters) (length-append s.published (e ∷ [])) room)
      (weighed_ranks next (length s.published - length s.given) (length (s.published ++ e ∷ []) - length s.given) (add (length s.published) (length (s.published ++ e ∷ [])) (length s.given) (seat_rank p next) (weight p + seat_rank p seat) (length-append s.published (e ∷ [])) less))
    where
      fewer : (l m most b c : ℕ) → m ≡ l + 1 → l < most → suc (b + c + (most - m)) ≡ b + c + (most - l)
      fewer l m most b c e room = omega (arith, e, room)

      add : (l m g a b : ℕ) → m ≡ l + 1 → a + 1 < b → a + (m - g) < b + (l - g)
      add l m g a b e less = omega (arith, e, less)

-- the dispatcher gives one more event
pub given_lower : (p : PlanParts) (s : State) (e : Event) → length s.given < length s.published → work_left p (record s { given = s.given ++ e ∷ [] }) < work_left p s
given_lower p s e some =
    plain (changes_left p s * weight p + sum_by (seat_rank p) s.seats) (length s.published) (length s.given) (length (s.given ++ e ∷ [])) (length-append s.given (e ∷ [])) some
  where
    plain : (m l g k : ℕ) → k ≡ g + 1 → g < l → m + (l - k) < m + (l - g)
    plain m l g k e some = omega (arith, e, some)
