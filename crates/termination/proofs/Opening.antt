-- How much the nodes have left at most, and what is left at the opening, in terms of the plan.
use Rattle.std.proofs.Common.{◌≡◌, ℕ, zero, suc, ◌+◌, ◌*◌, ◌-◌, ◌<◌, ◌≤◌, Bool, true, false, cond, ◌&&◌, ◌||◌, ◌==◌, nat_lt, List, [], length, take, replicate, sum_by, slice_index_or, inl, inr, refl, sym, ap, ◌∙◌, arith}
use Rattle.std.proofs.lemmas.Bool.{cases_Bool, and_parts, eqb-true, false_from_ne_true}
use Rattle.std.proofs.lemmas.List.Sums.{sum_by-cons, sum_by_more, sum_by-take-le}
use Rattle.std.proofs.Math.Nat.{suc-mul}
use Rattle.descriptor.specs.Nodes.{Nodes, size, parent_of, is_child, is_spare_at, is_disabled, bit, count_below}
use Rattle.plan_events.specs.declared.outcome.Reply.{Reply}
use Rattle.resource_locks.specs.Plans.{PlanParts, IsPlan, most_events}
use Rattle.event_history.proofs.EventBound.{legal_few}
use Rattle.scheduling.specs.declared.status.NodeStatus.{NodeStatus}
use Rattle.scheduling.specs.declared.status.NodeStatus.TheVariants.{Hidden, Ready, Claimed, Settled}
use Rattle.scheduling.specs.declared.task.Opening.{Opening}
use Rattle.scheduling.specs.declared.task.Opening.TheVariants.{Registering, RegisteredAt, Offering, Noticing, Locking, Weighed, Backing, Beginning, StartedAt, Awaiting, Admitting, Guarding}
use Rattle.scheduling.specs.declared.task.Closing.{Closing}
use Rattle.scheduling.specs.declared.task.Closing.TheVariants.{AwaitingAfter, Ending, FinishedAt, SkippedAt, Raising, Giving, Settling, Looking, Passing, CountingOff}
use Rattle.scheduling.specs.declared.seat.Seat.{Seat}
use Rattle.scheduling.specs.Runs.{opening}
use Rattle.scheduling.specs.Inside.Invariant.{sum_below, pending, Holds}
use Rattle.scheduling.specs.Inside.Stages.{How, Gave, Kept, Skips, Stage, Unseen, Offered, OpenedBy, InHand, Waiting, ClosedBy, Over, guard_of, picture, is_pending}
use Rattle.scheduling.specs.Inside.Start.{free_seat}
use Rattle.scheduling.specs.State.{State, status_at, counter_at}
use Rattle.scheduling.specs.Choices.{keys_count}
use Rattle.scheduling.proofs.FirstState.{opening_is}
use Rattle.scheduling.proofs.Headline.{core_plan}
use Rattle.scheduling.proofs.Spares.{count_zero}
use Rattle.termination.specs.Bounds.{keys_held, most_keys, if_fast, spares, steps_of_nodes, most_steps}
use Rattle.termination.specs.Inside.Accounts.{if_skippable, status_steps, counter_steps, statuses_left, counters_left, seat_steps, steps_left}

sum_least : (f : ℕ → ℕ) (m n : ℕ) → ((k : ℕ) → f k ≤ m) → sum_below f n ≤ n * m
sum_least f m zero each = omega arith
sum_least f m (suc n) each =
    let one = each n in
    let rest = sum_least f m n each in
    let times : suc n * m ≡ n * m + m = suc-mul n m in
    plain (f n) (sum_below f n) (n * m) (suc n * m) one rest times
  where
    plain : (this most times next : ℕ) → this ≤ m → most ≤ times → next ≡ times + m → this + most ≤ next
    plain this most times next a b c = omega (arith, a, b, c)

sum_two : (f g : ℕ → ℕ) (n : ℕ) → sum_below (λ k. f k + g k) n ≡ sum_below f n + sum_below g n
sum_two f g zero = refl
sum_two f g (suc n) = (let rest = sum_two f g n in omega (arith, rest))

-- a test that one number passes
count_lone : (q : ℕ → Bool) (k : ℕ) → ((a : ℕ) → q a ≡ true → a ≡ k) → (n : ℕ) → count_below q n ≤ 1
count_lone q k lone zero = omega arith
count_lone q k lone (suc n) =
    elim (cases_Bool (q n)) [
      | inl yes' ↦ (let here : n ≡ k = lone n yes' in
          let none = count_zero q n (λ a lt. false_from_ne_true (q a) (λ y. (let there = lone a y in omega (arith, here, there, lt)))) in
          let one : bit (q n) ≡ 1 = ap bit yes' in
          omega (arith, none, one))
      | inr no' ↦ (let none : bit (q n) ≡ 0 = ap bit no' in let rest = count_lone q k lone n in omega (arith, none, rest))
    ]

sum_bits : (q : ℕ → Bool) (n : ℕ) → sum_below (λ k. bit (q k)) n ≡ count_below q n
sum_bits q zero = refl
sum_bits q (suc n) = (let rest = sum_bits q n in omega (arith, rest))

-- each node is a child of one node at most
module _ (t : Nodes) (pass : ℕ → Bool) where
  child_of : ℕ → ℕ → Bool
  child_of a c = is_child t a c && pass c

  one_parent : (c m : ℕ) → sum_below (λ a. bit (child_of a c)) m ≤ 1
  unfolding child_of
  one_parent c m =
      let same = sum_bits (λ a. child_of a c) m in
      let lone = count_lone (λ a. child_of a c) (parent_of t c) (λ a q. sym (eqb-true (parent_of t c) a (and_parts (nat_lt 0 c) (parent_of t c == a) (and_parts (is_child t a c) (pass c) q).0).1)) m in
      omega (arith, same, lone)

  pub children_few : (n m : ℕ) → sum_below (λ a. count_below (λ c. is_child t a c && pass c) n) m ≤ n
  unfolding child_of
  children_few zero m = (let none = sum_least (λ a. 0) 0 m (λ k. omega arith) in omega (arith, none))
  children_few (suc n) m =
      let split = sum_two (λ a. bit (is_child t a n && pass n)) (λ a. count_below (λ c. is_child t a c && pass c) n) m in
      let one = one_parent n m in
      let rest = children_few n m in
      omega (arith, split, one, rest)

pub sum_replicate : (f : Seat → ℕ) (x : Seat) (n : ℕ) → sum_by f (replicate n x) ≡ n * f x
sum_replicate f x zero = omega arith
sum_replicate f x (suc n) =
    let cons = sum_by-cons f x (replicate n x) in
    let rest = sum_replicate f x n in
    let times : suc n * f x ≡ n * f x + f x = suc-mul n (f x) in
    omega (arith, cons, rest, times)

-- a sum over the first elements of a list
pub sum_first : {X : Type 0} (f : X → ℕ) (d : X) (l : List X) (n : ℕ) → n ≤ length l → sum_below (λ k. f (slice_index_or l k d)) n ≡ sum_by f (take n l)
sum_first f d l zero le = refl
sum_first f d l (suc n) le =
    let one : suc n ≡ n + 1 = omega arith in
    let more = ap (λ (k : ℕ). sum_by f (take k l)) one ∙ sum_by_more f l n d (omega (arith, le)) in
    let rest = sum_first f d l n (omega (arith, le)) in
    omega (arith, more, rest)

-- a node has its own guard once at most
how_guard : (how : How) → guard_of how ≤ 1
how_guard Gave = omega arith
how_guard Kept = omega arith
how_guard Skips = omega arith

opening_guard : (p : PlanParts) (n w : ℕ) (d : Opening) → (picture p n (OpenedBy w d)).guard ≤ 1
opening_guard p n w Registering = omega arith
opening_guard p n w (RegisteredAt i) = omega arith
opening_guard p n w Offering = omega arith
opening_guard p n w Noticing = omega arith
opening_guard p n w (Locking i) = omega arith
opening_guard p n w (Weighed i word) = omega arith
opening_guard p n w (Backing i) = omega arith
opening_guard p n w (Beginning true) = omega arith
opening_guard p n w (Beginning false) = omega arith
opening_guard p n w (StartedAt i) = omega arith
opening_guard p n w Awaiting = omega arith
opening_guard p n w (Admitting c) = omega arith
opening_guard p n w Guarding = omega arith

closing_guard : (p : PlanParts) (n w c : ℕ) (d : Closing) (how : How) → (picture p n (ClosedBy w c d how)).guard ≤ 1
closing_guard p n w c AwaitingAfter how = how_guard how
closing_guard p n w c (Ending status) how = how_guard how
closing_guard p n w c (FinishedAt i status) how = how_guard how
closing_guard p n w c (SkippedAt i) how = how_guard how
closing_guard p n w c Raising how = how_guard how
closing_guard p n w c (Giving i) how = how_guard how
closing_guard p n w c Settling how = how_guard how
closing_guard p n w c (Looking m) how = how_guard how
closing_guard p n w c (Passing m o) how = how_guard how
closing_guard p n w c CountingOff how = how_guard how

guard_few : (p : PlanParts) (n : ℕ) (st : Stage) → (picture p n st).guard ≤ 1
guard_few p n Unseen = omega arith
guard_few p n (Offered o) = omega arith
guard_few p n (OpenedBy w d) = opening_guard p n w d
guard_few p n (InHand w) = omega arith
guard_few p n (Waiting c result) = omega arith
guard_few p n (ClosedBy w c d how) = closing_guard p n w c d how
guard_few p n (Over how) = how_guard how

-- a node's own account, as it is offered at first
account_few : (p : PlanParts) (n c pending : ℕ) (v : NodeStatus) → c ≤ 1 + pending → status_steps p n v + counter_steps p n c ≤ 3 + 2 * if_fast p + 3 * keys_count p n + pending
account_few p n c pending v few =
    let status = status_few p n v in
    let both = skipped_few p.fail_fast (is_disabled p.tree n) in
    omega (arith, status, both)
  where
    status_few : (p : PlanParts) (n : ℕ) (v : NodeStatus) → status_steps p n v ≤ 2 + if_skippable p n + if_fast p + 3 * keys_count p n
    status_few p n Hidden = omega arith
    status_few p n (Ready o) = omega arith
    status_few p n (Claimed w) = omega arith
    status_few p n Settled = omega arith

    skipped_few : (fast disabled : Bool) → bit (fast || disabled) + cond disabled 0 c ≤ 1 + bit fast + pending
    skipped_few true true = omega arith
    skipped_few false true = omega arith
    skipped_few true false = omega (arith, few)
    skipped_few false false = omega (arith, few)

-- two sums of products
all_twelve : (n f : ℕ) → n * (3 + 2 * f) + 9 * n ≡ n * (12 + 2 * f)
all_twelve zero f = omega arith
all_twelve (suc n) f =
    let first = suc-mul n (3 + 2 * f) in
    let second = suc-mul n (12 + 2 * f) in
    let rest = all_twelve n f in
    plain _ _ _ _ first second rest
  where
    plain : (a b c d : ℕ) → a ≡ b + (3 + 2 * f) → c ≡ d + (12 + 2 * f) → b + 9 * n ≡ d → a + 9 * suc n ≡ c
    plain a b c d x y z = omega (arith, x, y, z)

-- What the nodes have left, in whatever state a run has come to.
module _ (p : PlanParts) (plan : IsPlan p) (replies : ℕ → List Reply) (s : State) (g : ℕ → Stage) (h : Holds p replies s g) where
  keys_all : sum_below (keys_count p) (size p.tree) ≤ keys_held p
  keys_all =
      let len = plan.held_len in
      let first = sum_first length [] p.held (size p.tree) (omega (arith, len)) in
      let all = sum_by-take-le length p.held (size p.tree) in
      omega (arith, first, all)

  account_at : (n : ℕ) → n < size p.tree → status_steps p n (status_at s n) + counter_steps p n (counter_at s n) ≤ 3 + 2 * if_fast p + 3 * keys_count p n + pending p g n
  account_at n lt =
      let here : counter_at s n ≡ (picture p n (g n)).guard + pending p g n = h.counters n lt in
      let guard = guard_few p n (g n) in
      account_few p n (counter_at s n) (pending p g n) (status_at s n) (omega (arith, here, guard))

  accounts_first : (k : ℕ) → k ≤ size p.tree → sum_below (λ n. status_steps p n (status_at s n)) k + sum_below (λ n. counter_steps p n (counter_at s n)) k ≤ k * (3 + 2 * if_fast p) + 3 * sum_below (keys_count p) k + sum_below (pending p g) k
  accounts_first zero le = omega arith
  accounts_first (suc k) le =
      let here = account_at k (omega (arith, le)) in
      let rest = accounts_first k (omega (arith, le)) in
      let times : suc k * (3 + 2 * if_fast p) ≡ k * (3 + 2 * if_fast p) + (3 + 2 * if_fast p) = suc-mul k (3 + 2 * if_fast p) in
      plain (status_steps p k (status_at s k)) (counter_steps p k (counter_at s k)) _ _ (if_fast p) (keys_count p k) (pending p g k) (k * (3 + 2 * if_fast p)) (suc k * (3 + 2 * if_fast p)) _ _ here rest times
    where
      plain : (a b sum_a sum_b fast keys pend times next sum_keys sum_pend : ℕ) → a + b ≤ 3 + 2 * fast + 3 * keys + pend → sum_a + sum_b ≤ times + 3 * sum_keys + sum_pend → next ≡ times + (3 + 2 * fast)
          → (a + sum_a) + (b + sum_b) ≤ next + 3 * (keys + sum_keys) + (pend + sum_pend)
      plain a b sum_a sum_b fast keys pend times next sum_keys sum_pend x y z = omega (arith, x, y, z)

  -- each node is counted by its parent alone
  pending_few : sum_below (pending p g) (size p.tree) ≤ size p.tree
  unfolding pending
  pending_few = children_few p.tree (λ c. is_pending (is_spare_at p.tree c) (g c)) (size p.tree) (size p.tree)

  pub nodes_few : statuses_left p s + counters_left p s + 4 * (most_events p - length s.published) + (length s.published - length s.given) ≤ steps_of_nodes p
  nodes_few =
      let accounts = accounts_first (size p.tree) (omega arith) in
      let counted = pending_few in
      let keys = keys_all in
      let events = legal_few p replies (length s.seats) s.published h.published.legal in
      let more : size p.tree * (3 + 2 * if_fast p) + 9 * size p.tree ≡ size p.tree * (12 + 2 * if_fast p) = all_twelve (size p.tree) (if_fast p) in
      plain (statuses_left p s) (counters_left p s) (length s.published) (length s.given) (size p.tree) (spares p) (keys_held p) (size p.tree * (3 + 2 * if_fast p)) (size p.tree * (12 + 2 * if_fast p)) _ _ accounts counted keys events more
    where
      plain : (a b l g size spare keys times all sum_keys sum_pend : ℕ) → a + b ≤ times + 3 * sum_keys + sum_pend → sum_pend ≤ size → sum_keys ≤ keys → l ≤ 2 * size + spare → times + 9 * size ≡ all
          → a + b + 4 * (2 * size + spare - l) + (l - g) ≤ all + 4 * spare + 3 * keys
      plain a b l g size spare keys times all sum_keys sum_pend x y z u v = omega (arith, x, y, z, u, v)

pub steps_at_start : (p : PlanParts) → IsPlan p → (workers : ℕ) → steps_left p (opening p workers) ≤ most_steps p workers
steps_at_start p plan workers =
    let kept = opening_is p (core_plan p plan.tree) (λ job. []) 0 (omega arith) in
    let nodes = nodes_few p plan (λ job. []) (opening p 0) kept.0 kept.1 in
    let seats : sum_by (seat_steps p) (opening p workers).seats ≡ workers * (2 + most_keys p) = sum_replicate (seat_steps p) free_seat workers in
    let other_way : 2 + most_keys p ≡ most_keys p + 2 = omega arith in
    let each = ap (λ (k : ℕ). workers * k) other_way in
    plain _ _ _ _ _ _ _ nodes seats each
  where
    plain : (a b c d e m k : ℕ) → a + b + c + 0 ≤ d → e ≡ m → m ≡ k → a + b + c + e + 0 ≤ d + k
    plain a b c d e m k x y z = omega (arith, x, y, z)
