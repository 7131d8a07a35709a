-- The ranks of the tasks that a step may lead to.
use Rattle.std.proofs.Common.{◌≡◌, ℕ, zero, suc, ◌+◌, ◌*◌, ◌-◌, ◌≤◌, Bool, true, false, ◌&&◌, ◌||◌, ◌==◌, not, nat_lt, Option, Some, None, refl, arith}
use Rattle.descriptor.specs.Nodes.{size, is_spare_at, is_disabled, body_of}
use Rattle.plan_events.specs.declared.outcome.Reply.{Reply}
use Rattle.plan_events.specs.declared.status.Status.{Status}
use Rattle.plan_events.specs.Statuses.{is_successful}
use Rattle.resource_locks.specs.Plans.{PlanParts}
use Rattle.event_history.specs.Places.{is_failed_or}
use Rattle.event_history.specs.Plans.{sort_of, is_same, pulls_job}
use Rattle.event_history.specs.Results.{jobs_of}
use Rattle.scheduling.specs.declared.task.Opening.{Opening}
use Rattle.scheduling.specs.declared.task.Opening.TheVariants.{Noticing, Locking, Beginning, Awaiting}
use Rattle.scheduling.specs.declared.task.Closing.{Closing}
use Rattle.scheduling.specs.declared.task.Closing.TheVariants.{AwaitingAfter, Ending, Raising, CountingOff}
use Rattle.scheduling.specs.declared.task.Task.{Task}
use Rattle.scheduling.specs.declared.task.Task.TheVariants.{Free, Opens, Closes}
use Rattle.scheduling.specs.declared.seat.Seat.{Seat}
use Rattle.scheduling.specs.Choices.{in_batch, is_same_sibling, first_from, admit_next, admit_from, pass_to, after_settle, keys_count, lock_from, begins, notices, claims, giving, after_finish, is_leaf, status_by, decided, ending}
use Rattle.scheduling.specs.Rows.{with_task, after_start, ends_or_free}
use Rattle.scheduling.specs.Inside.Work.{weight, opening_rank, closing_rank, task_rank, seat_rank}
use Rattle.scheduling.proofs.RowsOne.{by_cond}
use Rattle.scheduling.proofs.RowsBelow.{ending_is}
use Rattle.scheduling.proofs.LessWorkMoves.{weight_least}

pub lock_from_rank : (p : PlanParts) (n i : ℕ) → opening_rank p n (lock_from p n i) ≤ 5 + 2 * (keys_count p n - i)
lock_from_rank p n i = by_cond (λ (d : Opening). opening_rank p n d ≤ 5 + 2 * (keys_count p n - i)) (nat_lt i (keys_count p n)) (Locking i) (Beginning false) (λ _. omega arith) (λ _. omega arith)

pub begins_rank : (p : PlanParts) (n : ℕ) (skip : Bool) → opening_rank p n (begins p n skip) ≤ 5 + 2 * keys_count p n
begins_rank p n true = omega arith
begins_rank p n false = (let a = lock_from_rank p n 0 in omega (arith, a))

pub claims_rank : (p : PlanParts) (n : ℕ) → opening_rank p n (claims p n) ≤ 6 + 2 * keys_count p n
claims_rank p n = by_cond (λ (d : Opening). opening_rank p n d ≤ 6 + 2 * keys_count p n) (notices p n) Noticing (begins p n (is_disabled p.tree n)) (λ _. omega arith) (λ _. (let a = begins_rank p n (is_disabled p.tree n) in omega (arith, a)))

pub giving_rank : (p : PlanParts) (n i : ℕ) → closing_rank p n (giving i) ≤ 2 + i
giving_rank p n zero = omega arith
giving_rank p n (suc i) = omega arith

pub after_finish_rank : (p : PlanParts) (n : ℕ) (status : Status) → closing_rank p n (after_finish p n status) ≤ 3 + keys_count p n
after_finish_rank p n status =
    by_cond (λ (d : Closing). closing_rank p n d ≤ 3 + keys_count p n) (p.fail_fast && is_failed_or (Some status)) Raising (giving (keys_count p n)) (λ _. omega arith) (λ _. (let a = giving_rank p n (keys_count p n) in omega (arith, a)))

pub admit_rank : (p : PlanParts) (n from : ℕ) → opening_rank p n (admit_from p n from) ≡ 2
admit_rank p n from = go (first_from (in_batch p n) from (size p.tree))
  where
    go : (found : Option ℕ) → opening_rank p n (admit_next found) ≡ 2
    go None = refl
    go (Some c) = refl

-- what a node that nothing is outstanding of goes on to ranks no higher than who is free
pub ends_rank : (p : PlanParts) (n : ℕ) (result : Status) (outstanding : ℕ) → task_rank p (ends_or_free p n result outstanding) ≤ weight p + 1
ends_rank p n result outstanding =
    let least = weight_least p in
    by_cond (λ (t : Task). task_rank p t ≤ weight p + 1) (outstanding == 1) (Closes n (ending p n result)) Free
    (λ _. ending_is (λ (d : Closing). closing_rank p n d ≤ weight p + 1) (omega (arith, least)) (λ r. omega (arith, least)) (jobs_of p n) result)
    (λ _. omega arith)

pub settled_rank : (p : PlanParts) (n : ℕ) → task_rank p (after_settle p n) ≤ weight p + 1
settled_rank p zero = omega arith
settled_rank p (suc n) =
    let least = weight_least p in
    by_cond (λ (d : Closing). closing_rank p (suc n) d ≤ weight p + 1) (is_same p (suc n) && not (is_spare_at p.tree (suc n))) (pass_to (first_from (is_same_sibling p (suc n)) (suc (suc n)) (size p.tree))) CountingOff
    (λ _. go (first_from (is_same_sibling p (suc n)) (suc (suc n)) (size p.tree)) least) (λ _. omega (arith, least))
  where
    go : (found : Option ℕ) → 8 ≤ weight p → closing_rank p (suc n) (pass_to found) ≤ weight p + 1
    go None least = omega (arith, least)
    go (Some m) least = omega (arith, least)

pub started_rank : (p : PlanParts) (seat : Seat) (n : ℕ) → seat_rank p (after_start p seat n) ≤ weight p + 1
started_rank p seat n =
    let least = weight_least p in
    by_cond (λ (other : Seat). seat_rank p other ≤ weight p + 1) (pulls_job p n) (record { task = Free; hand = Some (record { factory = n; registered = 0; waiting = None }) }) (with_task seat (Opens n Awaiting)) (λ _. omega arith) (λ _. omega (arith, least))

-- what the reply decides ranks no higher than what was not decided
pub decided_rank : (p : PlanParts) (reply : Reply) (t : Task) → task_rank p (decided p reply t) ≤ task_rank p t
decided_rank p reply (Opens n Awaiting) =
    by_cond (λ (d : Task). task_rank p d ≤ 2) (is_leaf (sort_of p.tree n) || not (is_successful (status_by (body_of p.tree n) reply))) (Closes n (Ending (status_by (body_of p.tree n) reply))) (Opens n (admit_from p n 0))
    (λ _. omega arith) (λ _. (let a = admit_rank p n 0 in omega (arith, a)))
decided_rank p reply (Closes n AwaitingAfter) = omega arith
decided_rank p reply t = omega arith
