-- What the tasks take that a step may lead to.
use Rattle.std.proofs.Common.{◌≡◌, ℕ, zero, suc, ◌+◌, ◌*◌, ◌-◌, ◌≤◌, Bool, true, false, ◌&&◌, ◌||◌, ◌==◌, not, nat_lt, Option, Some, None, [], length, inl, inr, refl, ap, arith}
use Rattle.std.proofs.lemmas.Bool.{cases_lt, and_parts, or_left, or_right}
use Rattle.std.proofs.lemmas.List.{get_or_past}
use Rattle.std.proofs.lemmas.List.Recursion.{max_bounds}
use Rattle.descriptor.specs.Nodes.{size, is_spare_at, is_disabled, body_of, bit}
use Rattle.plan_events.specs.declared.outcome.Reply.{Reply}
use Rattle.plan_events.specs.declared.status.Status.{Status}
use Rattle.plan_events.specs.Statuses.{is_successful}
use Rattle.resource_locks.specs.Plans.{PlanParts}
use Rattle.event_history.specs.Places.{is_failed_or}
use Rattle.event_history.specs.Plans.{sort_of, is_same, pulls_job}
use Rattle.event_history.specs.Results.{jobs_of}
use Rattle.scheduling.specs.declared.task.Opening.{Opening}
use Rattle.scheduling.specs.declared.task.Opening.TheVariants.{Noticing, Locking, Beginning, Awaiting}
use Rattle.scheduling.specs.declared.task.Closing.{Closing}
use Rattle.scheduling.specs.declared.task.Closing.TheVariants.{AwaitingAfter, Ending, Raising, CountingOff}
use Rattle.scheduling.specs.declared.task.Task.{Task}
use Rattle.scheduling.specs.declared.task.Task.TheVariants.{Free, Opens, Closes}
use Rattle.scheduling.specs.declared.seat.Seat.{Seat}
use Rattle.scheduling.specs.Choices.{in_batch, is_same_sibling, first_from, admit_next, admit_from, pass_to, after_settle, keys_count, lock_from, begins, notices, claims, giving, after_finish, is_leaf, status_by, decided, ending}
use Rattle.scheduling.specs.Rows.{with_task, after_start, ends_or_free}
use Rattle.scheduling.proofs.RowsOne.{by_cond}
use Rattle.scheduling.proofs.RowsBelow.{ending_is}
use Rattle.termination.specs.Bounds.{most_among, most_keys, if_fast}
use Rattle.termination.specs.Inside.Accounts.{if_skippable, opening_steps, closing_steps, task_steps, seat_steps}

-- each node holds no more keys than one does at most
pub keys_few : (p : PlanParts) (n : ℕ) → keys_count p n ≤ most_keys p
keys_few p n = elim (cases_lt n (length p.held)) [
  | inl lt ↦ max_bounds most_among length refl (λ keys rest. refl) p.held n [] lt
  | inr ge ↦ (let none = ap length (get_or_past p.held n [] ge) in omega (arith, none))
]

pub bit_few : (b : Bool) → bit b ≤ 1
bit_few true = omega arith
bit_few false = omega arith

pub lock_from_steps : (p : PlanParts) (n i : ℕ) → opening_steps p n (lock_from p n i) ≤ 1 + 2 * (keys_count p n - i) + most_keys p
lock_from_steps p n i = by_cond (λ (d : Opening). opening_steps p n d ≤ 1 + 2 * (keys_count p n - i) + most_keys p) (nat_lt i (keys_count p n)) (Locking i) (Beginning false) (λ _. omega arith) (λ _. omega arith)

pub begins_steps : (p : PlanParts) (n : ℕ) (skip : Bool) → opening_steps p n (begins p n skip) ≤ 2 - if_fast p + 2 * keys_count p n + most_keys p
begins_steps p n true = omega arith
begins_steps p n false = (let a = lock_from_steps p n 0 in let fast = bit_few p.fail_fast in omega (arith, a, fast))

-- a claim is paid by the node's status
pub claims_steps : (p : PlanParts) (n : ℕ) → opening_steps p n (claims p n) ≤ 1 + if_skippable p n + 2 * keys_count p n + most_keys p
claims_steps p n =
    by_cond (λ (d : Opening). opening_steps p n d ≤ 1 + if_skippable p n + 2 * keys_count p n + most_keys p) (notices p n) Noticing (begins p n (is_disabled p.tree n))
    (λ asks. (let fails_fast = (and_parts p.fail_fast (nat_lt 0 n && not (is_disabled p.tree n)) asks).0 in
    let fast : if_fast p ≡ 1 = ap bit fails_fast in
    let skippable : if_skippable p n ≡ 1 = ap bit (or_left p.fail_fast (is_disabled p.tree n) fails_fast) in
    omega (arith, fast, skippable)))
    (λ _. by_skip (is_disabled p.tree n) refl)
  where
    by_skip : (skip : Bool) → is_disabled p.tree n ≡ skip → opening_steps p n (begins p n skip) ≤ 1 + if_skippable p n + 2 * keys_count p n + most_keys p
    by_skip true disabled = (let skippable : if_skippable p n ≡ 1 = ap bit (or_right p.fail_fast (is_disabled p.tree n) disabled) in omega (arith, skippable))
    by_skip false enabled = (let a = lock_from_steps p n 0 in omega (arith, a))

pub giving_steps : (p : PlanParts) (n i : ℕ) → closing_steps p n (giving i) ≤ 3 - if_fast p + (most_keys p - keys_count p n) + i
giving_steps p n zero = omega arith
giving_steps p n (suc i) = omega arith

pub after_finish_steps : (p : PlanParts) (n : ℕ) (status : Status) → closing_steps p n (after_finish p n status) ≤ 3 + most_keys p
after_finish_steps p n status =
    by_cond (λ (d : Closing). closing_steps p n d ≤ 3 + most_keys p) (p.fail_fast && is_failed_or (Some status)) Raising (giving (keys_count p n))
    (λ raises. (let fast : if_fast p ≡ 1 = ap bit (and_parts p.fail_fast (is_failed_or (Some status)) raises).0 in omega (arith, fast)))
    (λ _. (let a = giving_steps p n (keys_count p n) in let few = keys_few p n in omega (arith, a, few)))

pub admit_steps : (p : PlanParts) (n from : ℕ) → opening_steps p n (admit_from p n from) ≤ 2 + most_keys p
admit_steps p n from = go (first_from (in_batch p n) from (size p.tree))
  where
    go : (found : Option ℕ) → opening_steps p n (admit_next found) ≤ 2 + most_keys p
    go None = omega arith
    go (Some c) = omega arith

pub ends_steps : (p : PlanParts) (n : ℕ) (result : Status) (outstanding : ℕ) → task_steps p (ends_or_free p n result outstanding) ≤ 2 + most_keys p
ends_steps p n result outstanding =
    by_cond (λ (t : Task). task_steps p t ≤ 2 + most_keys p) (outstanding == 1) (Closes n (ending p n result)) Free
    (λ _. ending_is (λ (d : Closing). closing_steps p n d ≤ 2 + most_keys p) (omega arith) (λ r. omega arith) (jobs_of p n) result)
    (λ _. omega arith)

pub settled_steps : (p : PlanParts) (n : ℕ) → task_steps p (after_settle p n) ≤ 2 + most_keys p
settled_steps p zero = omega arith
settled_steps p (suc n) =
    by_cond (λ (d : Closing). closing_steps p (suc n) d ≤ 2 + most_keys p) (is_same p (suc n) && not (is_spare_at p.tree (suc n))) (pass_to (first_from (is_same_sibling p (suc n)) (suc (suc n)) (size p.tree))) CountingOff
    (λ _. go (first_from (is_same_sibling p (suc n)) (suc (suc n)) (size p.tree))) (λ _. omega arith)
  where
    go : (found : Option ℕ) → closing_steps p (suc n) (pass_to found) ≤ 2 + most_keys p
    go None = omega arith
    go (Some m) = omega arith

pub started_steps : (p : PlanParts) (seat : Seat) (n : ℕ) → seat_steps p (after_start p seat n) ≤ 2 + most_keys p
started_steps p seat n =
    by_cond (λ (other : Seat). seat_steps p other ≤ 2 + most_keys p) (pulls_job p n) (record { task = Free; hand = Some (record { factory = n; registered = 0; waiting = None }) }) (with_task seat (Opens n Awaiting)) (λ _. omega arith) (λ _. omega arith)

-- what the reply decides takes no more than what was not decided
pub decided_steps : (p : PlanParts) (reply : Reply) (t : Task) → task_steps p (decided p reply t) ≤ task_steps p t
decided_steps p reply (Opens n Awaiting) =
    by_cond (λ (d : Task). task_steps p d ≤ 2 + most_keys p) (is_leaf (sort_of p.tree n) || not (is_successful (status_by (body_of p.tree n) reply))) (Closes n (Ending (status_by (body_of p.tree n) reply))) (Opens n (admit_from p n 0))
    (λ _. omega arith) (λ _. (let a = admit_steps p n 0 in omega (arith, a)))
decided_steps p reply (Closes n AwaitingAfter) = omega arith
decided_steps p reply t = omega arith
