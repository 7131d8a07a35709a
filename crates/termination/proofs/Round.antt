-- Two workers go round: the one has a key, the other tries to take it again and again.
use Rattle.std.proofs.Common.{◌≡◌, ℕ, zero, suc, ◌+◌, ◌<◌, ◌≤◌, Bool, true, false, ◌&&◌, ◌==◌, not, List, [], ◌∷◌, ◌++◌, length, Option, Some, None, slice_get, inl, refl, sym, ap, ◌∙◌, subst, arith, length-append}
use Rattle.std.proofs.lemmas.Bool.{and_parts, both_ways, false≢true, eq-eqb}
use Rattle.plan_events.specs.declared.outcome.Reply.{Reply}
use Rattle.descriptor.specs.declared.lock_mode.LockMode.TheVariants.{ReadWrite}
use Rattle.resource_locks.specs.Held.{plan_of}
use Rattle.resource_locks.specs.Plans.{PlanParts}
use Rattle.event_history.specs.Plans.{is_same}
use Rattle.scheduling.specs.declared.task.Opening.{Opening}
use Rattle.scheduling.specs.declared.task.Opening.TheVariants.{Locking, Weighed, Backing, Beginning, StartedAt, Admitting, Guarding}
use Rattle.scheduling.specs.declared.task.Task.{Task}
use Rattle.scheduling.specs.declared.task.Task.TheVariants.{Opens}
use Rattle.scheduling.specs.declared.seat.Seat.{Seat}
use Rattle.scheduling.specs.declared.step.Action.{Action}
use Rattle.scheduling.specs.Choices.{key_place}
use Rattle.scheduling.specs.State.{State}
use Rattle.scheduling.specs.Rows.{Step, Works, after}
use Rattle.scheduling.specs.Runs.{opening, next, run, AllReplied}
use Rattle.scheduling.proofs.GoingBasics.{settled_claimed}
use Rattle.never_stuck.specs.LockedSpare.{reply_at}
use Rattle.never_stuck.specs.Reaching.{AllGiven, only}
use Rattle.never_stuck.proofs.Reach.{run_append, replied_append, replied_all}
use Rattle.termination.specs.Conflicts.{IsFreeOfConflict}
use Rattle.termination.specs.Round.{GetsRound, HasNoBound, db, disputed_tree, disputed_modes, disputed_plan, all_successful, does, to_the_key, to_and_fro}
use Rattle.termination.specs.Steps.{IsTaken, AllTaken}

-- a number for each task that these workers have
abbrev opening_mark : Opening → ℕ
opening_mark (Locking i) = 10 + i
opening_mark (Weighed i word) = 20 + i
opening_mark (Backing i) = 30 + i
opening_mark (Admitting c) = 40 + c
opening_mark Guarding = 1
opening_mark (Beginning skip) = 2
opening_mark (StartedAt i) = 3
opening_mark _ = 4

abbrev task_mark : Task → ℕ
task_mark (Opens n d) = opening_mark d
task_mark _ = 0

abbrev seat_mark : Option Seat → ℕ
seat_mark None = 0
seat_mark (Some seat) = task_mark seat.task

-- worker w's task after the step has another number
abbrev marks_other : ℕ → State → Option State → Bool
marks_other w s None = false
marks_other w s (Some t) = not (seat_mark (slice_get t.seats w) == seat_mark (slice_get s.seats w))

abbrev all_other : PlanParts → ℕ → State → List Step → Bool
all_other p w s [] = true
all_other p w s (a ∷ list) = marks_other w s (after p s a) && all_other p w (next p s a) list

not_back : (b : Bool) → not b ≡ true → b ≡ false
not_back true q = absurd (false≢true q)
not_back false q = refl

all_taken : (p : PlanParts) (w : ℕ) (s : State) (list : List Step) → all_other p w s list ≡ true → AllTaken p s list
all_taken p w s [] q = tt
all_taken p w s (a ∷ list) q =
    let both = and_parts (marks_other w s (after p s a)) (all_other p w (next p s a) list) q in
    (go (after p s a) refl both.0, all_taken p w (next p s a) list both.1)
  where
    go : (found : Option State) → after p s a ≡ found → marks_other w s found ≡ true → IsTaken p s a
    go None e other = absurd (false≢true other)
    go (Some t) e other = record {
      made = t;
      is = e;
      other = λ same. both_ways (seat_mark (slice_get t.seats w) == seat_mark (slice_get s.seats w)) (not_back _ other) (eq-eqb _ _ (ap (λ (x : State). seat_mark (slice_get x.seats w)) same));
    }

taken_append : (p : PlanParts) (s : State) (xs ys : List Step) → AllTaken p s xs → AllTaken p (run p s xs) ys → AllTaken p s (xs ++ ys)
taken_append p s [] ys a b = b
taken_append p s (x ∷ xs) ys a b = (a.0, taken_append p (next p s x) xs ys a.1 b)

pub does_given : (p : PlanParts) (reply : ℕ → Reply) (w : ℕ) (s : State) (list : List Action) → AllGiven p reply s (does p reply w s list)
does_given p reply w s [] = tt
does_given p reply w s (a ∷ more) = (
  λ seat at. ap (reply_at p reply) at,
  does_given p reply w (next p s (Works w a (reply_at p reply (slice_get s.seats w)))) more,
)

abbrev start : State
start = opening disputed_plan 2

abbrev first_steps : List Step
first_steps = does disputed_plan all_successful 0 start to_the_key

abbrev middle : State
middle = run disputed_plan start first_steps

abbrev round_steps : List Step
round_steps = does disputed_plan all_successful 1 middle to_and_fro

replied_by : (w : ℕ) (s : State) (list : List Action) → AllReplied disputed_plan (only all_successful) s (does disputed_plan all_successful w s list)
replied_by w s list = replied_all disputed_plan all_successful (only all_successful) (λ job. refl) s (does disputed_plan all_successful w s list) (does_given disputed_plan all_successful w s list)

first_other : all_other disputed_plan 0 start first_steps ≡ true
unfolding key_place
first_other = refl

round_other : all_other disputed_plan 1 middle round_steps ≡ true
unfolding key_place
round_other = refl

comes_back : run disputed_plan middle round_steps ≡ middle
unfolding key_place
comes_back = refl

pub gets_round : GetsRound disputed_plan
unfolding key_place
gets_round = record {
  reply = all_successful;
  first = first_steps;
  round = round_steps;
  replied = replied_append disputed_plan (only all_successful) start first_steps round_steps (replied_by 0 start to_the_key) (replied_by 1 middle to_and_fro);
  taken = taken_append disputed_plan start first_steps round_steps (all_taken disputed_plan 0 start first_steps first_other) (all_taken disputed_plan 1 middle round_steps round_other);
  some = omega arith;
  again = run_append disputed_plan start first_steps round_steps ∙ comes_back;
  unsettled = λ q. settled_claimed 0 (sym q);
}

-- The round as often as one likes.
module _ (p : PlanParts) (reply : ℕ → Reply) (s : State) (round : List Step) (again : run p s round ≡ s) where
  rounds : ℕ → List Step
  rounds zero = []
  rounds (suc k) = round ++ rounds k

  rounds_replied : AllReplied p (only reply) s round → (k : ℕ) → AllReplied p (only reply) s (rounds k)
  unfolding rounds
  rounds_replied one zero = tt
  rounds_replied one (suc k) = replied_append p (only reply) s round (rounds k) one (subst (λ (x : State). AllReplied p (only reply) x (rounds k)) (sym again) (rounds_replied one k))

  rounds_taken : AllTaken p s round → (k : ℕ) → AllTaken p s (rounds k)
  unfolding rounds
  rounds_taken one zero = tt
  rounds_taken one (suc k) = taken_append p s round (rounds k) one (subst (λ (x : State). AllTaken p x (rounds k)) (sym again) (rounds_taken one k))

  rounds_many : 0 < length round → (k : ℕ) → k ≤ length (rounds k)
  unfolding rounds
  rounds_many some zero = omega arith
  rounds_many some (suc k) = (let rest = rounds_many some k in let both = length-append round (rounds k) in omega (arith, rest, both, some))

round_replied : AllReplied disputed_plan (only all_successful) middle round_steps
round_replied = replied_by 1 middle to_and_fro

round_taken : AllTaken disputed_plan middle round_steps
round_taken = all_taken disputed_plan 1 middle round_steps round_other

pub has_no_bound : HasNoBound disputed_plan
has_no_bound = (
  all_successful,
  λ most. (
    first_steps ++ rounds disputed_plan all_successful middle round_steps comes_back (suc most),
    replied_append disputed_plan (only all_successful) start first_steps (rounds disputed_plan all_successful middle round_steps comes_back (suc most)) (replied_by 0 start to_the_key) (rounds_replied disputed_plan all_successful middle round_steps comes_back round_replied (suc most)),
    taken_append disputed_plan start first_steps (rounds disputed_plan all_successful middle round_steps comes_back (suc most)) (all_taken disputed_plan 0 start first_steps first_other) (rounds_taken disputed_plan all_successful middle round_steps comes_back round_taken (suc most)),
    (let many = rounds_many disputed_plan all_successful middle round_steps comes_back (omega arith) (suc most) in let both = length-append first_steps (rounds disputed_plan all_successful middle round_steps comes_back (suc most)) in omega (arith, many, both)),
  ),
)

-- None of its nodes but the plan is SAME_THREAD, so the two that hold db take no turns.
none_same : (n : ℕ) → 0 < n → n < 4 → is_same disputed_plan n ≡ false
none_same zero pos lt = absurd (omega (arith, pos))
none_same (suc zero) pos lt = refl
none_same (suc (suc zero)) pos lt = refl
none_same (suc (suc (suc zero))) pos lt = refl
none_same (suc (suc (suc (suc n)))) pos lt = absurd (omega (arith, lt))

pub is_disputed : IsFreeOfConflict disputed_plan → ⊥
is_disputed free =
    let turns = free 2 3 (omega arith) (omega arith) (λ e. omega (arith, e)) (inl (record { key = db.key; mode = ReadWrite; here = (1, refl); other_mode = ReadWrite; there = (1, refl); writes = inl refl })) in
    let elder = turns.siblings.elder in
    both_ways (is_same disputed_plan turns.elder) (none_same turns.elder elder.above_zero elder.inside) (and_parts (is_same disputed_plan turns.elder) _ turns.first).0

-- it is the plan that is made of its tree
pub is_made : plan_of disputed_tree disputed_modes ≡ disputed_plan
is_made = refl
