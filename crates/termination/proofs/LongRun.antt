-- The steps of the long run: each leaves fewer, so each is taken.
use Rattle.std.proofs.Common.{◌≡◌, ℕ, zero, suc, ◌<◌, Bool, true, false, ◌&&◌, nat_lt, List, [], ◌∷◌, replicate, Option, Some, None, refl, ap, arith}
use Rattle.std.proofs.lemmas.Bool.{and_parts, false≢true, ltb-true}
use Rattle.plan_events.specs.declared.outcome.Reply.{Reply}
use Rattle.resource_locks.specs.Held.{plan_of}
use Rattle.resource_locks.specs.Plans.{PlanParts}
use Rattle.scheduling.specs.Choices.{key_place}
use Rattle.scheduling.specs.State.{State}
use Rattle.scheduling.specs.Rows.{Step, Dispatches, after}
use Rattle.scheduling.specs.Runs.{opening, next, run, AllReplied}
use Rattle.never_stuck.specs.Reaching.{only}
use Rattle.never_stuck.proofs.Reach.{replied_append, replied_all}
use Rattle.termination.specs.Bounds.{most_steps}
use Rattle.termination.specs.Inside.Accounts.{steps_left}
use Rattle.termination.specs.LongRun.{Takes, long_tree, long_modes, long_plan, to_the_end, long_list}
use Rattle.termination.specs.Round.{all_successful, does}
use Rattle.termination.specs.Steps.{IsTaken, AllTaken}
use Rattle.termination.proofs.Round.{does_given}

abbrev leaves_fewer : PlanParts → State → Option State → Bool
leaves_fewer p s None = false
leaves_fewer p s (Some t) = nat_lt (steps_left p t) (steps_left p s)

abbrev all_leave_fewer : PlanParts → State → List Step → Bool
all_leave_fewer p s [] = true
all_leave_fewer p s (a ∷ list) = leaves_fewer p s (after p s a) && all_leave_fewer p (next p s a) list

all_taken : (p : PlanParts) (s : State) (list : List Step) → all_leave_fewer p s list ≡ true → AllTaken p s list
all_taken p s [] q = tt
all_taken p s (a ∷ list) q =
    let both = and_parts (leaves_fewer p s (after p s a)) (all_leave_fewer p (next p s a) list) q in
    (go (after p s a) refl both.0, all_taken p (next p s a) list both.1)
  where
    go : (found : Option State) → after p s a ≡ found → leaves_fewer p s found ≡ true → IsTaken p s a
    go None e fewer = absurd (false≢true fewer)
    go (Some t) e fewer = record {
      made = t;
      is = e;
      other = λ same. (let less : steps_left p t < steps_left p s = ltb-true (steps_left p t) (steps_left p s) fewer in let equal = ap (steps_left p) same in omega (arith, less, equal));
    }

reads_replied : (p : PlanParts) (reply : ℕ → Reply) (s : State) (n : ℕ) → AllReplied p (only reply) s (replicate n Dispatches)
reads_replied p reply s zero = tt
reads_replied p reply s (suc n) = (tt, reads_replied p reply (next p s Dispatches) n)

abbrev start : State
start = opening long_plan 1

abbrev work : List Step
work = does long_plan all_successful 0 start to_the_end

fewer : all_leave_fewer long_plan start long_list ≡ true
unfolding key_place
fewer = refl

pub takes : Takes long_plan 73
unfolding key_place
takes = record {
  reply = all_successful;
  list = long_list;
  replied = replied_append long_plan (only all_successful) start work (replicate 10 Dispatches)
      (replied_all long_plan all_successful (only all_successful) (λ job. refl) start work (does_given long_plan all_successful 0 start to_the_end))
      (reads_replied long_plan all_successful (run long_plan start work) 10);
  taken = all_taken long_plan start long_list fewer;
  many = refl;
  settled = refl;
}

pub at_most : most_steps long_plan 1 ≡ 82
at_most = refl

-- it is the plan that is made of its tree
pub is_made : plan_of long_tree long_modes ≡ long_plan
is_made = refl
