-- How much is left in whatever state a run has come to, in terms of the plan.
use Rattle.std.proofs.Common.{ℕ, ◌+◌, ◌*◌, ◌-◌, ◌≤◌, true, false, List, length, sum_by, refl, subst, arith}
use Rattle.std.proofs.Math.Nat.{mul-le-mul_right}
use Rattle.plan_events.specs.declared.outcome.Reply.{Reply}
use Rattle.resource_locks.specs.Plans.{PlanParts, IsPlan, most_events}
use Rattle.scheduling.specs.declared.task.Opening.{Opening}
use Rattle.scheduling.specs.declared.task.Opening.TheVariants.{Registering, RegisteredAt, Offering, Noticing, Locking, Weighed, Backing, Beginning, StartedAt, Awaiting, Admitting, Guarding}
use Rattle.scheduling.specs.declared.task.Closing.{Closing}
use Rattle.scheduling.specs.declared.task.Closing.TheVariants.{AwaitingAfter, Ending, FinishedAt, SkippedAt, Raising, Giving, Settling, Looking, Passing, CountingOff}
use Rattle.scheduling.specs.declared.task.Task.{Task}
use Rattle.scheduling.specs.declared.task.Task.TheVariants.{Free, Opens, Closes}
use Rattle.scheduling.specs.State.{State}
use Rattle.scheduling.specs.Rows.{Step}
use Rattle.scheduling.specs.Runs.{AllReplied}
use Rattle.scheduling.specs.Inside.Stages.{How, Stage}
use Rattle.scheduling.specs.Inside.Invariant.{OpeningOk, ClosingOk, ShapeOk, TaskOk, Holds}
use Rattle.scheduling.proofs.Headline.{core_plan}
use Rattle.termination.specs.Bounds.{most_keys, steps_of_nodes, steps_of_a_try, most_steps_on, most_steps_apart_on}
use Rattle.termination.specs.Conflicts.{IsFreeOfConflict}
use Rattle.termination.specs.Inside.Accounts.{statuses_left, counters_left, task_steps, seat_steps, steps_left}
use Rattle.termination.specs.Steps.{AllTaken, times_turned_back}
use Rattle.termination.proofs.Sums.{sum_few, sums_few}
use Rattle.termination.proofs.Opening.{nodes_few}
use Rattle.termination.proofs.Prices.{keys_few}
use Rattle.termination.proofs.Bounded.{list_falls}
use Rattle.termination.proofs.Short.{weighed_rank, seat_weighed, progress_left, turn_few, seat_turn, list_shortens}

-- what a task takes, a weighed key included
abbrev full_steps : PlanParts → Task → ℕ
full_steps p t = task_steps p t + weighed_rank t

opening_few : (p : PlanParts) (replies : ℕ → List Reply) (s : State) (n : ℕ) (d : Opening) → OpeningOk p replies s.published n d → full_steps p (Opens n d) ≤ 4 * most_keys p + 4
opening_few p replies s n Registering ok = omega arith
opening_few p replies s n (RegisteredAt i) ok = omega arith
opening_few p replies s n Offering ok = omega arith
opening_few p replies s n Noticing ok = (let few = keys_few p n in omega (arith, few))
opening_few p replies s n (Locking i) ok = (let few = keys_few p n in omega (arith, few))
opening_few p replies s n (Weighed i word) ok = (let few = keys_few p n in omega (arith, few))
opening_few p replies s n (Backing i) ok = (let few = keys_few p n in omega (arith, few, ok))
opening_few p replies s n (Beginning true) ok = omega arith
opening_few p replies s n (Beginning false) ok = omega arith
opening_few p replies s n (StartedAt i) ok = omega arith
opening_few p replies s n Awaiting ok = omega arith
opening_few p replies s n (Admitting c) ok = omega arith
opening_few p replies s n Guarding ok = omega arith

closing_few : (p : PlanParts) (replies : ℕ → List Reply) (s : State) (n : ℕ) (d : Closing) (how : How) → ClosingOk p replies s.published n d how → full_steps p (Closes n d) ≤ 4 * most_keys p + 4
closing_few p replies s n AwaitingAfter how ok = omega arith
closing_few p replies s n (Ending status) how ok = omega arith
closing_few p replies s n (FinishedAt i status) how ok = omega arith
closing_few p replies s n (SkippedAt i) how ok = omega arith
closing_few p replies s n Raising how ok = omega arith
closing_few p replies s n (Giving i) how ok = (let few = keys_few p n in omega (arith, few, ok))
closing_few p replies s n Settling how ok = omega arith
closing_few p replies s n (Looking m) how ok = omega arith
closing_few p replies s n (Passing m o) how ok = omega arith
closing_few p replies s n CountingOff how ok = omega arith

module _ (p : PlanParts) (plan : IsPlan p) (replies : ℕ → List Reply) (s : State) (g : ℕ → Stage) (h : Holds p replies s g) where
  task_few : (w : ℕ) (t : Task) → TaskOk p g w t → full_steps p t ≤ 4 * most_keys p + 4
  task_few w Free ok = omega arith
  task_few w (Opens n d) ok = opening_few p replies s n d (subst (ShapeOk p replies s.published n) ok.1 (h.shapes n ok.0))
  task_few w (Closes n d) ok = closing_few p replies s n d ok.1.1 (subst (ShapeOk p replies s.published n) ok.1.2 (h.shapes n ok.0))

  progress_few : progress_left p s ≤ most_steps_on p (length s.seats)
  progress_few =
      let nodes = nodes_few p plan replies s g h in
      let seats = sums_few (seat_steps p) seat_weighed (4 * most_keys p + 4) s.seats (λ v o at. task_few v o.task (h.seats v o at).task) in
      plain (statuses_left p s) (counters_left p s) (4 * (most_events p - length s.published)) (length s.published - length s.given) (sum_by (seat_steps p) s.seats) (sum_by seat_weighed s.seats) (steps_of_nodes p) _ nodes seats
    where
      plain : (a b c d sum mark nodes few : ℕ) → a + b + c + d ≤ nodes → sum + mark ≤ few → a + b + c + sum + d + mark ≤ nodes + few
      plain a b c d sum mark nodes few x y = omega (arith, x, y)

  -- From whatever state a run has come to a list of taken steps is no longer than so many, and a try's steps more for each time that a worker is
  -- turned back.
  pub bounded_on : (list : List Step) → AllReplied p replies s list → AllTaken p s list → length list ≤ most_steps_on p (length s.seats) + times_turned_back p s list * steps_of_a_try p
  bounded_on list replied taken =
      let falls = list_falls p (core_plan p plan.tree) replies s list (g, h) replied taken in
      let progress = progress_few in
      plain _ (steps_left p s) _ _ _ falls progress
    where
      plain : (len here mark most tries : ℕ) → len ≤ here + tries → here + mark ≤ most → len ≤ most + tries
      plain len here mark most tries a b = omega (arith, a, b)

  -- Of a plan that is free of conflict it is no longer than so many.
  pub short_on : IsFreeOfConflict p → (list : List Step) → AllReplied p replies s list → AllTaken p s list → length list ≤ most_steps_apart_on p (length s.seats)
  short_on apart list replied taken =
      let shortens = list_shortens p plan apart (core_plan p plan.tree) replies (length s.seats) s list (record { kept = (g, h); crew = refl }) replied taken in
      let most : progress_left p s * (2 * length s.seats + 1) ≤ most_steps_on p (length s.seats) * (2 * length s.seats + 1) = mul-le-mul_right (2 * length s.seats + 1) progress_few in
      let turns = sum_few (seat_turn p s.locks) 2 (λ o. turn_few p s.locks o.task) s.seats in
      plain _ _ _ _ _ shortens most turns
    where
      plain : (len times turns most workers : ℕ) → len ≤ times + turns → times ≤ most → turns ≤ workers * 2 → len ≤ most + 2 * workers
      plain len times turns most workers a b c = omega (arith, a, b, c)
