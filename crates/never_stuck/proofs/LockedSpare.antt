-- A plan in which a spare holds a key gets stuck: its only worker has the factory in hand, which waits for the spare, the spare
-- for the class that has the key, and the class for a test that the worker cannot take.
use Rattle.std.proofs.Common.{◌≡◌, ℕ, zero, suc, Bool, true, false, ◌&&◌, cond, List, [], ◌∷◌, ◌++◌, length, Option, Some, None, refl, sym, ap, ◌∙◌, subst}
use Rattle.std.specs.Prelude.{slice_get, slice_index_or}
use Rattle.plan_events.specs.declared.event.Event.{Event}
use Rattle.plan_events.specs.declared.outcome.Reply.{Reply}
use Rattle.scheduling.specs.declared.status.NodeStatus.{NodeStatus}
use Rattle.scheduling.specs.declared.status.NodeStatus.TheVariants.{Ready, Claimed, Settled}
use Rattle.scheduling.specs.declared.lock_word.LockWord.TheVariants.{Readers, Written}
use Rattle.scheduling.specs.declared.task.Opening.TheVariants.{Locking, Backing}
use Rattle.scheduling.specs.declared.task.Task.{Task}
use Rattle.scheduling.specs.declared.task.Task.TheVariants.{Free, Opens}
use Rattle.scheduling.specs.declared.seat.Hand.{Hand}
use Rattle.scheduling.specs.declared.seat.Seat.{Seat}
use Rattle.scheduling.specs.declared.step.Action.{Action}
use Rattle.scheduling.specs.declared.step.Action.TheVariants.{Own, Weigh, GiveUp, Look}
use Rattle.scheduling.specs.Choices.{key_place}
use Rattle.scheduling.specs.State.{State, status_at}
use Rattle.scheduling.specs.Rows.{row, after, read_event, Step, Works, Dispatches}
use Rattle.scheduling.specs.Runs.{opening, or_stays, next, run}
use Rattle.scheduling.proofs.GoingBasics.{settled_claimed}
use Rattle.resource_locks.specs.Held.{plan_of}
use Rattle.resource_locks.specs.Plans.{PlanParts}
use Rattle.never_stuck.specs.LockedSpare.{GetsStuck, locked_tree, locked_modes, locked_plan, asks_for_one, reply_at, does, to_the_dead_end}
use Rattle.never_stuck.specs.Reaching.{AllGiven, only, IsEnded}
use Rattle.never_stuck.proofs.Reach.{run_append, replied_all}

-- the spare may be taken by the worker, who looks at the key, and gives the spare up again
data Phase : Type 0 where
  Waits : Phase
  Weighs : Phase
  Backs : Phase

abbrev spare_status : Phase → NodeStatus
spare_status Waits = Ready (Some 0)
spare_status Weighs = Claimed 0
spare_status Backs = Claimed 0

abbrev task_in : Phase → Task
task_in Waits = Free
task_in Weighs = Opens 5 (Locking 0)
task_in Backs = Opens 5 (Backing 0)

abbrev held_factory : Hand
held_factory = record { factory = 4; registered = 1; waiting = Some 5 }

abbrev dead_end : Phase → State → State
dead_end phase s = record s {
  statuses = Claimed 0 ∷ Claimed 0 ∷ Claimed 0 ∷ Ready (Some 0) ∷ Claimed 0 ∷ spare_status phase ∷ [];
  locks = Readers 2 ∷ Written ∷ [];
  seats = record { task = task_in phase; hand = Some held_factory } ∷ [];
}

-- a step leads to such a state, or is not possible
abbrev Stays : Option State → Type 0
Stays None = Unit {0}
Stays (Some t) = (phase : Phase) × (s : State) × (t ≡ dead_end phase s)

not_own : (b c : Bool) (t : State) → Stays (cond (true && ((b && false) && c)) (Some t) None)
not_own true c t = tt
not_own false c t = tt

abbrev seat_in : Phase → Seat
seat_in phase = record { task = task_in phase; hand = Some held_factory }

own_stays : (s : State) (r : Reply) (n : ℕ) → Stays (row locked_plan (dead_end Waits s) 0 (seat_in Waits) r (Own n))
own_stays s r zero = tt
own_stays s r (suc zero) = tt
own_stays s r (suc (suc zero)) = tt
own_stays s r (suc (suc (suc zero))) = tt
own_stays s r (suc (suc (suc (suc zero)))) = tt
own_stays s r (suc (suc (suc (suc (suc zero))))) = (Weighs, s, refl)
own_stays s r (suc (suc (suc (suc (suc (suc n)))))) = not_own _ _ _

row_stays : (phase : Phase) (s : State) (r : Reply) (a : Action) → Stays (row locked_plan (dead_end phase s) 0 (seat_in phase) r a)
unfolding key_place
row_stays Waits s r (Own n) = own_stays s r n
row_stays Waits s r Look = (Waits, s, refl)
row_stays Waits s r _ = tt
row_stays Weighs s r Weigh = (Backs, s, refl)
row_stays Weighs s r _ = tt
row_stays Backs s r GiveUp = (Waits, s, refl)
row_stays Backs s r _ = tt

step_stays : (phase : Phase) (s : State) (a : Step) → Stays (after locked_plan (dead_end phase s) a)
step_stays phase s Dispatches = go (slice_index_or s.shown (length s.given) false) (slice_get s.published (length s.given))
  where
    go : (b : Bool) (e : Option Event) → Stays (read_event (dead_end phase s) b e)
    go true (Some e) = (phase, record s { given = s.given ++ e ∷ [] }, refl)
    go true None = tt
    go false e = tt
step_stays phase s (Works (suc w) a r) = tt
step_stays Waits s (Works zero a r) = row_stays Waits s r a
step_stays Weighs s (Works zero a r) = row_stays Weighs s r a
step_stays Backs s (Works zero a r) = row_stays Backs s r a

-- and then go on
then_stays : (phase : Phase) (s : State) (list : List Step) → ((next_phase : Phase) (t : State) → Stays (Some (run locked_plan (dead_end next_phase t) list))) → (found : Option State) → Stays found → Stays (Some (run locked_plan (or_stays (dead_end phase s) found) list))
then_stays phase s list goes_on None stays = goes_on phase s
then_stays phase s list goes_on (Some t) stays = subst (λ (u : State). Stays (Some (run locked_plan u list))) (sym stays.2) (goes_on stays.0 stays.1)

run_stays : (phase : Phase) (s : State) (list : List Step) → Stays (Some (run locked_plan (dead_end phase s) list))
run_stays phase s [] = (phase, s, refl)
run_stays phase s (a ∷ list) = then_stays phase s list (λ next_phase t. run_stays next_phase t list) (after locked_plan (dead_end phase s) a) (step_stays phase s a)

never_ends : (phase : Phase) (s : State) → status_at (dead_end phase s) 0 ≡ Settled → ⊥
never_ends phase s q = settled_claimed 0 (sym q)

-- the steps of the worker have the replies that it awaits
does_given : (p : PlanParts) (reply : ℕ → Reply) (s : State) (list : List Action) → AllGiven p reply s (does p reply s list)
does_given p reply s [] = tt
does_given p reply s (a ∷ more) = (
  λ seat at. ap (reply_at p reply) at,
  does_given p reply (next p s (Works 0 a (reply_at p reply (slice_get s.seats 0)))) more,
)

abbrev steps : List Step
steps = does locked_plan asks_for_one (opening locked_plan 1) to_the_dead_end

is_dead_end : run locked_plan (opening locked_plan 1) steps ≡ dead_end Waits (run locked_plan (opening locked_plan 1) steps)
unfolding key_place
is_dead_end = refl

pub gets_stuck : GetsStuck locked_plan
gets_stuck = record {
  reply = asks_for_one;
  list = steps;
  replied = replied_all locked_plan asks_for_one (only asks_for_one) (λ job. refl) (opening locked_plan 1) steps (does_given locked_plan asks_for_one (opening locked_plan 1) to_the_dead_end);
  never = never;
}
  where
    never : (more : List Step) → IsEnded locked_plan (run locked_plan (opening locked_plan 1) (steps ++ more)) → ⊥
    never more ended =
        let first = run locked_plan (opening locked_plan 1) steps in
        let stays : Stays (Some (run locked_plan first more)) = subst (λ (s : State). Stays (Some (run locked_plan s more))) (sym is_dead_end) (run_stays Waits first more) in
        never_ends stays.0 stays.1 (ap (λ (s : State). status_at s 0) (sym stays.2) ∙ ap (λ (s : State). status_at s 0) (sym (run_append locked_plan (opening locked_plan 1) steps more)) ∙ ended.settled)

-- it is the plan that is made of its tree
pub is_made : plan_of locked_tree locked_modes ≡ locked_plan
is_made = refl
