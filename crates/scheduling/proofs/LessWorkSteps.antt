-- Each step of the fixed schedule, the worker's and the dispatcher's, lowers what is left to do.
use Rattle.std.specs.Prelude.{option_and_then}
use Rattle.std.proofs.Common.{◌≡◌, ℕ, ◌<◌, ◌≤◌, Bool, true, false, ◌||◌, not, List, length, Option, Some, None, slice_get, slice_index_or, refl, sym, ap, ◌∙◌, subst, arith}
use Rattle.std.proofs.lemmas.Option.{none-some, same_Some, slice_get_within}
use Rattle.descriptor.specs.Nodes.{size, body_of}
use Rattle.plan_events.specs.declared.event.Event.{Event}
use Rattle.plan_events.specs.declared.outcome.Reply.{Reply}
use Rattle.plan_events.specs.Statuses.{is_successful}
use Rattle.resource_locks.specs.Plans.{PlanParts}
use Rattle.event_history.specs.Plans.{sort_of}
use Rattle.scheduling.specs.declared.status.NodeStatus.{NodeStatus}
use Rattle.scheduling.specs.declared.status.NodeStatus.TheVariants.{Hidden, Ready, Claimed, Settled}
use Rattle.scheduling.specs.declared.task.Opening.{Opening}
use Rattle.scheduling.specs.declared.task.Opening.TheVariants.{Locking, Weighed, Backing, Awaiting}
use Rattle.scheduling.specs.declared.task.Closing.{Closing}
use Rattle.scheduling.specs.declared.task.Closing.TheVariants.{AwaitingAfter, Ending}
use Rattle.scheduling.specs.declared.task.Task.{Task}
use Rattle.scheduling.specs.declared.task.Task.TheVariants.{Free, Opens, Closes}
use Rattle.scheduling.specs.declared.seat.Hand.{Hand}
use Rattle.scheduling.specs.declared.seat.Seat.{Seat}
use Rattle.scheduling.specs.State.{State, status_at}
use Rattle.scheduling.specs.Choices.{in_batch, first_from, admit_next, admit_from, is_leaf, status_by, decided}
use Rattle.scheduling.specs.declared.step.Action.{Action}
use Rattle.scheduling.specs.declared.step.Action.TheVariants.{Claim, Own, AddChild, Done, Look}
use Rattle.scheduling.specs.Rows.{goes_to, row, read_event, read_row, decided_seat, after_seat, Works}
use Rattle.scheduling.specs.Runs.{IsReplied}
use Rattle.scheduling.specs.Inside.Invariant.{IsCorePlan, IsKept}
use Rattle.scheduling.specs.Schedule.{taking, may_add, action_waiting, IsNextBy, IsNext}
use Rattle.scheduling.specs.Inside.Work.{work_left, IsClear}
use Rattle.scheduling.proofs.Basics.{get_set_same}
use Rattle.scheduling.proofs.RowsOne.{by_cond}
use Rattle.scheduling.proofs.RowsBelow.{decide_keeps}
use Rattle.scheduling.proofs.DecidedInPlace.{after_direct}
use Rattle.scheduling.proofs.LessWorkMoves.{goes_no_higher, given_lower}
use Rattle.scheduling.proofs.TaskRanks.{decided_rank}
use Rattle.scheduling.proofs.LessWork.{row_lessens}

-- no action of the schedule is a free worker's look
pub claim_acts : (n : ℕ) → Claim n ≡ Look → ⊥
claim_acts n q = cc

pub own_acts : (n : ℕ) → Own n ≡ Look → ⊥
own_acts n q = cc

pub add_acts : AddChild ≡ Look → ⊥
add_acts q = cc

pub done_acts : Done ≡ Look → ⊥
done_acts q = cc

pub opens_busy : (n : ℕ) (d : Opening) → Opens n d ≡ Free → ⊥
opens_busy n d q = cc

pub closes_busy : (n : ℕ) (d : Closing) → Closes n d ≡ Free → ⊥
closes_busy n d q = cc

taking_acts : (st : NodeStatus) (n : ℕ) → taking st n ≡ Look → ⊥
taking_acts (Ready (Some w)) n q = own_acts n q
taking_acts (Ready None) n q = claim_acts n q
taking_acts Hidden n q = claim_acts n q
taking_acts (Claimed w) n q = claim_acts n q
taking_acts Settled n q = claim_acts n q

waiting_acts : (p : PlanParts) (reply : Reply) (hand : Hand) (waiting : Option ℕ) → action_waiting p reply hand waiting ≡ Look → ⊥
waiting_acts p reply hand (Some c) q = own_acts c q
waiting_acts p reply hand None q = by_cond (λ (a : Action). a ≡ Look → ⊥) (may_add p reply hand) AddChild Done (λ _. add_acts) (λ _. done_acts) q

next_acts : (p : PlanParts) (s : State) (reply : Reply) (a : Action) (hand : Option Hand) (t : Task) → IsNextBy p s reply hand t a → a ≡ Look → t ≡ Free → ⊥
next_acts p s reply a None Free next look free = taking_acts (status_at s next.0) next.0 (sym next.2 ∙ look)
next_acts p s reply a (Some hand) Free next look free = waiting_acts p reply hand hand.waiting (sym next ∙ look)
next_acts p s reply a hand (Opens n d) next look free = opens_busy n d free
next_acts p s reply a hand (Closes n d) next look free = closes_busy n d free

-- what the reply decides comes to no key
clear_decided : (p : PlanParts) (s : State) (l : List Seat) (reply : Reply) (t : Task) → IsClear p s t → IsClear p (record s { seats = l }) (decided p reply t)
clear_decided p s l reply (Opens n Awaiting) clear =
    by_cond (λ (d : Task). IsClear p (record s { seats = l }) d) (is_leaf (sort_of p.tree n) || not (is_successful (status_by (body_of p.tree n) reply))) (Closes n (Ending (status_by (body_of p.tree n) reply))) (Opens n (admit_from p n 0)) (λ _. tt)
    (λ _. go (first_from (in_batch p n) 0 (size p.tree)))
  where
    go : (found : Option ℕ) → IsClear p (record s { seats = l }) (Opens n (admit_next found))
    go None = tt
    go (Some c) = tt
clear_decided p s l reply (Opens n (Locking i)) clear = clear
clear_decided p s l reply (Opens n (Weighed i word)) clear = clear
clear_decided p s l reply (Opens n (Backing i)) clear = clear
clear_decided p s l reply (Closes n AwaitingAfter) clear = tt
clear_decided p s l reply _ clear = tt

pub step_lessens : (p : PlanParts) → IsCorePlan p → (replies : ℕ → List Reply) (s t : State) (seat : Seat) (a : Action) (reply : Reply) → IsKept p replies s → IsReplied p replies s (Works 0 a reply) → slice_get s.seats 0 ≡ Some seat → IsClear p s seat.task
    → IsNext p s (decided_seat p reply seat) reply a → row p s 0 (decided_seat p reply seat) reply a ≡ Some t → work_left p t < work_left p s
step_lessens p core replies s t seat a reply kept replied is clear next r =
    let d : Seat = decided_seat p reply seat in
    let first = decide_keeps p core replies s kept.0 kept.1 0 seat is reply (replied seat is) in
    let written : row p (record s { seats = goes_to s 0 d }) 0 d reply a ≡ Some t = sym (ap (option_and_then (after_seat p s 0 a reply)) is) ∙ after_direct p s 0 a reply seat is ∙ r in
    let falls = row_lessens p core replies (record s { seats = goes_to s 0 d }) first.0 first.1 0 d (get_set_same s.seats 0 d seat is) reply a (next_acts p s reply a d.hand d.task next) (clear_decided p s (goes_to s 0 d) reply seat.task clear) t written in
    let decides = goes_no_higher p s 0 seat is d (decided_rank p reply seat.task) in
    plain _ _ _ falls decides
  where
    plain : (a b c : ℕ) → a < b → b ≤ c → a < c
    plain a b c less le = omega (arith, less, le)

pub read_lessens : (p : PlanParts) (s t : State) → read_row s ≡ Some t → work_left p t < work_left p s
read_lessens p s t r = go (slice_index_or s.shown (length s.given) false) (slice_get s.published (length s.given)) refl r
  where
    go : (shown : Bool) (found : Option Event) → slice_get s.published (length s.given) ≡ found → read_event s shown found ≡ Some t → work_left p t < work_left p s
    go false found at r = absurd (none-some t r)
    go true None at r = absurd (none-some t r)
    go true (Some e) at r = subst (λ (x : State). work_left p x < work_left p s) (same_Some _ t r) (given_lower p s e (slice_get_within s.published (length s.given) e at))
