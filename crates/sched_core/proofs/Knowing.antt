-- A step knows enough of a reply: the text is none of its business.
use Rattle.std.proofs.Common.{◌≡◌, ◌∙◌, ℕ, ◌||◌, not, cond, List, Option, Some, None, refl, ap}
use Rattle.plan_events.specs.declared.outcome.Reply.{Reply}
use Rattle.resource_locks.specs.Plans.{PlanParts}
use Rattle.scheduling.specs.declared.answer.Answer.{Answer}
use Rattle.scheduling.specs.declared.step.Action.{Action}
use Rattle.scheduling.specs.declared.step.Action.TheVariants.{AddChild, Done}
use Rattle.scheduling.specs.declared.task.Opening.TheVariants.{Awaiting, Guarding}
use Rattle.scheduling.specs.declared.task.Closing.TheVariants.{AwaitingAfter, Ending, CountingOff}
use Rattle.scheduling.specs.declared.task.Task.{Task}
use Rattle.scheduling.specs.declared.task.Task.TheVariants.{Free, Opens, Closes}
use Rattle.scheduling.specs.declared.seat.Hand.{Hand}
use Rattle.scheduling.specs.declared.seat.Seat.{Seat}
use Rattle.scheduling.specs.Answers.{answer_of, reply_by}
use Rattle.scheduling.specs.Choices.{awaited, admit_from, answered, is_leaf, status_by, decided}
use Rattle.scheduling.specs.Rows.{row, decided_seat, add_by_hand, add_child_hand, add_child_row, done_by_hand, done_hand, done_row}
use Rattle.scheduling.specs.State.{State}
use Rattle.sched_core.specs.Inside.Fields.{seated}
use Rattle.sched_core.specs.Steps.{reply_awaited, reply_for}
use Rattle.descriptor.specs.Nodes.{body_of}
use Rattle.event_history.specs.Plans.{sort_of}
use Rattle.plan_events.specs.Statuses.{is_successful}
use Rattle.plan_events.specs.declared.status.Status.{Status}

known_status : (body : Option ℕ) (r : Reply) → status_by body (reply_by (answer_of r)) ≡ status_by body r
known_status None r = refl
known_status (Some job) r = refl

answered_known : (p : PlanParts) (n : ℕ) (r : Reply) → answered p n (reply_by (answer_of r)) ≡ answered p n r
answered_known p n r = ap (λ (st : Status). cond (is_leaf (sort_of p.tree n) || not (is_successful st)) (Closes n (Ending st)) (Opens n (admit_from p n 0))) (known_status (body_of p.tree n) r)

pub decided_known : (p : PlanParts) (r : Reply) (t : Task) → decided p (reply_by (answer_of r)) t ≡ decided p r t
decided_known p r (Opens n Awaiting) = answered_known p n r
decided_known p r (Closes n AwaitingAfter) = refl
decided_known p r _ = refl

add_known : (p : PlanParts) (s : State) (w : ℕ) (seat : Seat) (r : Reply) (t : Task) → add_child_row p s w seat (reply_by (answer_of r)) t ≡ add_child_row p s w seat r t
add_known p s w seat r Free = hands seat.hand
  where
    waits : (f k : ℕ) (waiting : Option ℕ) → add_by_hand p s w seat (reply_by (answer_of r)) f k waiting ≡ add_by_hand p s w seat r f k waiting
    waits f k None = refl
    waits f k (Some c) = refl

    hands : (hand : Option Hand) → add_child_hand p s w seat (reply_by (answer_of r)) hand ≡ add_child_hand p s w seat r hand
    hands None = refl
    hands (Some hand) = waits hand.factory hand.registered hand.waiting
add_known p s w seat r _ = refl

done_known : (p : PlanParts) (s : State) (w : ℕ) (seat : Seat) (r : Reply) (t : Task) → done_row p s w seat (reply_by (answer_of r)) t ≡ done_row p s w seat r t
done_known p s w seat r (Opens n Guarding) = refl
done_known p s w seat r (Closes c CountingOff) = refl
done_known p s w seat r Free = hands seat.hand
  where
    waits : (f k : ℕ) (waiting : Option ℕ) → done_by_hand p s w (reply_by (answer_of r)) f k waiting ≡ done_by_hand p s w r f k waiting
    waits f k None = refl
    waits f k (Some c) = refl

    hands : (hand : Option Hand) → done_hand p s w (reply_by (answer_of r)) hand ≡ done_hand p s w r hand
    hands None = refl
    hands (Some hand) = waits hand.factory hand.registered hand.waiting
done_known p s w seat r _ = refl

pub row_known : (p : PlanParts) (s : State) (w : ℕ) (seat : Seat) (r : Reply) (a : Action) → row p s w seat (reply_by (answer_of r)) a ≡ row p s w seat r a
row_known p s w seat r AddChild = add_known p s w seat r seat.task
row_known p s w seat r Done = done_known p s w seat r seat.task
row_known p s w seat r _ = refl

-- the answer that is told of the body which a seat awaits, and the task that it decides
pub told_answer : (p : PlanParts) (answers : List (ℕ × Reply)) (seat : Seat) (job : Option ℕ) (answer : Answer) → job ≡ awaited p seat seat.task → answer ≡ answer_of (reply_awaited answers job) → answer ≡ answer_of (reply_for p answers seat)
told_answer p answers seat job answer awaits said = said ∙ ap (λ (o : Option ℕ). answer_of (reply_awaited answers o)) awaits

pub told_task : (p : PlanParts) (r : Reply) (seat : Seat) (answer : Answer) (task : Task) → answer ≡ answer_of r → task ≡ decided p (reply_by answer) seat.task → task ≡ decided p r seat.task
told_task p r seat answer task said decides = decides ∙ ap (λ (x : Answer). decided p (reply_by x) seat.task) said ∙ decided_known p r seat.task

-- a row of the task so decided is the row of the decided seat
pub told_row : (p : PlanParts) (s : State) (w : ℕ) (r : Reply) (seat : Seat) (answer : Answer) (task : Task) (a : Action) → answer ≡ answer_of r → task ≡ decided p r seat.task
    → row p s w (seated task seat.hand) (reply_by answer) a ≡ row p s w (decided_seat p r seat) r a
told_row p s w r seat answer task a said same =
    ap (λ (x : Answer). row p s w (seated task seat.hand) (reply_by x) a) said ∙ row_known p s w (seated task seat.hand) r a ∙ ap (λ (t : Task). row p s w (seated t seat.hand) r a) same
