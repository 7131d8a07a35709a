-- The choice of a step is the schedule's, whatever reply the answer tells of, and which nodes are open after it.
use Rattle.std.proofs.Common.{◌≡◌, ◌∙◌, ℕ, List, Option, Some, None, true, refl, sym, ap, subst}
use Rattle.plan_events.specs.declared.outcome.Reply.{Reply}
use Rattle.resource_locks.specs.Plans.{PlanParts}
use Rattle.scheduling.specs.declared.answer.Answer.{Answer}
use Rattle.scheduling.specs.declared.status.NodeStatus.{NodeStatus}
use Rattle.scheduling.specs.declared.step.Action.{Action}
use Rattle.scheduling.specs.declared.task.Opening.{Opening}
use Rattle.scheduling.specs.declared.task.Closing.{Closing}
use Rattle.scheduling.specs.declared.task.Task.{Task}
use Rattle.scheduling.specs.declared.task.Task.TheVariants.{Free, Opens, Closes}
use Rattle.scheduling.specs.declared.seat.Hand.{Hand}
use Rattle.scheduling.specs.declared.seat.Seat.{Seat}
use Rattle.scheduling.specs.Answers.{answer_of, reply_by}
use Rattle.scheduling.specs.Inside.Lowest.{NoneOpenBelow, lowest_after}
use Rattle.scheduling.specs.Rows.{row}
use Rattle.scheduling.specs.Schedule.{is_open, taking, action_waiting, IsFirstOpen, IsNextBy}
use Rattle.scheduling.specs.State.{State}
use Rattle.scheduling.proofs.LowestOpen.{row_none_below, claims_first}
use Rattle.scheduling.proofs.Scheduled.{first_open_one}
use Rattle.sched_core.specs.Statuses.{status_in, NoneOpenIn, IsFirstIn}

abbrev seated : Task → Option Hand → Seat
seated t hand = record { task = t; hand = hand }

-- the first open node, by the words, is the state's
pub first_here : (l : List NodeStatus) (s : State) (n : ℕ) → s.statuses ≡ l → IsFirstIn l n → IsFirstOpen s n
first_here l s n words first = record {
  open_here = subst (λ (x : List NodeStatus). is_open (status_in x n) ≡ true) (sym words) first.0;
  first = subst (λ (x : List NodeStatus). NoneOpenIn x n) (sym words) first.1;
}

pub takes_first : (p : PlanParts) (l : List NodeStatus) (s : State) (n : ℕ) (reply : Reply) (a : Action) → s.statuses ≡ l → IsFirstIn l n → a ≡ taking (status_in l n) n → IsNextBy p s reply None Free a
takes_first p l s n reply a words first takes = (n, first_here l s n words first, takes ∙ ap (λ (x : List NodeStatus). taking (status_in x n) n) (sym words))

-- the text of a reply is none of the schedule's business
next_known : (p : PlanParts) (s : State) (t : Task) (hand : Option Hand) (r : Reply) (a : Action) → IsNextBy p s (reply_by (answer_of r)) hand t a → IsNextBy p s r hand t a
next_known p s Free None r a n = n
next_known p s Free (Some hand) r a n = n ∙ waits hand.waiting
  where
    waits : (waiting : Option ℕ) → action_waiting p (reply_by (answer_of r)) hand waiting ≡ action_waiting p r hand waiting
    waits None = refl
    waits (Some c) = refl
next_known p s (Opens x d) hand r a n = n
next_known p s (Closes x d) hand r a n = n

pub told_next : (p : PlanParts) (s : State) (t : Task) (hand : Option Hand) (r : Reply) (answer : Answer) (a : Action) → answer_of r ≡ answer → IsNextBy p s (reply_by answer) hand t a → IsNextBy p s r hand t a
told_next p s t hand r answer a told next = next_known p s t hand r a (subst (λ (x : Answer). IsNextBy p s (reply_by x) hand t a) (sym told) next)

-- no node below the new number is open after the step
module _ (p : PlanParts) (s t : State) (reply : Reply) (a : Action) (lowest found : ℕ) (none : NoneOpenBelow s lowest) where
  not_opens : (n : ℕ) (d : Opening) → Opens n d ≡ Free → ⊥
  not_opens n d q = cc

  not_closes : (n : ℕ) (d : Closing) → Closes n d ≡ Free → ⊥
  not_closes n d q = cc

  pub none_below : (task : Task) (hand : Option Hand) (known : Reply) → IsNextBy p s known hand task a → row p s 0 (seated task hand) reply a ≡ Some t → (task ≡ Free → hand ≡ None → IsFirstOpen s found) → ((h : Hand) → task ≡ Free → hand ≡ Some h → found ≡ lowest)
      → ((task ≡ Free → ⊥) → found ≡ lowest_after task lowest) → NoneOpenBelow t found
  none_below Free None known n leads free held busy =
      let same : n.0 ≡ found = first_open_one s n.0 found n.1 (free refl refl) in
      subst (NoneOpenBelow t) same (claims_first p s t 0 (seated Free None) reply n.0 n.1 (subst (λ (b : Action). row p s 0 (seated Free None) reply b ≡ Some t) n.2 leads))
  none_below Free (Some h) known n leads free held busy = subst (NoneOpenBelow t) (sym (held h refl refl)) (row_none_below p s t 0 (seated Free (Some h)) reply a lowest leads none)
  none_below (Opens x d) hand known n leads free held busy = subst (NoneOpenBelow t) (sym (busy (not_opens x d))) (row_none_below p s t 0 (seated (Opens x d) hand) reply a lowest leads none)
  none_below (Closes x d) hand known n leads free held busy = subst (NoneOpenBelow t) (sym (busy (not_closes x d))) (row_none_below p s t 0 (seated (Closes x d) hand) reply a lowest leads none)
