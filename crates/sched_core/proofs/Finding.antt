-- What a worker finds to do in its turn.
use Rattle.std.proofs.Common.{◌≡◌, ◌∙◌, ◌<◌, ℕ, List, length, get_or, Option, Some, slice_get, inl, inr, sym, ap, subst, arith}
use Rattle.std.proofs.lemmas.Option.{slice_get-get_or}
use Rattle.descriptor.specs.Nodes.{size}
use Rattle.plan_events.specs.declared.outcome.Reply.{Reply}
use Rattle.resource_locks.specs.Plans.{PlanParts}
use Rattle.scheduling.specs.declared.seat.Hand.{Hand}
use Rattle.scheduling.specs.declared.seat.Seat.{Seat}
use Rattle.scheduling.specs.declared.step.Action.{Action}
use Rattle.scheduling.specs.declared.task.Task.{Task}
use Rattle.scheduling.specs.Choices.{decided}
use Rattle.scheduling.specs.State.{State}
use Rattle.scheduling.specs.declared.task.Task.TheVariants.{Free}
use Rattle.termination.specs.Turns.{NextFree, NextInTurn}
use Rattle.scheduling.specs.declared.status.NodeStatus.TheVariants.{Hidden}
use Rattle.scheduling.specs.Inside.Going.{word_of}
use Rattle.scheduling.proofs.GoingBasics.{hidden_ready, hidden_claimed}
use Rattle.scheduling.proofs.GoingWords.{word_inside}
use Rattle.never_stuck.specs.Inside.Progress.{HandOn, HandsOn}
use Rattle.sched_core.specs.declared.machine.Machine.{Machine}
use Rattle.sched_core.specs.Replies.{reply_of}
use Rattle.sched_core.specs.Inside.Fields.{IsSound}

-- the seat that an index has found
pub seat_at : (xs : List Seat) (i w : ℕ) (x : Seat) → i ≡ w → x ≡ get_or xs i x → w < length xs → slice_get xs w ≡ Some x
seat_at xs i w x same read inside = slice_get-get_or xs w x inside ∙ ap Some (ap (λ (k : ℕ). get_or xs k x) (sym same) ∙ sym read)

-- what it does with the reply that its task awaits
pub next_told : (p : PlanParts) (s : State) (w : ℕ) (seat : Seat) (reply : Reply) (task : Task) (found : Option Action) → task ≡ decided p reply seat.task → NextInTurn p s w reply seat.hand task found → NextInTurn p s w reply seat.hand (decided p reply seat.task) found
next_told p s w seat reply task found same next = subst (λ (t : Task). NextInTurn p s w reply seat.hand t found) same next

-- with a factory in hand it does what the hand asks for
pub next_with : (p : PlanParts) (s : State) (w : ℕ) (reply : Reply) (task : Task) (hand : Option Hand) (held : Hand) (found : Option Action) → task ≡ Free → hand ≡ Some held → NextFree p s w reply (Some held) found → NextInTurn p s w reply hand task found
next_with p s w reply task hand held found free is next = subst (λ (t : Task). NextInTurn p s w reply hand t found) (sym free) (subst (λ (y : Option Hand). NextFree p s w reply y found) (sym is) next)

-- the dynamic test that a factory in hand waits for is one of the plan's nodes
pub waited_inside : (p : PlanParts) (answers : List (ℕ × Reply)) (m : Machine) → IsSound p answers m → (w : ℕ) (seat : Seat) → slice_get m.seats.items w ≡ Some seat → (hand : Hand) (c : ℕ) → seat.hand ≡ Some hand → hand.waiting ≡ Some c → c < size p.tree
waited_inside p answers m sound w seat at hand c held waits =
    let kept : HandOn p (reply_of answers) m.statuses.items w seat.task hand = subst (HandsOn p (reply_of answers) m.statuses.items w seat.task) held (sound.live.on.seats w seat at).hand in
    let z = kept.waits c waits in
    elim z.3 [
      | inl a ↦ within (λ q. hidden_ready (Some w) (sym a.0 ∙ q))
      | inr a ↦ within (λ q. hidden_claimed a.0 (sym a.1 ∙ q))
    ]
  where
    within : (word_of m.statuses.items c ≡ Hidden → ⊥) → c < size p.tree
    within seen = (let lt = word_inside m.statuses.items c seen in let len = sound.live.kept.1.statuses_len in omega (arith, lt, len))
