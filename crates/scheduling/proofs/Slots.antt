-- A node's slot is one worker's: no two workers are at one node, or have one factory in hand.
use Rattle.std.proofs.Common.{◌≡◌, ℕ, Bool, true, false, List, Some, slice_get, sym, ap, ◌∙◌, subst}
use Rattle.std.proofs.lemmas.Option.{same_Some, none-some}
use Rattle.plan_events.specs.declared.outcome.Reply.{Reply}
use Rattle.resource_locks.specs.Plans.{PlanParts}
use Rattle.scheduling.specs.declared.task.Task.{Task}
use Rattle.scheduling.specs.declared.task.Task.TheVariants.{Free, Opens, Closes}
use Rattle.scheduling.specs.declared.seat.Hand.{Hand}
use Rattle.scheduling.specs.declared.seat.Seat.{Seat}
use Rattle.scheduling.specs.State.{State, subject, opening_slot, closing_slot, if_slot, slot_node}
use Rattle.scheduling.specs.Inside.Stages.{Stage, who}
use Rattle.scheduling.specs.Inside.Invariant.{TaskOk, HandOk, IsInHand, Holds}

slot_subject : (t : Task) (n : ℕ) → slot_node t ≡ Some n → subject t ≡ Some n
slot_subject Free n q = absurd (none-some n q)
slot_subject (Opens m d) n q = go (opening_slot d) q
  where
    go : (b : Bool) → if_slot b m ≡ Some n → Some m ≡ Some n
    go true q = q
    go false q = absurd (none-some n q)
slot_subject (Closes m d) n q = go (closing_slot d) q
  where
    go : (b : Bool) → if_slot b m ≡ Some n → Some m ≡ Some n
    go true q = q
    go false q = absurd (none-some n q)

-- the node that a task is about names its worker
task_who : (p : PlanParts) (g : ℕ → Stage) (w : ℕ) (t : Task) (n : ℕ) → TaskOk p g w t → subject t ≡ Some n → who (g n) ≡ Some w
task_who p g w Free n ok q = absurd (none-some n q)
task_who p g w (Opens m d) n ok q = ap (λ k. who (g k)) (sym (same_Some m n q)) ∙ ap who ok.1
task_who p g w (Closes m d) n ok q = ap (λ k. who (g k)) (sym (same_Some m n q)) ∙ ap who ok.1.2

module _ (p : PlanParts) (replies : ℕ → List Reply) (s : State) (g : ℕ → Stage) (h : Holds p replies s g) where
  pub one_slot : (v w n : ℕ) (a b : Seat) → slice_get s.seats v ≡ Some a → slice_get s.seats w ≡ Some b → slot_node a.task ≡ Some n → slot_node b.task ≡ Some n → v ≡ w
  one_slot v w n a b qa qb sa sb =
      same_Some v w (sym (task_who p g v a.task n (h.seats v a qa).task (slot_subject a.task n sa)) ∙ task_who p g w b.task n (h.seats w b qb).task (slot_subject b.task n sb))

  pub one_hand : (v w : ℕ) (a b : Seat) (i j : Hand) → slice_get s.seats v ≡ Some a → slice_get s.seats w ≡ Some b → a.hand ≡ Some i → b.hand ≡ Some j → i.factory ≡ j.factory → v ≡ w
  one_hand v w a b i j qa qb ha hb same =
      let x : IsInHand p g s.published v i = subst (HandOk p g s.published v) ha (h.seats v a qa).hand in
      let y : IsInHand p g s.published w j = subst (HandOk p g s.published w) hb (h.seats w b qb).hand in
      same_Some v w (sym (ap who x.at) ∙ ap (λ k. who (g k)) same ∙ ap who y.at)
