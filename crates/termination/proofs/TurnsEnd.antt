-- Where no worker has anything to do in its turn the plan is settled, if no spare holds a key.
use Rattle.std.proofs.Common.{◌≡◌, ◌∙◌, ◌<◌, ℕ, zero, suc, List, [], ◌∷◌, length, Option, Some, None, slice_get, refl, sym, ap, subst, arith}
use Rattle.std.proofs.lemmas.Option.{none-some}
use Rattle.std.proofs.lemmas.Bool.{eq-eqb}
use Rattle.descriptor.specs.Nodes.{size}
use Rattle.plan_events.specs.declared.outcome.Reply.{Reply}
use Rattle.resource_locks.specs.Plans.{PlanParts, IsPlan}
use Rattle.resource_locks.specs.Spares.{HasFreeSpares}
use Rattle.event_history.specs.Expected.{HasOneReply}
use Rattle.scheduling.specs.declared.status.NodeStatus.{NodeStatus}
use Rattle.scheduling.specs.declared.status.NodeStatus.TheVariants.{Hidden, Ready, Claimed, Settled}
use Rattle.scheduling.specs.declared.task.Task.{Task}
use Rattle.scheduling.specs.declared.task.Task.TheVariants.{Free}
use Rattle.scheduling.specs.declared.seat.Hand.{Hand}
use Rattle.scheduling.specs.declared.seat.Seat.{Seat}
use Rattle.scheduling.specs.State.{State, status_at}
use Rattle.scheduling.specs.Choices.{decided}
use Rattle.scheduling.specs.Inside.Invariant.{IsCorePlan}
use Rattle.scheduling.specs.Schedule.{hand_action}
use Rattle.scheduling.proofs.GoingBasics.{hidden_ready, hidden_settled, ready_settled, settled_claimed}
use Rattle.scheduling.proofs.GoingWords.{word_inside}
use Rattle.never_stuck.specs.Inside.Live.{IsLive}
use Rattle.never_stuck.specs.Inside.Progress.{HandOn, HandsOn}
use Rattle.never_stuck.specs.Reaching.{answer}
use Rattle.never_stuck.proofs.Quiet.{IsQuiet, Chosen, choose}
use Rattle.never_stuck.proofs.Rows.{hand_on}
use Rattle.termination.specs.Turns.{is_offered_to, MayTake, NextWaiting, NextFree, NextInTurn}
use Rattle.termination.proofs.InTurn.{is_free_then}

not_unsettled : (v : NodeStatus) → ((v ≡ Settled → ⊥) → ⊥) → v ≡ Settled
not_unsettled Hidden f = absurd (f (λ q. hidden_settled (sym q)))
not_unsettled (Ready o) f = absurd (f (ready_settled o))
not_unsettled (Claimed w) f = absurd (f (λ q. settled_claimed w (sym q)))
not_unsettled Settled f = refl

pub seat_there : (l : List Seat) (v : ℕ) → v < length l → (o : Seat) × (slice_get l v ≡ Some o)
seat_there [] v lt = absurd (omega (arith, lt))
seat_there (o ∷ l) zero lt = (o, refl)
seat_there (o ∷ l) (suc v) lt = seat_there l v (omega (arith, lt))

module _ (p : PlanParts) (plan : IsPlan p) (core : IsCorePlan p) (spares : HasFreeSpares p) (replies : ℕ → List Reply) (reply : ℕ → Reply) (one : HasOneReply reply replies) (s : State) (live : IsLive p replies reply s)
    (idle : (v : ℕ) (o : Seat) → slice_get s.seats v ≡ Some o → NextInTurn p s v (answer p reply o) o.hand (decided p (answer p reply o) o.task) None) where
  free : (v : ℕ) (o : Seat) → slice_get s.seats v ≡ Some o → o.task ≡ Free
  free v o at = is_free_then p plan core replies reply one s live v o at o.hand (decided p (answer p reply o) o.task) refl (idle v o at)

  nothing : (v : ℕ) (o : Seat) → slice_get s.seats v ≡ Some o → NextFree p s v (answer p reply o) o.hand None
  nothing v o at = subst (λ (t : Task). NextInTurn p s v (answer p reply o) o.hand t None) (ap (decided p (answer p reply o)) (free v o at)) (idle v o at)

  empty : (v : ℕ) (o : Seat) → slice_get s.seats v ≡ Some o → (hand : Option Hand) → o.hand ≡ hand → hand ≡ None
  empty v o at None e = refl
  empty v o at (Some hand) e = absurd (waits hand.waiting refl (subst (λ (y : Option Hand). NextFree p s v (answer p reply o) y None) e (nothing v o at)))
    where
      kept : HandOn p reply s.statuses v Free hand
      kept = subst (HandsOn p reply s.statuses v Free) e (hand_on p core replies reply s live.kept.0 live.kept.1 v o at live.on Free (free v o at))

      waits : (waiting : Option ℕ) → hand.waiting ≡ waiting → NextWaiting p s (answer p reply o) hand waiting None → ⊥
      waits None is next = none-some (hand_action p (answer p reply o) hand) next
      waits (Some c) is busy = (let none = ap length (spares c (kept.waits c is).1) in busy (λ j le lt. absurd (omega (arith, none, lt))))

  quiet : IsQuiet s.seats
  quiet v o at = (free v o at, empty v o at o.hand refl)

  refuses : (w n : ℕ) → w < length s.seats → n < size p.tree → MayTake p s w n → ⊥
  refuses w n inside lt may =
      let r = seat_there s.seats w inside in
      subst (λ (y : Option Hand). NextFree p s w (answer p reply r.0) y None) (empty w r.0 r.1 r.0.hand refl) (nothing w r.0 r.1) n lt may

  within : (n : ℕ) (to : Option ℕ) → status_at s n ≡ Ready to → n < size p.tree
  within n to at = (let lt = word_inside s.statuses n (λ q. hidden_ready to (sym at ∙ q)) in let len = live.kept.1.statuses_len in omega (arith, lt, len))

  never : (status_at s 0 ≡ Settled → ⊥) → ⊥
  never unsettled = (let c : Chosen p s = choose p plan core replies reply s live.kept.0 live.kept.1 live.on quiet unsettled in by_offer c c.to c.ready)
    where
      by_offer : (c : Chosen p s) (to : Option ℕ) → status_at s c.node ≡ Ready to → ⊥
      by_offer c None ready = refuses 0 c.node live.some (within c.node None ready) (record { offered = ap (is_offered_to 0) ready; free = c.admits_all })
      by_offer c (Some v) ready = refuses v c.node (live.on.offered c.node v ready).0 (within c.node (Some v) ready) (record { offered = ap (is_offered_to v) ready ∙ eq-eqb v v refl; free = c.admits_all })

  pub all_settled : status_at s 0 ≡ Settled
  all_settled = not_unsettled (status_at s 0) never
