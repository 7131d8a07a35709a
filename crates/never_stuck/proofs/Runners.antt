-- Whoever runs the children of a node has started it, so has drawn an event.
use Rattle.std.proofs.Common.{◌≡◌, ℕ, ◌+◌, ◌<◌, true, ◌&&◌, ◌==◌, List, Some, slice_get, refl, ap, subst, eqb-true, arith}
use Rattle.std.proofs.lemmas.Bool.{and_parts}
use Rattle.descriptor.specs.Nodes.{size, parent_of, IsChild}
use Rattle.plan_events.specs.declared.event.Event.{Event}
use Rattle.plan_events.specs.declared.event.EventKind.TheVariants.{Started}
use Rattle.plan_events.specs.declared.outcome.Reply.{Reply}
use Rattle.resource_locks.specs.Plans.{PlanParts}
use Rattle.event_history.specs.Places.{is_of}
use Rattle.event_history.specs.Plans.{is_same}
use Rattle.event_history.proofs.Places.{finds}
use Rattle.scheduling.specs.declared.status.NodeStatus.TheVariants.{Claimed}
use Rattle.scheduling.specs.State.{State, status_at}
use Rattle.scheduling.specs.Inside.Stages.{Stage, Below, picture, starter_of, starter_by, runner_of, is_live, is_owned}
use Rattle.scheduling.specs.Inside.Invariant.{IsCorePlan, Fits, Holds}
use Rattle.scheduling.proofs.GoingLocks.{parent_runs}
use Rattle.scheduling.proofs.RowsOne.{runs_is}

-- of a node that was come to and is not counted off: who claimed its parent, an event that this worker has drawn, and that a
-- SAME_THREAD node is this worker's
pub record IsRun (p : PlanParts) (s : State) (g : ℕ → Stage) (n : ℕ) : Type 0 where
  pub owner : ℕ
  pub claimed : status_at s (parent_of p.tree n) ≡ Claimed owner
  pub owned : is_same p n ≡ true → is_owned owner (g n) ≡ true
  pub place : ℕ
  pub event : Event
  pub stands : slice_get s.published place ≡ Some event
  pub draws : event.worker ≡ owner + 1

pub runner : (p : PlanParts) → IsCorePlan p → (replies : ℕ → List Reply) (s : State) (g : ℕ → Stage) → Holds p replies s g → (n : ℕ) → 0 < n → n < size p.tree → is_live (g n) ≡ true → IsRun p s g n
runner p core replies s g h n low small live =
    let a : ℕ = parent_of p.tree n in
    let ch : IsChild p.tree a n = record { above_zero = low; inside = small; parent = refl } in
    let up = parent_runs p core replies s g h a n ch live in
    let before = core.plan.rooted.up n low small in
    let is = runs_is p a (g a) up.0 (ap runner_of up.2.0) in
    let starts : starter_of (picture p a (g a)) ≡ Some up.0 = (λ k. starter_by (is.1 k) (is.0 k)) in
    let f = finds (λ (e : Event). is_of Started a e && (e.worker == up.0 + 1)) s.published (h.starters a up.0 (omega (arith, before, small)) starts) in
    record {
      owner = up.0;
      claimed = up.2.1;
      owned = (subst (λ (b : Below). Fits p b a n (g n)) up.2.0 (h.edges a n ch)).owned;
      place = f.0;
      event = f.1.0;
      stands = f.1.1;
      draws = eqb-true f.1.0.worker (up.0 + 1) (and_parts (is_of Started a f.1.0) (f.1.0.worker == up.0 + 1) f.1.2).1;
    }
