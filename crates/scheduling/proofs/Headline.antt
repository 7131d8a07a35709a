-- What every state has that steps lead to from the opening.
use Rattle.std.proofs.Common.{◌≤◌, ◌≡◌, ℕ, List, [], ◌∷◌, length, Option, Some, None, refl, subst}
use Rattle.descriptor.specs.Nodes.{IsTree}
use Rattle.plan_events.specs.declared.outcome.Reply.{Reply}
use Rattle.resource_locks.specs.Plans.{PlanParts}
use Rattle.event_history.proofs.Roots.{nothing_after}
use Rattle.event_history.proofs.Whole.{complete_at_finish}
use Rattle.event_history.proofs.Spares.{plan_tree, maker_spares}
use Rattle.scheduling.specs.State.{State}
use Rattle.scheduling.specs.Rows.{Step, after}
use Rattle.scheduling.specs.Runs.{opening, IsReplied, AllReplied, or_stays, next, run, IsRight}
use Rattle.scheduling.specs.Inside.Invariant.{IsCorePlan, IsKept}
use Rattle.scheduling.specs.Shown.{IsPlaced}
use Rattle.scheduling.proofs.SameWorkers.{all_workers}
use Rattle.scheduling.proofs.Steps.{after_keeps}
use Rattle.scheduling.proofs.FirstState.{opening_is}
use Rattle.scheduling.proofs.Placing.{run_placed}
use Rattle.scheduling.proofs.Shown.{given_shown}

next_keeps : (p : PlanParts) → IsCorePlan p → (replies : ℕ → List Reply) (s : State) (a : Step) → IsKept p replies s → IsReplied p replies s a → IsKept p replies (next p s a)
next_keeps p core replies s a kept replied = go (after p s a) refl
  where
    go : (found : Option State) → after p s a ≡ found → IsKept p replies (or_stays s found)
    go None q = kept
    go (Some t) q = after_keeps p core replies s t a kept replied q

-- The invariant is kept by every list of steps.
pub run_keeps : (p : PlanParts) → IsCorePlan p → (replies : ℕ → List Reply) (s : State) (list : List Step) → IsKept p replies s → AllReplied p replies s list → IsKept p replies (run p s list)
run_keeps p core replies s [] kept replied = kept
run_keeps p core replies s (a ∷ list) kept replied = run_keeps p core replies (next p s a) list (next_keeps p core replies s a kept replied.0) replied.1

pub kept_right : (p : PlanParts) → IsCorePlan p → (replies : ℕ → List Reply) (s : State) → IsKept p replies s → IsPlaced s → IsRight p replies (length s.seats) s
kept_right p core replies s kept placed =
    let h = kept.1 in
    record {
      legal = h.published.legal;
      order = h.published.order;
      exclusive = h.published.exclusive;
      within = h.published.within;
      given = (h.given.rest, h.given.front);
      shown = given_shown s h.given placed;
      last = nothing_after p core.plan replies (length s.seats) s.published h.published.legal;
      complete = complete_at_finish p core.plan replies (length s.seats) s.published h.published.legal;
    }

-- what the core asks of a plan's tree, every tree of nodes has
pub core_plan : (p : PlanParts) → IsTree p.tree → IsCorePlan p
core_plan p tree = record { plan = plan_tree p.tree tree; few = tree.few; makers = maker_spares p.tree tree }

-- Whatever steps the workers and the dispatcher take, in whatever order: what is published is legal, in order, exclusive and within limits;
-- what is given is a beginning of it, and was shown; and where the plan's finish stands, it stands last and the history is complete.
pub headline : (p : PlanParts) → IsTree p.tree → (replies : ℕ → List Reply) (workers : ℕ) → workers ≤ 64 → (list : List Step) → AllReplied p replies (opening p workers) list
    → IsRight p replies workers (run p (opening p workers) list)
headline p tree replies workers few list replied =
    let core = core_plan p tree in
    subst (λ n. IsRight p replies n (run p (opening p workers) list)) (all_workers p workers list)
    (kept_right p core replies (run p (opening p workers) list) (run_keeps p core replies (opening p workers) list (opening_is p core replies workers few) replied) (run_placed p workers list))
